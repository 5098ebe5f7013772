use Rattle.std.proofs.Common.{◌≡◌, ◌↔◌, Contains, IsTrue, get_or, refl, ap, subst, sym, ◌∙◌}
use Rattle.std.proofs.lemmas.List.{get_or_default}
use Rattle.presolve.specs.contracts.form.FormPartialEq.TheImpl as forms
use Rattle.presolve.specs.Forms.{HasExchange, constraint_of, constraints_of}
use Rattle.presolve.specs.declared.form.Form.{Form}
use Rattle.presolve.proofs.SameForms.{tells}
use Rattle.presolve.proofs.Symmetry.{exchange_found, key_in}
use Rattle.presolve.proofs.file_forms.FileForms.has_exchange.Goals as goal

pub returns : goal.returns
returns c d =
    let keys = c.args.self.now.keys.keys in
    let i = c.args.place in
    let key : Form = c.index-as_slice-place.result in
    let read : key ≡ get_or keys i d = c.index-as_slice-place.is ∙ ap (λ ks. get_or ks i key) c.as_slice.ensures.keys ∙ get_or_default keys i key d c.requires.inside in
    subst (λ k. IsTrue c.contains.result ↔ HasExchange (c.args.x.0) (c.args.y.0) (constraints_of keys) (constraint_of k)) read
    (exchange_found forms.eq-value.it tells keys (c.args.x.0) (c.args.y.0) (constraint_of key) c.in_ok-image.image c.contains.result c.requires.indexed.rises
    c.in_ok-image.ensures.exchange c.in_ok-image.ensures.rises c.contains.ensures)

pub returns-then-has_alike : goal.returns-then-has_alike
returns-then-has_alike c d =
    let keys = c.args.self.now.keys.keys in
    let i = c.args.place in
    let key : Form = c.index-as_slice-place.result in
    let read : key ≡ get_or keys i d = c.index-as_slice-place.is ∙ ap (λ ks. get_or ks i key) c.as_slice.ensures.keys ∙ get_or_default keys i key d c.requires.inside in (
      λ h. subst (λ k. HasExchange (c.args.x.0) (c.args.y.0) (constraints_of keys) (constraint_of k)) read
          (constraint_of key, subst (λ k. Contains (constraints_of keys) (constraint_of k)) (sym read) (key_in keys i d c.requires.inside), c.has_alike.ensures c.if-has_alike.true),
      λ h. refl,
    )
