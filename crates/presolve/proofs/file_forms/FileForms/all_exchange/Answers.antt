use Rattle.std.proofs.Common.{ℕ, List, All, length, get_or, refl, sym, subst, ◌∙◌}
use Rattle.std.proofs.lemmas.Bool.{false≢true}
use Rattle.std.proofs.lemmas.List.{take_all}
use Rattle.std.proofs.lemmas.List.Elements.{All-more}
use Rattle.presolve.specs.Forms.{HasExchangeAt}
use Rattle.presolve.specs.declared.form.Form.{Form}
use Rattle.presolve.proofs.Symmetry.{lent, place_inside, some_form}
use Rattle.presolve.proofs.file_forms.FileForms.all_exchange.Goals as goal

pub has_exchange-requires-clause-inside : goal.has_exchange-requires-clause-inside
has_exchange-requires-clause-inside c =
    let keys = c.args.self.now.keys.keys in
    let table = c.args.self.now.places.items in
    let v = c.args.variable.0 in
    let same = c.as_slice-place-items.ensures.value ∙ lent table v c.index.result.now c.requires.variable c.index.ensures in
    place_inside keys (length table) table v c.loop-place.place-index c.as_slice-place-items.result.now c.requires.indexed.places c.requires.variable same c.loop-place-test.true

pub returns-then-not-branch : goal.returns-then-not-branch
returns-then-not-branch c =
    let keys = c.args.self.now.keys.keys in
    let table = c.args.self.now.places.items in
    let v = c.args.variable.0 in
    let i = c.loop-place.place-index in
    let xs : List ℕ = c.as_slice-place-items.result.now in
    let same = c.as_slice-place-items.ensures.value ∙ lent table v c.index.result.now c.requires.variable c.index.ensures in
    let inside = place_inside keys (length table) table v i xs c.requires.indexed.places c.requires.variable same c.loop-place-test.true in
    let k : Form = some_form keys (get_or xs i 0) inside in (
      λ e. absurd (false≢true e),
      λ all.
          let here = subst (λ l. All (λ p. HasExchangeAt (c.args.x.0) (c.args.y.0) keys p) l) (sym same) all i 0 c.loop-place-test.true in
          sym c.if-not-branch.true ∙ (c.in_ok-has_exchange.ensures k).1 (here k),
    )

pub loop-place-preserved : goal.loop-place-preserved
loop-place-preserved c =
    All-more (λ p. HasExchangeAt (c.args.x.0) (c.args.y.0) c.args.self.now.keys.keys p) c.as_slice-place-items.result.now c.loop-place.place-index 0 c.loop-place-test.true c.loop-place.invariant
    (λ d. (c.in_ok-has_exchange.ensures d).0 c.if-not-branch.false)

pub returns : goal.returns
returns c =
    let table = c.args.self.now.places.items in
    let v = c.args.variable.0 in
    let same = c.as_slice-place-items.ensures.value ∙ lent table v c.index.result.now c.requires.variable c.index.ensures in
    (λ e. subst (λ l. All (λ p. HasExchangeAt (c.args.x.0) (c.args.y.0) c.args.self.now.keys.keys p) l) (take_all c.loop-place.place-index c.as_slice-place-items.result.now c.loop-place-test.false ∙ same) c.loop-place.invariant, λ all. refl)
