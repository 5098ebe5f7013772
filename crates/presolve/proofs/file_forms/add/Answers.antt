use Rattle.std.proofs.Common.{◌≡◌, subst, sym}
use Rattle.indexmap.specs.IndexSet.{insert_key}
use Rattle.presolve.specs.contracts.form.FormPartialEq.TheImpl as forms
use Rattle.presolve.specs.Forms.{Adds}
use Rattle.presolve.proofs.Keys.{inserted}
use Rattle.presolve.proofs.SameForms.{tells}
use Rattle.presolve.proofs.file_forms.add.Goals as goal

pub returns : goal.returns
returns c =
    subst (Adds (λ n. n ≡ c.args.normal.now) c.args.keys.now.keys) (sym c.in_ok-insert.ensures.keys)
    (subst (λ m. Adds (λ n. n ≡ m) c.args.keys.now.keys (insert_key forms.eq-value.it c.args.keys.now.keys c.in_ok-of.field-0)) c.in_ok-of.ensures (inserted forms.eq-value.it tells c.args.keys.now.keys c.in_ok-of.field-0))
