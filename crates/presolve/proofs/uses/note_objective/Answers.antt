use Rattle.std.proofs.Common.{◌≡◌, ◌∙◌, pos, not, subst}
use Rattle.std.specs.Prelude.{◌≤ℤ◌, List}
use Rattle.linear.specs.declared.constraint.Relation.TheVariants.{Equal}
use Rattle.linear.specs.declared.constraint.Signed.{Signed}
use Rattle.linear.specs.declared.term.Term.{Term}
use Rattle.presolve.specs.Fixing.{price}
use Rattle.presolve.specs.Uses.{Notes}
use Rattle.presolve.proofs.Noting.{less_noted}
use Rattle.presolve.proofs.uses.note_objective.Goals as goal

pub returns : goal.returns
returns c =
    let old = c.args.table.now in
    let new = c.note_form.new.table in
    let equality : Signed = record { terms = c.from_vec.result; relation = Equal; right = pos 0 } in
    let is : c.from_vec.result ≡ c.args.objective.now = c.from_vec.ensures ∙ c.in_ok-terms.ensures.items in
    subst (λ (terms : List Term). Notes (λ v s. price terms v (not s) ≤ℤ pos 0) old new) is (less_noted equality c.in_ok-less.less old new c.in_ok-less.ensures.form.at_most c.note_form.ensures)
