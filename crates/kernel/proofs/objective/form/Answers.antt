-- A constraint of small sizes has no form within the limits where the form is too large.
use Rattle.std.proofs.Common.{◌≡◌, ◌≤◌, inl, inr, Result, Err, ap, subst, refl, arith}
use Rattle.std.proofs.lemmas.Result.{err_from_is_err_and}
use Rattle.linear.specs.declared.constraint.Signed.{Signed}
use Rattle.normal_form.specs.declared.fault.CutFault.{CutFault}
use Rattle.normal_form.specs.declared.fault.CutFault.TheVariants as cuts
use Rattle.normal_form.specs.Normal.{NormalConstraint, Fits, largest_sum}
use Rattle.normal_form.specs.NormalOf.{IsNormalOf, IsTooLarge, size_sum}
use Rattle.normal_form.proofs.NormalForm.{one_form}
use Rattle.proof_rules.specs.Fault.{OrMemory}
use Rattle.proof_rules.specs.RuleFault.{of_rule}
use Rattle.kernel.specs.Held.{IsUnfit}
use Rattle.kernel.proofs.objective.form.Goals as goal

too_large : (c : Signed) → size_sum c.terms ≤ largest_sum → IsTooLarge c → (n : NormalConstraint) → IsNormalOf c n → Fits n → ⊥
too_large c small (inl sizes) n form fits = absurd (omega (arith, sizes, small))
too_large c small (inr (m, h)) n form fits = h.breaks (subst Fits (one_form c n m form h.form) fits)

unfit : (c : Signed) (f : CutFault) → size_sum c.terms ≤ largest_sum → (f ≡ cuts.TooLarge → IsTooLarge c) → (f ≡ cuts.BadFactor → ⊥) → OrMemory (of_rule f) (IsUnfit c (of_rule f))
unfit c cuts.TooLarge small large factor = too_large c small (large refl)
unfit c cuts.BadFactor small large factor = absurd (factor refl)
unfit c cuts.OutOfMemory small large factor = tt

of_fault : (f g : CutFault) → f ≡ g → ◌≡◌ {A = Result NormalConstraint CutFault} (Err f) (Err g)
of_fault f g e = ap Err e

pub returns-in_err-normalize-clause-fault : goal.returns-in_err-normalize-clause-fault
returns-in_err-normalize-clause-fault c =
    let f : CutFault = c.in_err-normalize.field-0.0 in
    let p = err_from_is_err_and c.from_residual.result c.from_residual.ensures.1 in
    rw (p.1, p.2)
    (unfit c.args.constraint.now f c.requires.small (λ e. c.in_err-normalize.ensures.too_large (of_fault f cuts.TooLarge e)) (λ e. c.in_err-normalize.ensures.factor (of_fault f cuts.BadFactor e)))
