-- A constraint whose sizes or form are too large is not admitted.
use Rattle.std.proofs.Common.{◌≡◌, inl, inr, Result, Err, refl, ap, subst, arith}
use Rattle.std.proofs.lemmas.Result.{err_from_is_err_and}
use Rattle.linear.specs.declared.constraint.Signed.{Signed}
use Rattle.normal_form.specs.declared.fault.CutFault.{CutFault}
use Rattle.normal_form.specs.declared.fault.CutFault.TheVariants as cuts
use Rattle.normal_form.specs.Normal.{NormalConstraint, Fits}
use Rattle.normal_form.specs.NormalOf.{IsTooLarge}
use Rattle.normal_form.proofs.NormalForm.{one_form}
use Rattle.proof_rules.specs.Fault.{OrMemory}
use Rattle.proof_rules.specs.RuleFault.{of_rule}
use Rattle.proof_rules.specs.Shown.{IsAdmitted}
use Rattle.kernel.specs.Held.{IsUnadmitted}
use Rattle.kernel.proofs.admission.admitted.Goals as goal

too_large : (c : Signed) → IsTooLarge c → (n : NormalConstraint) → IsAdmitted c n → ⊥
too_large c (inl sizes) n admitted = let small = admitted.sizes in absurd (omega (arith, sizes, small))
too_large c (inr (m, h)) n admitted = h.breaks (subst Fits (one_form c n m admitted.form h.form) admitted.fits)

unadmitted : (c : Signed) (f : CutFault) → (f ≡ cuts.TooLarge → IsTooLarge c) → (f ≡ cuts.BadFactor → ⊥) → OrMemory (of_rule f) (IsUnadmitted c (of_rule f))
unadmitted c cuts.TooLarge large factor = too_large c (large refl)
unadmitted c cuts.BadFactor large factor = absurd (factor refl)
unadmitted c cuts.OutOfMemory large factor = tt

of_fault : (f g : CutFault) → f ≡ g → ◌≡◌ {A = Result NormalConstraint CutFault} (Err f) (Err g)
of_fault f g e = ap Err e

pub returns-in_err-normalize-clause-fault : goal.returns-in_err-normalize-clause-fault
returns-in_err-normalize-clause-fault c =
    let f : CutFault = c.in_err-normalize.field-0.0 in
    let p = err_from_is_err_and c.from_residual.result c.from_residual.ensures.1 in
    rw (p.1, p.2) (unadmitted c.args.constraint.now f (λ e. c.in_err-normalize.ensures.too_large (of_fault f cuts.TooLarge e)) (λ e. c.in_err-normalize.ensures.factor (of_fault f cuts.BadFactor e)))
