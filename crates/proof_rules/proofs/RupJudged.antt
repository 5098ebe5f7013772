-- A `rup` step is legal or has a fault.
use Rattle.std.proofs.Common.{inl, inr, refl}
use Rattle.linear.specs.declared.constraint.Signed.{Signed}
use Rattle.normal_form.specs.Normal.{NormalConstraint}
use Rattle.proof_rules.specs.declared.fault.StepFault.{StepFault}
use Rattle.proof_rules.specs.declared.fault.StepFault.TheVariants as faults
use Rattle.proof_rules.specs.Fault.{IsAdmissionFault, IsRupFault}
use Rattle.proof_rules.specs.Legal.{LegalRup}
use Rattle.proof_rules.specs.Shown.{IsShown, IsAdmitted}
use Rattle.proof_rules.specs.State.{State, constraints, HasRoom, with_constraint}
use Rattle.proof_rules.proofs.Deciding.{Decided, Judged}
use Rattle.proof_rules.proofs.ShownOrNot.{Admission, admission_judged, shown_decided}

admission_rup : (s : State) (c : Signed) (f : StepFault) → IsAdmissionFault s c f → IsRupFault s c f
admission_rup s c faults.NotShown h = absurd h
admission_rup s c _ h = h

shown_or_not : (s : State) (c : Signed) (n : NormalConstraint) → IsAdmitted c n → HasRoom s → Decided (IsShown (constraints s) n) → Judged (LegalRup s c) (IsRupFault s c)
shown_or_not s c n admitted room (inl shown) = inl (with_constraint n s, (n, admitted, shown, (room, refl)))
shown_or_not s c n admitted room (inr not) = inr (faults.NotShown, (n, admitted, room, not))

from_admission : (s : State) (c : Signed) → Admission s c → Judged (LegalRup s c) (IsRupFault s c)
from_admission s c (inl (n, admitted, room)) = shown_or_not s c n admitted room (shown_decided (constraints s) n admitted.form.rises)
from_admission s c (inr (f, fault)) = inr (f, admission_rup s c f fault)

pub rup_judged : (s : State) (c : Signed) → Judged (LegalRup s c) (IsRupFault s c)
rup_judged s c = from_admission s c (admission_judged s c)
