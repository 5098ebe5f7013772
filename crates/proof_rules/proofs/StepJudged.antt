-- Every step is legal or has a fault.
use Rattle.std.proofs.Common.{inl, inr}
use Rattle.linear.specs.declared.constraint.Signed.{Signed}
use Rattle.linear.specs.Opb.{Opb}
use Rattle.substitution.specs.Images.{Images}
use Rattle.proof_rules.specs.declared.fault.StepFault.{StepFault}
use Rattle.proof_steps.specs.declared.step.Step.{Step}
use Rattle.proof_steps.specs.declared.step.Step.TheVariants as steps
use Rattle.proof_rules.specs.declared.fault.StepFault.TheVariants as faults
use Rattle.proof_rules.specs.Fault.{IsRedFault, IsSolFault, IsSoliFault, IsDelFault, IsStepFault}
use Rattle.proof_rules.specs.Legal.{Legal, LegalRed, LegalSol, LegalSoli, LegalDel}
use Rattle.proof_rules.specs.Preserved.{AreNormal}
use Rattle.proof_rules.specs.State.{State}
use Rattle.proof_rules.proofs.BlocksJudged.{outside_step, begin_judged, goal_judged, end_judged}
use Rattle.proof_rules.proofs.Deciding.{Judged}
use Rattle.proof_rules.proofs.PolJudged.{pol_judged}
use Rattle.proof_rules.proofs.RupJudged.{rup_judged}
use Rattle.proof_rules.proofs.RedJudged.{red_judged}
use Rattle.proof_rules.proofs.SolJudged.{sol_judged, soli_judged}
use Rattle.proof_rules.proofs.DelJudged.{del_judged}

pub no_red_fault : (p : Opb) (s : State) (c : Signed) (images : Images) → IsRedFault p s c images faults.BlockOpen → ⊥
no_red_fault p s c images (inl h) = h
no_red_fault p s c images (inr (n, m, admitted, room, negated, h)) = h

pub step_judged : (p : Opb) (s : State) (step : Step) → AreNormal s → Judged (Legal p s step) (IsStepFault p s step)
step_judged p s (steps.Pol written) normal = pol_judged s written normal
step_judged p s (steps.Rup c) normal = rup_judged s c
step_judged p s (steps.Red c images) normal = outside_step s (LegalRed p s c images) (IsRedFault p s c images) (no_red_fault p s c images) (red_judged p s c images)
step_judged p s (steps.Sol assigned) normal = outside_step s (LegalSol p s assigned) (IsSolFault p s assigned) (λ h. h) (sol_judged p s assigned)
step_judged p s (steps.Soli assigned) normal = outside_step s (LegalSoli p s assigned) (IsSoliFault p s assigned) (λ h. h.1) (soli_judged p s assigned)
step_judged p s (steps.Del ids) normal = outside_step s (LegalDel s ids) (IsDelFault s ids) (λ h. h) (del_judged s ids)
step_judged p s (steps.RedBegin c images) normal = begin_judged s c images
step_judged p s (steps.Goal name) normal = goal_judged p s name
step_judged p s steps.End normal = end_judged p s

-- without a fault it is legal
pub faultless_legal : (p : Opb) (s : State) (step : Step) → AreNormal s → ((f : StepFault) → IsStepFault p s step f → ⊥) → (t : State) × Legal p s step t
faultless_legal p s step normal none = elim (step_judged p s step normal) as (λ _. (t : State) × Legal p s step t) [
  | inl legal ↦ legal
  | inr fault ↦ absurd (none fault.0 fault.1)
]
