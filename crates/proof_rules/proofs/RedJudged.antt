-- A `red` step is legal or has a fault.
use Rattle.std.proofs.Common.{◌≡◌, ◌⊎◌, inl, inr, List, [], ◌∷◌, ◌++◌, Option, Some, None, All, IfSome, refl, sym, subst}
use Rattle.linear.specs.declared.constraint.Signed.{Signed}
use Rattle.linear.specs.declared.term.Term.{Term}
use Rattle.linear.specs.Opb.{Opb}
use Rattle.normal_form.specs.Normal.{NormalConstraint}
use Rattle.normal_form.specs.Negation.{IsNegation}
use Rattle.normal_form.proofs.Negations.{negation, negation_is}
use Rattle.substitution.specs.Images.{Images}
use Rattle.proof_rules.specs.declared.fault.StepFault.{StepFault}
use Rattle.proof_rules.specs.declared.fault.StepFault.TheVariants as faults
use Rattle.proof_rules.specs.Fault.{IsGoalFault, IsRedFault}
use Rattle.proof_rules.specs.Legal.{LegalRed}
use Rattle.proof_rules.specs.Redundant.{IsShownUnder, IsShownNotRaised}
use Rattle.proof_rules.specs.Shown.{IsAdmitted}
use Rattle.proof_rules.specs.State.{State, constraints, HasRoom, with_constraint}
use Rattle.proof_rules.proofs.Deciding.{Decided, Judged}
use Rattle.proof_rules.proofs.LiveConstraints.{All-or_open}
use Rattle.proof_rules.proofs.ShownOrNot.{Admission, admission_judged, under_decided, not_raised_decided}

abbrev Goals : Opb → State → List NormalConstraint → Images → NormalConstraint → Type 0
Goals p s from images n = All (IsShownUnder from images) (constraints s) × IsShownUnder from images n × IfSome p.objective (IsShownNotRaised from images)

-- all goals are shown, or one is the first that is not
abbrev GoalsJudged : Opb → State → List NormalConstraint → Images → NormalConstraint → Type 0
GoalsJudged p s from images n = Goals p s from images n ⊎ ((f : StepFault) × IsGoalFault p s from images n f)

objective_goal : (p : Opb) (s : State) (from : List NormalConstraint) (images : Images) (n : NormalConstraint) (o : Option (List Term)) → p.objective ≡ o
    → All (IsShownUnder from images) (constraints s) → IsShownUnder from images n → GoalsJudged p s from images n
objective_goal p s from images n None is live itself = inl (live, itself, subst (λ o. IfSome o (IsShownNotRaised from images)) (sym is) tt)
objective_goal p s from images n (Some terms) is live itself = elim (not_raised_decided from images terms) as (λ _. GoalsJudged p s from images n) [
  | inl shown ↦ inl (live, itself, subst (λ o. IfSome o (IsShownNotRaised from images)) (sym is) shown)
  | inr not ↦ inr (faults.GoalOpenObjective, (live, itself, (terms, is, not)))
]

own_goal : (p : Opb) (s : State) (from : List NormalConstraint) (images : Images) (n : NormalConstraint)
    → All (IsShownUnder from images) (constraints s) → Decided (IsShownUnder from images n) → GoalsJudged p s from images n
own_goal p s from images n live (inl itself) = objective_goal p s from images n p.objective refl live itself
own_goal p s from images n live (inr not) = inr (faults.GoalOpenSelf, (live, not))

goals_judged : (p : Opb) (s : State) (from : List NormalConstraint) (images : Images) (n : NormalConstraint) → GoalsJudged p s from images n
goals_judged p s from images n = elim (All-or_open (IsShownUnder from images) (under_decided from images) s.live) as (λ _. GoalsJudged p s from images n) [
  | inl live ↦ own_goal p s from images n live (under_decided from images n)
  | inr (id, e, is, not, before) ↦ inr (faults.GoalOpen id, (e, is, not, before))
]

abbrev RedJudged : Opb → State → Signed → Images → Type 0
RedJudged p s c images = Judged (LegalRed p s c images) (IsRedFault p s c images)

from_goals : (p : Opb) (s : State) (c : Signed) (images : Images) (n m : NormalConstraint) → IsAdmitted c n → HasRoom s → IsNegation n m
    → GoalsJudged p s (constraints s ++ m ∷ []) images n → RedJudged p s c images
from_goals p s c images n m admitted room negated (inl (live, itself, objective)) =
    inl (with_constraint n s, (n, m, admitted, record { negation = negated; each_live = live; itself = itself; objective = objective }, (room, refl)))
from_goals p s c images n m admitted room negated (inr (f, fault)) = inr (f, inr (n, m, admitted, room, negated, fault))

from_admission : (p : Opb) (s : State) (c : Signed) (images : Images) → Admission s c → RedJudged p s c images
from_admission p s c images (inl (n, admitted, room)) =
    let m = negation n in
    from_goals p s c images n m admitted room (negation_is n admitted.form.rises) (goals_judged p s (constraints s ++ m ∷ []) images n)
from_admission p s c images (inr (f, fault)) = inr (f, inl fault)

pub red_judged : (p : Opb) (s : State) (c : Signed) (images : Images) → RedJudged p s c images
red_judged p s c images = from_admission p s c images (admission_judged s c)
