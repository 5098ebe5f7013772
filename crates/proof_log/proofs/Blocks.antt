-- The steps of blocks log nothing.
use Rattle.std.proofs.Common.{◌≡◌, ℕ, Option, Some, None, ap}
use Rattle.linear.specs.Opb.{Opb}
use Rattle.linear.specs.declared.constraint.Signed.{Signed}
use Rattle.substitution.specs.Images.{Images}
use Rattle.proof_steps.specs.declared.step.GoalName.{GoalName}
use Rattle.proof_rules.specs.Block.{EndsOpen, LegalEnd, LegalGoal, LegalRedBegin}
use Rattle.proof_rules.specs.State.{State}

abbrev pub LogsNothing : State → State → Type 0
LogsNothing s t = (t.least ≡ s.least) × (t.logged ≡ s.logged)

pub begin_logs : (s t : State) (c : Signed) (images : Images) → LegalRedBegin s c images t → LogsNothing s t
begin_logs s t c images (n, m, admitted, negated, fits, room, is) = (ap (λ (x : State). x.least) is, ap (λ (x : State). x.logged) is)

pub goal_logs : (p : Opb) (s t : State) (name : GoalName) → LegalGoal p s name t → LogsNothing s t
goal_logs p s t name (k, r, m, some, none, asks, negated, fits, room, is) = (ap (λ (x : State). x.least) is, ap (λ (x : State). x.logged) is)

pub end_logs : (p : Opb) (s t : State) → LegalEnd p s t → LogsNothing s t
end_logs p s t (k, some, ends) = by k.goal ends
  where
    by : (o : Option ℕ) → EndsOpen p s k o t → LogsNothing s t
    by (Some goal) (shown, is) = (ap (λ (x : State). x.least) is, ap (λ (x : State). x.logged) is)
    by None ends = (ap (λ (x : State). x.least) ends.becomes, ap (λ (x : State). x.logged) ends.becomes)
