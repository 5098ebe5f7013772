-- The goals of redundance-based strengthening (Gocht and Nordström).
--
-- What it adds need not follow. Where it fails at an answer, the answer after the substitution takes that one's place:
-- so it has to meet each live constraint and the new one, and to be worth no more. Since it is needed only where the new
-- constraint fails, each goal may be shown beside the negation of that.
use Rattle.std.specs.Prelude.{List, [], ◌∷◌, ◌++◌, All, IfSome}
use Rattle.linear.specs.declared.term.Term.{Term}
use Rattle.linear.specs.Opb.{Opb}
use Rattle.normal_form.specs.Normal.{NormalConstraint}
use Rattle.normal_form.specs.Negation.{IsNegation}
use Rattle.substitution.specs.Images.{Images}
use Rattle.substitution.specs.Under.{IsUnder}
use Rattle.substitution.specs.Objective.{IsObjectiveGoal}
use Rattle.proof_rules.specs.Shown.{IsShown}

-- what a constraint becomes under the substitution is shown
abbrev pub IsShownUnder : List NormalConstraint → Images → NormalConstraint → Type 0
IsShownUnder from images n = (r : NormalConstraint) × IsUnder n images r × IsShown from r

-- the substitution is shown not to raise an objective
abbrev pub IsShownNotRaised : List NormalConstraint → Images → List Term → Type 0
IsShownNotRaised from images objective = (r : NormalConstraint) × IsObjectiveGoal objective images r × IsShown from r

-- the goals of redundance, each shown from the live constraints and the negation of the new one: every live constraint
-- and the new one under the substitution, and that the objective does not rise
pub record Redundant (p : Opb) (live : List NormalConstraint) (images : Images) (n m : NormalConstraint) : Type 0 where
  pub negation : IsNegation n m
  pub each_live : All (IsShownUnder (live ++ m ∷ []) images) live
  pub itself : IsShownUnder (live ++ m ∷ []) images n
  pub objective : IfSome p.objective (IsShownNotRaised (live ++ m ∷ []) images)
