-- Of the code, not of the format: what a function that reads a step leaves, the names that are met on the way included.
use Rattle.std.specs.Prelude.{◌≡◌, ℕ, Some, List}
use Rattle.proof_steps.specs.declared.step.Step.{Step}
use Rattle.proof_text.specs.declared.keyword.Rule.{Rule}
use Rattle.proof_text.specs.Words.{AreSmall}
use Rattle.proof_text.specs.NamesMet.{NamesMet, met_in}
use Rattle.proof_text.specs.Steps.{IsProper, step_by, counted_by, step_of, counted}

-- the words behind a rule's own word are this step, as it is read
pub record IsStepRead (rule : Rule) (k : NamesMet) (ws : List (List ℕ)) (step : Step) (new : NamesMet) : Type 0 where
  pub says : step_by rule new.names ws ≡ Some step
  pub proper : IsProper step
  pub known : new ≡ met_in k (counted_by rule ws)
  pub small : AreSmall (counted_by rule ws)

-- the words of a line are this step, as it is read
pub record IsStepLineRead (k : NamesMet) (ws : List (List ℕ)) (step : Step) (new : NamesMet) : Type 0 where
  pub says : step_of new.names ws ≡ Some step
  pub proper : IsProper step
  pub known : new ≡ met_in k (counted ws)
  pub small : AreSmall (counted ws)
