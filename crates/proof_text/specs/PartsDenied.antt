-- Of the code, not of the format: what the fault of a function that reads a part of a line says of the words of that part.
use Rattle.std.specs.Prelude.{◌≡◌, ℕ, Bool, true, false, Some, List, ⊤}
use Rattle.proof_steps.specs.declared.step.Step.{Step}
use Rattle.proof_text.specs.declared.keyword.Rule.{Rule}
use Rattle.proof_text.specs.Numbering.{names_in}
use Rattle.proof_text.specs.Steps.{step_by, counted_by, IsProper}
use Rattle.proof_text.specs.Faults.{DeniesBy, DeniesStep}
use Rattle.proof_text.specs.Spells.{is_misplaced}
use Rattle.proof_text.specs.declared.line.Section.{Section}
use Rattle.proof_text.specs.Words.{AreSmall}
use Rattle.proof_text.specs.declared.fault.ProofFault.{ProofFault}
use Rattle.proof_text.specs.declared.fault.ProofFault.TheVariants as faults

-- one of the faults of form
abbrev pub IsForm : ProofFault → Type 0
IsForm faults.UnknownRule = ⊤
IsForm faults.RuleLeftOut = ⊤
IsForm faults.BadLine = ⊤
IsForm _ = ⊥

-- A fault of form: the words do not have the form. An integer that is too large: one of them is. Running out of memory says
-- nothing, and no other fault comes.
abbrev pub Denies : ProofFault → Bool → List (List ℕ) → Type 0
Denies faults.UnknownRule form ws = form ≡ false
Denies faults.RuleLeftOut form ws = form ≡ false
Denies faults.BadLine form ws = form ≡ false
Denies faults.IntegerTooLarge form ws = AreSmall ws → ⊥
Denies faults.OutOfMemory form ws = ⊤
Denies _ form ws = ⊥

-- the words behind a rule's own word are no step, or they are one
abbrev pub NoStepBy : Rule → List (List ℕ) → List (List ℕ) → Type 0
NoStepBy rule names ws = (step : Step) → step_by rule (names_in names (counted_by rule ws)) ws ≡ Some step → IsProper step → ⊥

abbrev pub SomeStepBy : Rule → List (List ℕ) → List (List ℕ) → Type 0
SomeStepBy rule names ws = (step : Step) × (step_by rule (names_in names (counted_by rule ws)) ws ≡ Some step) × IsProper step

-- what a fault says of the words behind a rule's own word
abbrev pub DeniesRule : ProofFault → Rule → List (List ℕ) → List (List ℕ) → Type 0
DeniesRule fault rule names ws = DeniesBy fault (NoStepBy rule names ws) (SomeStepBy rule names ws) (counted_by rule ws) (names_in names (counted_by rule ws))

-- What a fault says of the words of a step at a section: where no step of their rule may stand it is BadLine, and elsewhere
-- it is a fault of the step.
pub record DeniesStepAt (fault : ProofFault) (section : Section) (names ws : List (List ℕ)) : Type 0 where
  pub misplaced : is_misplaced section ws ≡ true → fault ≡ faults.BadLine
  pub placed : is_misplaced section ws ≡ false → DeniesStep fault names ws
