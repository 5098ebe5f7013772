-- What words say once it is known which rule, or which kind of conclusion, the first of them names.
use Rattle.std.proofs.Common.{ℕ, Bool, false, not, Option, Some, None, List, []}
use Rattle.proof_steps.specs.declared.step.Step.{Step}
use Rattle.proof_steps.specs.declared.conclusion.Conclusion.{Conclusion}
use Rattle.proof_text.specs.declared.keyword.Rule.{Rule}
use Rattle.proof_text.specs.declared.keyword.ConclusionKind.{ConclusionKind}
use Rattle.proof_text.specs.Words.{begins_integer}
use Rattle.proof_text.specs.declared.line.Section.{Section}
use Rattle.proof_text.specs.Spells.{may_stand}
use Rattle.proof_text.specs.Steps.{step_by, counted_by}
use Rattle.proof_text.specs.Conclusions.{conclusion_by, literals_by}

abbrev pub step_with : List (List ℕ) → List (List ℕ) → Option Rule → Option Step
step_with names rest None = None
step_with names rest (Some rule) = step_by rule names rest

abbrev pub counted_with : List (List ℕ) → Option Rule → List (List ℕ)
counted_with rest None = []
counted_with rest (Some rule) = counted_by rule rest

abbrev pub misplaced_with : Section → List (List ℕ) → Option Rule → Bool
misplaced_with section rest None = false
misplaced_with section rest (Some rule) = not (may_stand rule section (begins_integer rest))

abbrev pub judged_with : List (List ℕ) → List (List ℕ) → Option ConclusionKind → Option Conclusion
judged_with names rest None = None
judged_with names rest (Some kind) = conclusion_by kind names rest

abbrev pub literals_with : List (List ℕ) → Option ConclusionKind → List (List ℕ)
literals_with rest None = []
literals_with rest (Some kind) = literals_by kind rest
