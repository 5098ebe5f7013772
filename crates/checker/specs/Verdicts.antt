-- What a verdict says of the texts of a problem and of a proof.
use Rattle.std.specs.Prelude.{◌≡◌, ◌≢◌, ℕ, pos, List, ⊤}
use Rattle.linear.specs.Opb.{Opb}
use Rattle.linear.specs.Limits.{IsWithin}
use Rattle.opb_read.specs.Spells.{Spells}
use Rattle.opb_read.specs.Faults.{Denies}
use Rattle.opb_read.specs.FaultLine.{IsFaultAt}
use Rattle.opb_read.specs.declared.fault.OpbFault.{OpbFault}
use Rattle.opb_read.specs.declared.fault.OpbCode.TheVariants as problems
use Rattle.kernel.specs.Accepted.{Judgement}
use Rattle.proof_rules.specs.Claim.{Claim}
use Rattle.proof_rules.specs.Forms.{problem_ids}
use Rattle.proof_rules.specs.Justified.{IsLegalProof}
use Rattle.proof_steps.specs.declared.step.Step.{Step}
use Rattle.proof_text.specs.ProofSpells.{SpellsProof}
use Rattle.checker.specs.Stopped.{IsStopped}
use Rattle.checker.specs.declared.verdict.Code.{Code}
use Rattle.checker.specs.declared.verdict.Verdict.{Verdict}
use Rattle.checker.specs.declared.verdict.Verdict.TheVariants as verdicts

-- The text of a proof spells steps of the problem, with the count of its constraints, that lead from its file by legal
-- steps to the conclusion.
pub record IsProved (p : Opb) (proof : List ℕ) (accepted : Judgement) : Type 0 where
  pub steps : List Step
  pub spelled : SpellsProof proof p.names (pos (problem_ids p.constraints)) steps accepted.conclusion
  pub legal : IsLegalProof p steps accepted.conclusion accepted.best

-- The text spells exactly one problem, what was accepted is true of that problem's own signed terms, and the proof
-- proves it.
pub record IsTrueOf (text proof : List ℕ) (accepted : Judgement) : Type 0 where
  pub problem : Opb
  pub spelled : Spells text problem
  pub within : IsWithin problem
  pub alone : (other : Opb) → Spells text other → other ≡ problem
  pub claim : Claim problem accepted.conclusion accepted.best
  pub proved : IsProved problem proof accepted

-- the text spells a problem within the limits
abbrev pub SpellsProblem : List ℕ → Type 0
SpellsProblem text = (problem : Opb) × Spells text problem × IsWithin problem

-- The text has this fault, at the first token that cannot stand: it spells no problem, or none within the limits.
pub record IsBadProblem (text : List ℕ) (fault : OpbFault) : Type 0 where
  pub denied : Denies fault.code text
  pub place : IsFaultAt text fault.code fault.line
  pub no_memory : fault.code ≢ problems.OutOfMemory

-- the text is no legal proof, of any conclusion
abbrev pub IsUnproved : Opb → List ℕ → Type 0
IsUnproved p proof = (a : Judgement) → IsProved p proof a → ⊥

-- The text spells a problem, and judging the proof stops at this line with this code; so it is no legal proof.
pub record IsRefusedProof (text proof : List ℕ) (line : ℕ) (code : Code) : Type 0 where
  pub problem : Opb
  pub spelled : Spells text problem
  pub within : IsWithin problem
  pub stopped : IsStopped problem proof line code
  pub unproved : IsUnproved problem proof

-- What a verdict says of the text of a problem and the text of a proof. Accepted: the conclusion is true of the
-- problem, and proved. Refused: the proof is none, and this is its first line that cannot be read or is not legal. A
-- bad problem: its text spells none within the limits, for this reason. That memory ran out says nothing.
abbrev pub IsVerdictOf : List ℕ → List ℕ → Verdict → Type 0
IsVerdictOf text proof (verdicts.Accepted accepted) = IsTrueOf text proof accepted
IsVerdictOf text proof (verdicts.Refused line code) = IsRefusedProof text proof line code
IsVerdictOf text proof (verdicts.BadProblem fault) = IsBadProblem text fault
IsVerdictOf text proof verdicts.NoMemory = ⊤
