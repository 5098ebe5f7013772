-- What the solver's program answers about a problem's text, and what is so then.
use Rattle.std.specs.Prelude.{◌≡◌, ℕ, ℤ, List, [], Bool, None, Some, MatchOption, ⊤}
use Rattle.linear.specs.Opb.{Opb}
use Rattle.opb_read.specs.declared.fault.OpbCode.{OpbCode}
use Rattle.opb_read.specs.declared.fault.OpbCode.TheVariants as codes
use Rattle.kernel.specs.Accepted.{Judgement}
use Rattle.proof_rules.specs.Claim.{IsSolution}
use Rattle.proof_rules.specs.Justified.{IsBest}
use Rattle.proof_rules.specs.Legal.{worth_of}
use Rattle.proof_steps.specs.declared.conclusion.Conclusion.TheVariants as conclusions
use Rattle.proof_steps.specs.declared.conclusion.Lower.TheVariants as lowers
use Rattle.proof_steps.specs.declared.conclusion.Upper.TheVariants as uppers
use Rattle.checker.specs.Verdicts.{IsTrueOf, IsBadProblem}
use Rattle.proof_log.specs.Log.{Logbook, IsFalling, IsWorthLeast, last_of}
use Rattle.search.specs.Solving.{IsBestSoFar, IsOpen, IsOptimum, IsSolvedByAny}
use Rattle.pb_main.specs.declared.outcome.Outcome.{Outcome}
use Rattle.pb_main.specs.declared.outcome.Outcome.TheVariants as outcomes
use Rattle.pb_main.specs.Checked.{IsLogOf, IsWritten, IsWrittenOrNone, IsProofOrNone}
use Rattle.pb_main.specs.Solution.{NamedValues}
use Rattle.pb_main.specs.declared.outcome.Unanswered.TheVariants as reasons

-- The values of the improving solutions fall to what the assignment is worth; without an objective there are none.
abbrev pub AreImprovedTo : Opb → List Bool → List ℤ → Type 0
AreImprovedTo p values improved =
    MatchOption p.objective (improved ≡ []) (λ _. IsFalling improved × (last_of improved ≡ Some (worth_of p values)))

-- A solution of the problem with the problem's names, and what was improved to on the way.
pub record IsSolutionOf (p : Opb) (s : NamedValues) : Type 0 where
  pub names : s.names ≡ p.names
  pub solution : IsSolution p s.values
  pub improved : AreImprovedTo p s.values s.improved

-- The best solution of a log, and the values of the log's improving steps.
pub record IsBestOf (l : Logbook) (s : NamedValues) : Type 0 where
  pub solution : IsSolutionOf l.problem s
  pub best : IsBest l.problem l.state.logged (Some s.values)
  pub improved : s.improved ≡ l.improved
  pub least : IsWorthLeast l s.values

-- These very bytes, a log's proof, were accepted as a proof that its best solution is worth `v` and none is worth less.
pub record IsCheckedOptimum (opb proof : List ℕ) (accepted : Judgement) (s : NamedValues) : Type 0 where
  pub is_true : IsTrueOf opb proof accepted
  pub solution : IsSolutionOf is_true.problem s
  pub best : accepted.best ≡ Some s.values
  pub bounds :
      let v : ℤ = worth_of is_true.problem s.values in
      accepted.conclusion ≡ conclusions.Bounds (lowers.At v) (uppers.At v) None
  pub log : Logbook
  pub of_text : IsLogOf opb log
  pub written : IsWritten log proof
  pub from_log : IsBestOf log s

-- These very bytes were accepted as a proof that there is no solution.
pub record IsCheckedUnsat (opb proof : List ℕ) (accepted : Judgement) : Type 0 where
  pub is_true : IsTrueOf opb proof accepted
  pub conclusion : accepted.conclusion ≡ conclusions.Unsat

-- Why the best solution of a log is not called an optimum: without an objective any solution serves; the search
-- stopped; or it is one, and there was no memory to write the proof of that, or to check it.
pub data IsNoOptimum (limit : ℕ) (l : Logbook) : Type 0 where
  any_serves : l.problem.objective ≡ None → IsSolvedByAny l → IsNoOptimum limit l
  stopped : IsBestSoFar limit l → IsNoOptimum limit l
  unchecked : IsOptimum l → IsNoOptimum limit l

-- A log's best solution, and why it is not called an optimum. The bytes are the log's proof, or none.
pub record IsMereSolution (opb proof : List ℕ) (limit : ℕ) (s : NamedValues) : Type 0 where
  pub log : Logbook
  pub of_text : IsLogOf opb log
  pub bytes : IsWrittenOrNone log proof
  pub from_log : IsBestOf log s
  pub why : IsNoOptimum limit log

-- The search stopped without a solution, and the bytes are the proof so far: all conflicts that it may meet, but one,
-- have each taught it a constraint that bites, and it met one more; or no id was left.
pub record IsLeftOpen (opb proof : List ℕ) (limit : ℕ) : Type 0 where
  pub log : Logbook
  pub of_text : IsLogOf opb log
  pub written : IsWritten log proof
  pub stopped : IsOpen limit log

-- the faults of a text that is a problem of some other kind or size
abbrev pub IsBeyond : OpbCode → Type 0
IsBeyond codes.UnsupportedForm = ⊤
IsBeyond codes.IntegerTooLarge = ⊤
IsBeyond codes.TooMany = ⊤
IsBeyond _ = ⊥

-- What an outcome says of the text of a problem, the bytes of the proof, and how many conflicts the search might meet.
abbrev pub IsOutcomeOf : List ℕ → List ℕ → ℕ → Outcome → Type 0
IsOutcomeOf opb proof limit (outcomes.Optimum accepted s) = IsCheckedOptimum opb proof accepted s
IsOutcomeOf opb proof limit (outcomes.Unsatisfiable accepted) = IsCheckedUnsat opb proof accepted
IsOutcomeOf opb proof limit (outcomes.Satisfiable s) = IsMereSolution opb proof limit s
IsOutcomeOf opb proof limit (outcomes.Unknown reasons.Limit) = IsLeftOpen opb proof limit
IsOutcomeOf opb proof limit (outcomes.Unknown reasons.Memory) = IsProofOrNone opb proof
IsOutcomeOf opb proof limit (outcomes.Unsupported fault) = IsBadProblem opb fault × IsBeyond fault.code × (proof ≡ [])
IsOutcomeOf opb proof limit (outcomes.NotOpb fault) =
    IsBadProblem opb fault × (IsBeyond fault.code → ⊥) × (proof ≡ [])
