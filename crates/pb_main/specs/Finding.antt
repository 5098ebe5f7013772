-- What a search found, as it is taken out of its log.
use Rattle.std.specs.Prelude.{◌≡◌, ℕ, ⊤}
use Rattle.proof_steps.specs.declared.conclusion.Conclusion.TheVariants as conclusions
use Rattle.proof_log.specs.Log.{Logbook}
use Rattle.search.specs.Solving.{IsOpen, IsOptimum}
use Rattle.pb_main.specs.Outcome.{IsBestOf, IsNoOptimum}
use Rattle.pb_main.specs.declared.finding.Finding.{Finding}
use Rattle.pb_main.specs.declared.finding.Finding.TheVariants as findings

-- The log bears out what was found, for so many conflicts that the search might meet, and a solution is the log's best one.
abbrev pub IsFindingOf : ℕ → Logbook → Finding → Type 0
IsFindingOf limit l (findings.Optimum s) = IsBestOf l s × IsOptimum l
IsFindingOf limit l (findings.Satisfiable s) = IsBestOf l s × IsNoOptimum limit l
IsFindingOf limit l findings.Unsatisfiable = l.conclusion ≡ conclusions.Unsat
IsFindingOf limit l findings.Open = IsOpen limit l
IsFindingOf limit l findings.Untold = ⊤
