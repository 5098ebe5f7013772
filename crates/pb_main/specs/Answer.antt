-- What is printed for an outcome, and the exit status that stands for it.
use Rattle.std.specs.Prelude.{ℕ, ℤ, List, [], ◌∷◌, ◌++◌, codes}
use Rattle.std.specs.Fmt.{signed_decimal}
use Rattle.opb_read.specs.Faults as problems
use Rattle.opb_read.specs.declared.fault.OpbFault.{OpbFault}
use Rattle.checker.specs.Printed.{with_assignment, with_fault}
use Rattle.pb_main.specs.declared.outcome.Outcome.{Outcome}
use Rattle.pb_main.specs.declared.outcome.Outcome.TheVariants as outcomes
use Rattle.pb_main.specs.Solution.{NamedValues}
use Rattle.pb_main.specs.declared.outcome.Unanswered.{Unanswered}
use Rattle.pb_main.specs.declared.outcome.Unanswered.TheVariants as reasons

-- one `o` line for each value
abbrev pub with_values : List ℕ → List ℤ → List ℕ
with_values before [] = before
with_values before (value ∷ values) = with_values (((before ++ codes "o ") ++ signed_decimal value) ++ codes "\n") values

-- the `o` lines, the `s` line of this status, and the `v` line
abbrev pub solution_text : List ℕ → NamedValues → List ℕ
solution_text status s = with_assignment (with_values [] s.improved ++ status) s.names s.values

-- `c refused line L code C Name`
abbrev pub refusal : OpbFault → List ℕ
refusal fault = with_fault (codes "c refused") fault.line (problems.number_of fault.code) (problems.name_of_code fault.code)

abbrev pub reason_text : Unanswered → List ℕ
reason_text reasons.Limit = codes "c limit\ns UNKNOWN\n"
reason_text reasons.Memory = codes "c memory\ns UNKNOWN\n"

abbrev pub answer : Outcome → List ℕ
answer (outcomes.Optimum accepted s) = solution_text (codes "s OPTIMUM FOUND\n") s
answer (outcomes.Unsatisfiable accepted) = codes "s UNSATISFIABLE\n"
answer (outcomes.Satisfiable s) = solution_text (codes "s SATISFIABLE\n") s
answer (outcomes.Unknown why) = reason_text why
answer (outcomes.Unsupported fault) = refusal fault ++ codes "s UNSUPPORTED\n"
answer (outcomes.NotOpb fault) = refusal fault

abbrev pub status_of : Outcome → ℕ
status_of (outcomes.Optimum accepted s) = 30
status_of (outcomes.Unsatisfiable accepted) = 20
status_of (outcomes.Satisfiable s) = 10
status_of (outcomes.Unknown why) = 0
status_of (outcomes.Unsupported fault) = 0
status_of (outcomes.NotOpb fault) = 2
