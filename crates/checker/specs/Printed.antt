-- What is printed for a verdict, and the exit status that stands for it.
use Rattle.std.specs.Prelude.{◌≡◌, ◌⊎◌, ℕ, Bool, true, false, List, [], ◌∷◌, ◌++◌, MatchOption, codes, length}
use Rattle.std.specs.Fmt.{decimal, signed_decimal}
use Rattle.proof_steps.specs.declared.conclusion.Conclusion.{Conclusion}
use Rattle.proof_steps.specs.declared.conclusion.Lower.{Lower}
use Rattle.proof_steps.specs.declared.conclusion.Upper.{Upper}
use Rattle.proof_steps.specs.declared.conclusion.Conclusion.TheVariants as conclusions
use Rattle.proof_steps.specs.declared.conclusion.Lower.TheVariants as lowers
use Rattle.proof_steps.specs.declared.conclusion.Upper.TheVariants as uppers
use Rattle.kernel.specs.Accepted.{Judgement}
use Rattle.proof_rules.specs.Printed as steps
use Rattle.linear.specs.Opb.{Opb}
use Rattle.linear.specs.Limits.{IsWithin}
use Rattle.opb_read.specs.Spells.{Spells}
use Rattle.opb_read.specs.Faults as problems
use Rattle.opb_read.specs.declared.fault.OpbCode.{OpbCode}
use Rattle.proof_text.specs.Faults as readings
use Rattle.checker.specs.declared.verdict.Code.{Code}
use Rattle.checker.specs.declared.verdict.Code.TheVariants.{Reading, Judging}
use Rattle.checker.specs.declared.verdict.Verdict.{Verdict}
use Rattle.checker.specs.declared.verdict.Verdict.TheVariants as verdicts

-- the number and the name of a refusal
abbrev pub number_of : Code → ℕ
number_of (Reading fault) = readings.number_of fault
number_of (Judging fault) = steps.number_of fault

abbrev pub name_of : Code → List ℕ
name_of (Reading fault) = readings.name_of_fault fault
name_of (Judging fault) = steps.name_of fault

abbrev pub status_of : Verdict → ℕ
status_of (verdicts.Accepted accepted) = 0
status_of (verdicts.Refused line code) = 1
status_of (verdicts.BadProblem fault) = 2
status_of verdicts.NoMemory = 4

-- Texts are given by what stands before them: each piece is appended in turn.

-- ` line L code C Name` and the end of the line
abbrev pub with_fault : List ℕ → ℕ → ℕ → List ℕ → List ℕ
with_fault before line number name =
    let place : List ℕ = ((before ++ codes " line ") ++ decimal line) ++ codes " code " in
    (((place ++ decimal number) ++ codes " ") ++ name) ++ codes "\n"

abbrev pub with_lower : List ℕ → Lower → List ℕ
with_lower before lowers.MinusInf = before ++ codes "-INF"
with_lower before (lowers.At bound) = before ++ signed_decimal bound
with_lower before lowers.Inf = before ++ codes "INF"

abbrev pub with_upper : List ℕ → Upper → List ℕ
with_upper before (uppers.At bound) = before ++ signed_decimal bound
with_upper before uppers.Inf = before ++ codes "INF"

abbrev pub with_conclusion : List ℕ → Conclusion → List ℕ
with_conclusion before conclusions.Nothing = before ++ codes "NONE"
with_conclusion before (conclusions.Sat hint) = before ++ codes "SAT"
with_conclusion before conclusions.Unsat = before ++ codes "UNSAT"
with_conclusion before (conclusions.Bounds lower upper hint) =
    with_upper (with_lower (before ++ codes "BOUNDS ") lower ++ codes " ") upper

-- the first line of what is printed for an accepted conclusion
abbrev pub accepted_line : Conclusion → List ℕ
accepted_line conclusion = with_conclusion (codes "accepted ") conclusion ++ codes "\n"

-- a variable's name behind a space, with `-` before it where the variable is false
abbrev pub with_value : List ℕ → List ℕ → Bool → List ℕ
with_value before name true = (before ++ codes " ") ++ name
with_value before name false = (before ++ codes " -") ++ name

abbrev pub with_values : List ℕ → List (List ℕ) → List Bool → List ℕ
with_values before [] values = before
with_values before names [] = before
with_values before (name ∷ names) (value ∷ values) = with_values (with_value before name value) names values

-- the `v` line of an assignment
abbrev pub with_assignment : List ℕ → List (List ℕ) → List Bool → List ℕ
with_assignment before names values = with_values (before ++ codes "v") names values ++ codes "\n"

-- the text spells a problem of these names, one for each value
pub record NamesValues (opb : List ℕ) (values : List Bool) (p : Opb) : Type 0 where
  pub spelled : Spells opb p
  pub within : IsWithin p
  pub as_many : length p.names ≡ length values

-- the `v` line of an assignment by the names of the problem that the text spells; where it spells none with as many
-- variables, nothing
abbrev pub IsWithBest : List ℕ → List ℕ → List Bool → List ℕ → Type 0
IsWithBest opb before values text =
    ((p : Opb) × NamesValues opb values p × (text ≡ with_assignment before p.names values))
    ⊎ (((p : Opb) → NamesValues opb values p → ⊥) × (text ≡ before))

-- the first line, and the `v` line of the best assignment where there is one
abbrev pub IsAcceptedText : List ℕ → Judgement → List ℕ → Type 0
IsAcceptedText opb accepted text =
    MatchOption accepted.best
    (text ≡ accepted_line accepted.conclusion)
    (λ values. IsWithBest opb (accepted_line accepted.conclusion) values text)

-- what is printed for a verdict about a problem's text
abbrev pub IsPrinted : List ℕ → Verdict → List ℕ → Type 0
IsPrinted opb (verdicts.Accepted accepted) text = IsAcceptedText opb accepted text
IsPrinted opb (verdicts.Refused line code) text =
    text ≡ with_fault (codes "refused") line (number_of code) (name_of code)
IsPrinted opb (verdicts.BadProblem fault) text =
    let code : OpbCode = fault.code in
    text ≡ with_fault (codes "bad problem") fault.line (problems.number_of code) (problems.name_of_code code)
IsPrinted opb verdicts.NoMemory text = text ≡ codes "no memory\n"
