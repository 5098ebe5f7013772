-- What a report says of a verdict, field by field. The numbers are those of `pbcheck.h`.
use Rattle.std.specs.Prelude.{◌≡◌, ℕ, ◌+◌, ◌*◌, ◌^◌, ◌<◌, ◌≤◌, ℤ, pos, unsigned_abs, int_lt, Bool, true, false, Option, List, [], ⊤, ◌⊎◌, MatchOption, if◌then◌else◌, length, min, take, slice_index_or}
use Rattle.opb_read.specs.Faults as problems
use Rattle.proof_steps.specs.declared.conclusion.Conclusion.{Conclusion}
use Rattle.proof_steps.specs.declared.conclusion.Lower.{Lower}
use Rattle.proof_steps.specs.declared.conclusion.Upper.{Upper}
use Rattle.proof_steps.specs.declared.conclusion.Conclusion.TheVariants as conclusions
use Rattle.proof_steps.specs.declared.conclusion.Lower.TheVariants as lowers
use Rattle.proof_steps.specs.declared.conclusion.Upper.TheVariants as uppers
use Rattle.checker.specs.Printed.{IsPrinted, name_of, number_of}
use Rattle.checker.specs.declared.verdict.Verdict.{Verdict}
use Rattle.checker.specs.declared.verdict.Verdict.TheVariants as verdicts
use Rattle.c_library.specs.declared.report.Bound.{Bound}
use Rattle.c_library.specs.declared.report.Report.{Report}

-- as much of a text as there is room for stands at the front of a buffer
abbrev pub IsFrontOf : List ℕ → List ℕ → Type 0
IsFrontOf text buffer =
    let count : ℕ = min (length text) (length buffer) in
    take count buffer ≡ take count text

-- behind a text that is shorter than its buffer stand zeros
abbrev pub IsPadded : List ℕ → List ℕ → Type 0
IsPadded text buffer = (i : ℕ) → length text ≤ i → i < length buffer → slice_index_or buffer i 0 ≡ 0

-- a bound is this number: its size in two halves, and whether it is below 0
abbrev pub IsNumber : ℤ → Bound → Type 0
IsNumber n b = (b.kind ≡ 1) × (b.high * 2 ^ 64 + b.low ≡ unsigned_abs n) × (b.negative ≡ int_lt n (pos 0))

abbrev pub SaysLower : Lower → Bound → Type 0
SaysLower lowers.MinusInf b = b.kind ≡ 2
SaysLower (lowers.At n) b = IsNumber n b
SaysLower lowers.Inf b = b.kind ≡ 3

abbrev pub SaysUpper : Upper → Bound → Type 0
SaysUpper (uppers.At n) b = IsNumber n b
SaysUpper uppers.Inf b = b.kind ≡ 3

-- no bounds are told
abbrev pub HasNoBounds : Report → Type 0
HasNoBounds r = (r.lower.kind ≡ 0) × (r.upper.kind ≡ 0)

abbrev pub SaysConclusion : Conclusion → Report → Type 0
SaysConclusion conclusions.Nothing r = (r.conclusion ≡ 1) × HasNoBounds r
SaysConclusion (conclusions.Sat hint) r = (r.conclusion ≡ 2) × HasNoBounds r
SaysConclusion conclusions.Unsat r = (r.conclusion ≡ 3) × HasNoBounds r
SaysConclusion (conclusions.Bounds lower upper hint) r = (r.conclusion ≡ 4) × SaysLower lower r.lower × SaysUpper upper r.upper

-- no solution is told
abbrev pub HasNoBest : Report → Type 0
HasNoBest r = (r.has_best ≡ false) × (r.variables ≡ 0)

-- how many variables the best solution has, and whether there is one
abbrev pub SaysBest : Option (List Bool) → Report → Type 0
SaysBest best r = MatchOption best (HasNoBest r) (λ values. (r.has_best ≡ true) × (r.variables ≡ length values))

-- nothing is concluded: neither a conclusion nor bounds nor a solution
abbrev pub HasNoConclusion : Report → Type 0
HasNoConclusion r = (r.conclusion ≡ 0) × HasNoBounds r × HasNoBest r

-- a fault at a line, by its code and its name
abbrev pub SaysFault : ℕ → ℕ → List ℕ → Report → Type 0
SaysFault line code name r = (r.line ≡ line) × (r.code ≡ code) × IsFrontOf name r.name × IsPadded name r.name

-- no fault is told
abbrev pub HasNoFault : Report → Type 0
HasNoFault r = (r.line ≡ 0) × (r.code ≡ 0) × IsPadded [] r.name

-- what a report says of a verdict: its status, of an acceptance the conclusion with its bounds and how many values its solution
-- has, and of a refusal or a bad problem the fault; of each of these alone
abbrev pub Says : Verdict → Report → Type 0
Says (verdicts.Accepted accepted) r = (r.status ≡ 0) × SaysConclusion accepted.conclusion r × SaysBest accepted.best r × HasNoFault r
Says (verdicts.Refused line code) r = (r.status ≡ 1) × SaysFault line (number_of code) (name_of code) r × HasNoConclusion r
Says (verdicts.BadProblem fault) r =
    (r.status ≡ 2) × SaysFault fault.line (problems.number_of fault.code) (problems.name_of_code fault.code) r × HasNoConclusion r
Says verdicts.NoMemory r = (r.status ≡ 4) × HasNoConclusion r × HasNoFault r

-- a byte for a truth value
abbrev pub byte_of : Bool → ℕ
byte_of value = if value then 1 else 0

-- as many values as there is room for stand at the front of a buffer
abbrev pub AreValues : List Bool → List ℕ → Type 0
AreValues values buffer =
    (i : ℕ) → i < length values → i < length buffer → slice_index_or buffer i 0 ≡ byte_of (slice_index_or values i false)

-- the best solution of what was accepted stands in a buffer, as far as there is room
abbrev pub HasBest : Verdict → List ℕ → Type 0
HasBest (verdicts.Accepted accepted) buffer = MatchOption accepted.best ⊤ (λ values. AreValues values buffer)
HasBest (verdicts.Refused line code) buffer = ⊤
HasBest (verdicts.BadProblem fault) buffer = ⊤
HasBest verdicts.NoMemory buffer = ⊤

-- what is printed of a verdict stands in a buffer, as far as there is room, and this is its length; where there was no memory for it,
-- the length is 0
abbrev pub HasText : List ℕ → Verdict → ℕ → List ℕ → Type 0
HasText problem verdict count buffer = ((text : List ℕ) × IsPrinted problem verdict text × (count ≡ length text) × IsFrontOf text buffer) ⊎ (count ≡ 0)
