-- What the faults of a line say of it.
use Rattle.std.specs.Prelude.{◌≡◌, ℕ, ◌<◌, true, Some, List, length, codes, ⊤}
use Rattle.proof_steps.specs.declared.step.Step.{Step}
use Rattle.proof_text.specs.declared.line.Section.{Section}
use Rattle.proof_text.specs.declared.line.Section.TheVariants as sections
use Rattle.proof_text.specs.declared.line.Line.{Line}
use Rattle.proof_text.specs.declared.fault.ProofFault.{ProofFault}
use Rattle.proof_text.specs.declared.fault.ProofFault.TheVariants as faults
use Rattle.proof_text.specs.Words.{AreSmall}
use Rattle.linear.specs.Largest.{most_names}
use Rattle.proof_text.specs.Numbering.{names_in}
use Rattle.proof_text.specs.Steps.{step_of, counted, IsProper}
use Rattle.proof_text.specs.Spells.{is_misplaced, line_of, naming, measured, IsProperLine}

-- a table with more names than 32 bits can number
abbrev pub AreTooMany : List (List ℕ) → Type 0
AreTooMany names = most_names < length names

-- a fault where no rule is due, so that none is unknown or left out
abbrev pub IsPlain : ProofFault → Type 0
IsPlain faults.BadLine = ⊤
IsPlain faults.IntegerTooLarge = ⊤
IsPlain faults.TooManyIds = ⊤
IsPlain faults.OutOfMemory = ⊤
IsPlain _ = ⊥

-- What a fault says of something that is read: `Nothing` is that its words have no form, `Something` that they have one when
-- the table `all` numbers their names, and `counting` are the words whose integers count. Codes 3, 4 and 5: it is nothing.
-- Code 8: an integer among those that count is above the largest number in size. Code 29: it is something, and its names
-- are too many. That memory ran out says nothing. No other fault comes.
abbrev pub DeniesBy : ProofFault → Type 0 → Type 0 → List (List ℕ) → List (List ℕ) → Type 0
DeniesBy faults.UnknownRule Nothing Something counting all = Nothing
DeniesBy faults.RuleLeftOut Nothing Something counting all = Nothing
DeniesBy faults.BadLine Nothing Something counting all = Nothing
DeniesBy faults.IntegerTooLarge Nothing Something counting all = AreSmall counting → ⊥
DeniesBy faults.TooManyIds Nothing Something counting all = AreSmall counting × Something × AreTooMany all
DeniesBy faults.OutOfMemory Nothing Something counting all = ⊤
DeniesBy _ Nothing Something counting all = ⊥

-- the words of a line are no step, or they are one, where the table numbers their names
abbrev pub NoStep : List (List ℕ) → List (List ℕ) → Type 0
NoStep names ws = (step : Step) → step_of (names_in names (counted ws)) ws ≡ Some step → IsProper step → ⊥

abbrev pub SomeStep : List (List ℕ) → List (List ℕ) → Type 0
SomeStep names ws = (step : Step) × (step_of (names_in names (counted ws)) ws ≡ Some step) × IsProper step

-- what a fault in reading a step says, `names` being the table before the line
abbrev pub DeniesStep : ProofFault → List (List ℕ) → List (List ℕ) → Type 0
DeniesStep fault names ws = DeniesBy fault (NoStep names ws) (SomeStep names ws) (counted ws) (names_in names (counted ws))

-- the words of a line are nothing at their section, or they are something
abbrev pub NoLine : Section → List (List ℕ) → List (List ℕ) → Type 0
NoLine section names ws = (line : Line) → line_of section (names_in names (naming section ws)) ws ≡ Some line → IsProperLine line → ⊥

abbrev pub SomeLine : Section → List (List ℕ) → List (List ℕ) → Type 0
SomeLine section names ws = (line : Line) × (line_of section (names_in names (naming section ws)) ws ≡ Some line) × IsProperLine line

-- what a fault says of a line among the steps, or of a conclusion or an end
abbrev pub DeniesAt : ProofFault → Section → List (List ℕ) → List (List ℕ) → Type 0
DeniesAt fault section names ws =
    DeniesBy fault (NoLine section names ws) (SomeLine section names ws) (measured section ws) (names_in names (naming section ws))

-- what a fault says of a line at a section of steps: where no step of its rule may stand, it is BadLine
abbrev pub DeniesAmong : ProofFault → Section → List (List ℕ) → List (List ℕ) → Type 0
DeniesAmong fault section names ws = (is_misplaced section ws ≡ true → fault ≡ faults.BadLine) × DeniesAt fault section names ws

-- What a fault says of a line at its section, `names` being the table before it. At the header the one fault is BadHeader:
-- the line is no header. At the count it is BadCount: the line is no count, or its integer is too large. At the conclusion
-- no rule is unknown or left out. Behind the end the fault is TextAfterEnd.
unfoldable pub DeniesLine : ProofFault → Section → List (List ℕ) → List (List ℕ) → Type 0
DeniesLine fault sections.Header names ws = (fault ≡ faults.BadHeader) × NoLine sections.Header names ws
DeniesLine fault sections.Count names ws =
    (fault ≡ faults.BadCount) × ((line : Line) → line_of sections.Count names ws ≡ Some line → AreSmall (measured sections.Count ws) → ⊥)
DeniesLine fault sections.Step names ws = DeniesAmong fault sections.Step names ws
DeniesLine fault sections.Block names ws = DeniesAmong fault sections.Block names ws
DeniesLine fault sections.Goal names ws = DeniesAmong fault sections.Goal names ws
DeniesLine fault sections.Conclusion names ws = IsPlain fault × DeniesAt fault sections.Conclusion names ws
DeniesLine fault sections.End names ws = (fault ≡ faults.BadLine) × NoLine sections.End names ws
DeniesLine fault sections.After names ws = fault ≡ faults.TextAfterEnd

-- the number that stands for a fault
abbrev pub number_of : ProofFault → ℕ
number_of faults.BadHeader = 1
number_of faults.BadCount = 2
number_of faults.UnknownRule = 3
number_of faults.RuleLeftOut = 4
number_of faults.BadLine = 5
number_of faults.Truncated = 6
number_of faults.TextAfterEnd = 7
number_of faults.IntegerTooLarge = 8
number_of faults.OutOfMemory = 9
number_of faults.TooManyIds = 29

-- the name that stands beside it
abbrev pub name_of_fault : ProofFault → List ℕ
name_of_fault faults.BadHeader = codes "BadHeader"
name_of_fault faults.BadCount = codes "BadCount"
name_of_fault faults.UnknownRule = codes "UnknownRule"
name_of_fault faults.RuleLeftOut = codes "RuleLeftOut"
name_of_fault faults.BadLine = codes "BadLine"
name_of_fault faults.Truncated = codes "Truncated"
name_of_fault faults.TextAfterEnd = codes "TextAfterEnd"
name_of_fault faults.IntegerTooLarge = codes "IntegerTooLarge"
name_of_fault faults.OutOfMemory = codes "OutOfMemory"
name_of_fault faults.TooManyIds = codes "TooManyIds"
