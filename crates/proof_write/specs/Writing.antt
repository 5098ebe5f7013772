-- The words by which steps and conclusions are written, the lines that they make, and what is appended to a proof.
use Rattle.std.specs.Prelude.{◌≡◌, ℕ, ℤ, Bool, if◌then◌else◌, Option, Some, None, List, [], ◌∷◌, ◌++◌, codes, slice_index_or}
use Rattle.std.specs.List.{flat_map}
use Rattle.std.specs.Fmt.{signed_decimal}
use Rattle.linear.specs.declared.term.Var.{Var}
use Rattle.linear.specs.declared.term.Lit.{Lit}
use Rattle.linear.specs.declared.term.Term.{Term}
use Rattle.linear.specs.declared.constraint.Signed.{Signed}
use Rattle.substitution.specs.declared.image.Image.{Image}
use Rattle.substitution.specs.declared.image.Image.TheVariants as images
use Rattle.proof_steps.specs.declared.step.Item.{Item}
use Rattle.proof_steps.specs.declared.step.Item.TheVariants as items
use Rattle.proof_steps.specs.declared.step.GoalName.{GoalName}
use Rattle.proof_steps.specs.declared.step.GoalName.TheVariants as goals
use Rattle.proof_steps.specs.declared.step.Step.{Step}
use Rattle.proof_steps.specs.declared.step.Step.TheVariants as steps
use Rattle.proof_steps.specs.declared.conclusion.Lower.{Lower}
use Rattle.proof_steps.specs.declared.conclusion.Lower.TheVariants as lowers
use Rattle.proof_steps.specs.declared.conclusion.Upper.{Upper}
use Rattle.proof_steps.specs.declared.conclusion.Upper.TheVariants as uppers
use Rattle.proof_steps.specs.declared.conclusion.Conclusion.{Conclusion}
use Rattle.proof_steps.specs.declared.conclusion.Conclusion.TheVariants as conclusions
use Rattle.proof_text.specs.Words.{words}
use Rattle.proof_lines.specs.Lines.{parted}
use Rattle.proof_text.specs.declared.line.Line.TheVariants as lines
use Rattle.proof_text.specs.declared.line.Section.{Section}
use Rattle.proof_text.specs.declared.line.Section.TheVariants as sections
use Rattle.proof_text.specs.Sections.{StepStands}
use Rattle.proof_text.specs.Spells.{IsLine}
use Rattle.proof_text.specs.Steps.{IsStep}

-- words, each with a space before it
abbrev pub spaced : List (List ℕ) → List ℕ
spaced [] = []
spaced (w ∷ ws) = 32 ∷ w ++ spaced ws

-- the name of a variable
abbrev pub name_at : List (List ℕ) → Var → List ℕ
name_at names v = slice_index_or names (v.0) []

-- a literal: its name, or `~` and its name
abbrev pub literal_word : List (List ℕ) → Bool → Var → List ℕ
literal_word names negated v = if negated then 126 ∷ name_at names v else name_at names v

abbrev pub lit_words : List (List ℕ) → Lit → List (List ℕ)
lit_words names l = literal_word names l.negated l.var ∷ []

abbrev pub number_words : ℤ → List (List ℕ)
number_words n = signed_decimal n ∷ []

abbrev pub item_words : List (List ℕ) → Item → List (List ℕ)
item_words names (items.Id n) = signed_decimal n ∷ []
item_words names (items.Axiom l) = lit_words names l
item_words names items.Add = codes "+" ∷ []
item_words names (items.Multiply n) = signed_decimal n ∷ codes "*" ∷ []
item_words names (items.Divide n) = signed_decimal n ∷ codes "d" ∷ []
item_words names items.Saturate = codes "s" ∷ []
item_words names (items.Weaken v) = name_at names v ∷ codes "w" ∷ []

abbrev pub term_words : List (List ℕ) → Term → List (List ℕ)
term_words names t = signed_decimal t.coef ∷ literal_word names t.negated t.var ∷ []

-- the terms, `>=`, the right side and `;`
abbrev pub constraint_words : List (List ℕ) → Signed → List (List ℕ)
constraint_words names c = flat_map (term_words names) c.terms ++ codes ">=" ∷ signed_decimal c.right ∷ codes ";" ∷ []

abbrev pub image_word : List (List ℕ) → Image → List ℕ
image_word names (images.Lit l) = literal_word names l.negated l.var
image_word names images.Zero = codes "0"
image_word names images.One = codes "1"

abbrev pub pair_words : List (List ℕ) → Var × Image → List (List ℕ)
pair_words names p = name_at names p.0 ∷ codes "->" ∷ image_word names p.1 ∷ []

-- a constraint and a substitution
abbrev pub red_words : List (List ℕ) → Signed → List (Var × Image) → List (List ℕ)
red_words names c w = constraint_words names c ++ flat_map (pair_words names) w

-- a goal: an id, `#1` or `#2`
abbrev pub goal_word : GoalName → List ℕ
goal_word (goals.Live id) = signed_decimal id
goal_word goals.Itself = codes "#1"
goal_word goals.Objective = codes "#2"

-- the words of a step
abbrev pub step_words : List (List ℕ) → Step → List (List ℕ)
step_words names (steps.Pol is) = codes "pol" ∷ flat_map (item_words names) is
step_words names (steps.Rup c) = codes "rup" ∷ constraint_words names c
step_words names (steps.Red c w) = codes "red" ∷ red_words names c w
step_words names (steps.Sol ls) = codes "sol" ∷ flat_map (lit_words names) ls
step_words names (steps.Soli ls) = codes "soli" ∷ flat_map (lit_words names) ls
step_words names (steps.Del ids) = codes "del" ∷ codes "id" ∷ flat_map number_words ids
step_words names (steps.RedBegin c w) = codes "red" ∷ (red_words names c w ++ codes ";" ∷ codes "begin" ∷ [])
step_words names (steps.Goal goal) = codes "proofgoal" ∷ goal_word goal ∷ []
step_words names steps.End = codes "end" ∷ []

-- a hint of literals
abbrev pub hint_words : List (List ℕ) → Option (List Lit) → List (List ℕ)
hint_words names None = []
hint_words names (Some ls) = codes ":" ∷ flat_map (lit_words names) ls

abbrev pub lower_word : Lower → List ℕ
lower_word lowers.MinusInf = codes "-INF"
lower_word (lowers.At n) = signed_decimal n
lower_word lowers.Inf = codes "INF"

abbrev pub upper_word : Upper → List ℕ
upper_word (uppers.At n) = signed_decimal n
upper_word uppers.Inf = codes "INF"

-- the words of a conclusion behind the word `conclusion`
abbrev pub conclusion_words : List (List ℕ) → Conclusion → List (List ℕ)
conclusion_words names conclusions.Nothing = codes "NONE" ∷ []
conclusion_words names (conclusions.Sat hint) = codes "SAT" ∷ hint_words names hint
conclusion_words names conclusions.Unsat = codes "UNSAT" ∷ []
conclusion_words names (conclusions.Bounds l u hint) = codes "BOUNDS" ∷ lower_word l ∷ upper_word u ∷ hint_words names hint

-- the line of words: single spaces between them
abbrev pub line_text : List (List ℕ) → List ℕ
line_text [] = []
line_text (w ∷ ws) = w ++ spaced ws

-- what is appended is one line with its LF: the words of this step, single spaces between them. It spells this step, at each
-- section at which the step may stand, and brings no name
pub record IsStepWritten (names : List (List ℕ)) (old : List ℕ) (step : Step) (new : List ℕ) : Type 0 where
  pub line : List ℕ
  pub text : line ≡ line_text (step_words names step)
  pub appended : new ≡ old ++ line ++ 10 ∷ []
  pub one : (parted line).others ≡ []
  pub says : IsStep names (words line) step names
  pub at : (section : Section) → StepStands section step → IsLine section names (words line) (lines.Step step) names

-- what is appended are the lines `output NONE`, one of the word `conclusion` and the words of this conclusion, and
-- `end pseudo-Boolean proof`. The second spells this conclusion and brings no name
pub record IsEndWritten (names : List (List ℕ)) (old : List ℕ) (c : Conclusion) (new : List ℕ) : Type 0 where
  pub line : List ℕ
  pub text : line ≡ codes "conclusion" ++ spaced (conclusion_words names c)
  pub appended : new ≡ old ++ codes "output NONE\n" ++ line ++ codes "\nend pseudo-Boolean proof\n"
  pub one : (parted line).others ≡ []
  pub says : IsLine sections.Conclusion names (words line) (lines.Conclusion c) names
