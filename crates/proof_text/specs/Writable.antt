-- Within the limits: a step, a conclusion or a line whose integers are at most 2^120 in size and whose variables a table
-- of so many names numbers. So is whatever was read, and whatever is so can be written.
use Rattle.std.specs.Prelude.{◌≡◌, ℕ, ℤ, ◌<◌, ◌≤◌, Option, Some, None, List, All, unsigned_abs, ⊤}
use Rattle.pb_text.specs.Number.{largest_number}
use Rattle.linear.specs.declared.term.Var.{Var}
use Rattle.linear.specs.declared.term.Lit.{Lit}
use Rattle.linear.specs.declared.term.Term.{Term}
use Rattle.linear.specs.declared.constraint.Signed.{Signed}
use Rattle.linear.specs.declared.constraint.Relation.TheVariants as relations
use Rattle.substitution.specs.declared.image.Image.{Image}
use Rattle.substitution.specs.declared.image.Image.TheVariants as images
use Rattle.proof_steps.specs.declared.step.Item.{Item}
use Rattle.proof_steps.specs.declared.step.Item.TheVariants as items
use Rattle.proof_steps.specs.declared.step.GoalName.{GoalName}
use Rattle.proof_steps.specs.declared.step.GoalName.TheVariants as goals
use Rattle.proof_steps.specs.declared.step.Step.{Step}
use Rattle.proof_steps.specs.declared.step.Step.TheVariants as steps
use Rattle.proof_steps.specs.declared.conclusion.Lower.{Lower}
use Rattle.proof_steps.specs.declared.conclusion.Lower.TheVariants as lowers
use Rattle.proof_steps.specs.declared.conclusion.Upper.{Upper}
use Rattle.proof_steps.specs.declared.conclusion.Upper.TheVariants as uppers
use Rattle.proof_steps.specs.declared.conclusion.Conclusion.{Conclusion}
use Rattle.proof_steps.specs.declared.conclusion.Conclusion.TheVariants as conclusions
use Rattle.proof_text.specs.declared.line.Line.{Line}
use Rattle.proof_text.specs.declared.line.Line.TheVariants as lines

-- at most 2^120 in size
abbrev pub IsWritable : ℤ → Type 0
IsWritable n = unsigned_abs n ≤ largest_number

-- numbered by a table of so many names
abbrev pub IsNamed : ℕ → Var → Type 0
IsNamed count v = v.0 < count

pub record IsTermWritable (count : ℕ) (t : Term) : Type 0 where
  pub coef : IsWritable t.coef
  pub named : IsNamed count t.var

pub record IsConstraintWritable (count : ℕ) (c : Signed) : Type 0 where
  pub terms : All (IsTermWritable count) c.terms
  pub relation : c.relation ≡ relations.AtLeast
  pub right : IsWritable c.right

abbrev pub IsItemWritable : ℕ → Item → Type 0
IsItemWritable count (items.Id n) = IsWritable n
IsItemWritable count (items.Axiom l) = IsNamed count l.var
IsItemWritable count items.Add = ⊤
IsItemWritable count (items.Multiply n) = IsWritable n
IsItemWritable count (items.Divide n) = IsWritable n
IsItemWritable count items.Saturate = ⊤
IsItemWritable count (items.Weaken v) = IsNamed count v

abbrev pub IsImageWritable : ℕ → Image → Type 0
IsImageWritable count (images.Lit l) = IsNamed count l.var
IsImageWritable count images.Zero = ⊤
IsImageWritable count images.One = ⊤

abbrev pub IsPairWritable : ℕ → Var × Image → Type 0
IsPairWritable count p = IsNamed count p.0 × IsImageWritable count p.1

abbrev pub IsLitWritable : ℕ → Lit → Type 0
IsLitWritable count l = IsNamed count l.var

abbrev pub IsGoalWritable : GoalName → Type 0
IsGoalWritable (goals.Live id) = IsWritable id
IsGoalWritable goals.Itself = ⊤
IsGoalWritable goals.Objective = ⊤

-- a step whose integers are at most 2^120 in size, whose relation is `>=`, and whose variables the table numbers
abbrev pub IsStepWritable : ℕ → Step → Type 0
IsStepWritable count (steps.Pol is) = All (IsItemWritable count) is
IsStepWritable count (steps.Rup c) = IsConstraintWritable count c
IsStepWritable count (steps.Red c w) = IsConstraintWritable count c × All (IsPairWritable count) w
IsStepWritable count (steps.Sol ls) = All (IsLitWritable count) ls
IsStepWritable count (steps.Soli ls) = All (IsLitWritable count) ls
IsStepWritable count (steps.Del ids) = All IsWritable ids
IsStepWritable count (steps.RedBegin c w) = IsConstraintWritable count c × All (IsPairWritable count) w
IsStepWritable count (steps.Goal goal) = IsGoalWritable goal
IsStepWritable count steps.End = ⊤

abbrev pub IsLowerWritable : Lower → Type 0
IsLowerWritable lowers.MinusInf = ⊤
IsLowerWritable (lowers.At n) = IsWritable n
IsLowerWritable lowers.Inf = ⊤

abbrev pub IsUpperWritable : Upper → Type 0
IsUpperWritable (uppers.At n) = IsWritable n
IsUpperWritable uppers.Inf = ⊤

abbrev pub IsHintWritable : ℕ → Option (List Lit) → Type 0
IsHintWritable count None = ⊤
IsHintWritable count (Some ls) = All (IsLitWritable count) ls

abbrev pub IsConclusionWritable : ℕ → Conclusion → Type 0
IsConclusionWritable count conclusions.Nothing = ⊤
IsConclusionWritable count (conclusions.Sat hint) = IsHintWritable count hint
IsConclusionWritable count conclusions.Unsat = ⊤
IsConclusionWritable count (conclusions.Bounds l u hint) = IsLowerWritable l × IsUpperWritable u × IsHintWritable count hint

-- what a line says can be written, where it is a step or a conclusion
abbrev pub IsLineWritable : ℕ → Line → Type 0
IsLineWritable count (lines.Step step) = IsStepWritable count step
IsLineWritable count (lines.Conclusion c) = IsConclusionWritable count c
IsLineWritable count _ = ⊤
