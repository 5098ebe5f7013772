-- The expressions of cutting planes that a `pol` step writes in postfix: constraints cited by their ids, axioms, and
-- the rules on them; what the postfix text of one is, and what its value is.
use Rattle.std.specs.Prelude.{◌≡◌, ℤ, pos, ◌<ℤ◌, List, [], ◌∷◌, ◌++◌, Option, Some, unsigned_abs}
use Rattle.linear.specs.declared.term.Lit.{Lit}
use Rattle.linear.specs.declared.term.Var.{Var}
use Rattle.normal_form.specs.Normal.{NormalConstraint, Fits}
use Rattle.cut_rules.specs.Rules.{IsSum, IsMultiple, IsQuotient, IsSaturation, IsWeakening, IsAxiom}
use Rattle.proof_steps.specs.declared.step.Item.{Item}
use Rattle.proof_steps.specs.declared.step.Item.TheVariants as items

pub data Expression : Type 0 where
  cited : ℤ → Expression
  axiom_of : Lit → Expression
  sum : Expression → Expression → Expression
  multiple : ℤ → Expression → Expression
  quotient : ℤ → Expression → Expression
  saturated : Expression → Expression
  weakened : Var → Expression → Expression

-- the items that write an expression, operands first
abbrev pub postfix : Expression → List Item
postfix (cited id) = items.Id id ∷ []
postfix (axiom_of l) = items.Axiom l ∷ []
postfix (sum e f) = (postfix e ++ postfix f) ++ items.Add ∷ []
postfix (multiple k e) = postfix e ++ items.Multiply k ∷ []
postfix (quotient k e) = postfix e ++ items.Divide k ∷ []
postfix (saturated e) = postfix e ++ items.Saturate ∷ []
postfix (weakened x e) = postfix e ++ items.Weaken x ∷ []

-- the constraints that ids name
abbrev pub Given : Type 0
Given = ℤ → Option NormalConstraint

-- the value of an expression; every part's value is within the limits
abbrev pub HasValue : Given → Expression → NormalConstraint → Type 0
HasValue given (cited id) n = given id ≡ Some n
HasValue given (axiom_of l) n = IsAxiom l n
HasValue given (sum e f) n =
    (d : NormalConstraint) × (g : NormalConstraint) × HasValue given e d × HasValue given f g × IsSum d g n × Fits n
HasValue given (multiple k e) n =
    (d : NormalConstraint) × (pos 0 <ℤ k) × HasValue given e d × IsMultiple (unsigned_abs k) d n × Fits n
HasValue given (quotient k e) n = (d : NormalConstraint) × (pos 0 <ℤ k) × HasValue given e d × IsQuotient (unsigned_abs k) d n
HasValue given (saturated e) n = (d : NormalConstraint) × HasValue given e d × IsSaturation d n
HasValue given (weakened x e) n = (d : NormalConstraint) × HasValue given e d × IsWeakening (x.0) d n

-- the items write one expression, and this is its value
abbrev pub IsPostfixOf : Given → List Item → NormalConstraint → Type 0
IsPostfixOf given written n = (e : Expression) × (postfix e ≡ written) × HasValue given e n
