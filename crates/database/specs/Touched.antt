-- Which live constraints a witness touches.
use Rattle.std.specs.Prelude.{◌≢◌, ◌↔◌, ◌⊎◌, Bool, ℕ, List, [], ◌∷◌}
use Rattle.linear.specs.declared.term.Var.{Var}
use Rattle.propagate.specs.Content.{HasLiteral}
use Rattle.propagate.specs.Ids.{IdSet, HasId}
use Rattle.substitution.specs.declared.image.Image.{Image}
use Rattle.substitution.specs.declared.image.Image.TheVariants.{One}
use Rattle.substitution.specs.Images.{Images}
use Rattle.substitution.specs.Under.{signed_image}
use Rattle.proof_rules.specs.State.{Live}

-- the live constraint of an id has a literal of the variable that the variable's image does not make true
abbrev pub IsTouchedBy : Live → Var → Image → ℕ → Type 0
IsTouchedBy live v i id = (negated : Bool) × (signed_image i negated ≢ One) × HasLiteral live (record { var = v; negated = negated }) id

-- it has such a literal of one of the variables that are given images; if not, it shows what it becomes
abbrev pub IsTouched : Live → Images → ℕ → Type 0
IsTouched live [] id = ⊥
IsTouched live (p ∷ ps) id = IsTouchedBy live p.0 p.1 id ⊎ IsTouched live ps id

-- a set has the ids of the live constraints that a variable's image touches, beside those that another set has, and no more
abbrev pub AddsTouched : Live → Var → Image → IdSet → IdSet → Type 0
AddsTouched live v i before ids = (id : ℕ) → HasId ids id ↔ (HasId before id ⊎ IsTouchedBy live v i id)
