-- Which literals stand in the normal constraints of a problem's file.
use Rattle.std.specs.Prelude.{◌≡◌, ℕ, ◌⊎◌, Bool, List, All}
use Rattle.linear.specs.declared.constraint.Relation.{Relation}
use Rattle.linear.specs.declared.constraint.Relation.TheVariants as relations
use Rattle.linear.specs.declared.constraint.Signed.{Signed}
use Rattle.normal_form.specs.Normal.{NormalConstraint, coefficient}
use Rattle.normal_form.specs.NormalOf.{IsNormalOf, signs_changed}

-- a normal constraint of a signed one: the form of a `>=`, or one of the two forms of an equality
abbrev pub IsFormAs : Relation → Signed → NormalConstraint → Type 0
IsFormAs relations.AtLeast c n = IsNormalOf c n
IsFormAs relations.Equal c n = IsNormalOf c n ⊎ IsNormalOf (signs_changed c) n

abbrev pub IsFormOf : Signed → NormalConstraint → Type 0
IsFormOf c n = IsFormAs c.relation c n

-- a literal, by variable and sign, stands in no normal constraint of a signed one
abbrev pub IsAbsent : ℕ → Bool → Signed → Type 0
IsAbsent v negated c = (n : NormalConstraint) → IsFormOf c n → coefficient n v negated ≡ 0

-- nor in one of a file's constraints
abbrev pub StandsNowhere : List Signed → ℕ → Bool → Type 0
StandsNowhere constraints v negated = All (IsAbsent v negated) constraints
