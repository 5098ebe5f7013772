-- The normal constraints of a problem's file.
use Rattle.std.specs.Prelude.{◌≡◌, ℕ, ◌+◌, List, [], ◌∷◌, ◌++◌}
use Rattle.linear.specs.declared.constraint.Signed.{Signed}
use Rattle.linear.specs.declared.constraint.Relation.{Relation}
use Rattle.linear.specs.declared.constraint.Relation.TheVariants as relations
use Rattle.normal_form.specs.Normal.{NormalConstraint}
use Rattle.normal_form.specs.NormalOf.{IsNormalOf, IsBothOf}

-- the normal constraints of a signed one: one of a `>=`, two of an equality
abbrev pub AreFormsAs : Relation → Signed → List NormalConstraint → Type 0
AreFormsAs relations.AtLeast c ns = (n : NormalConstraint) × (ns ≡ n ∷ []) × IsNormalOf c n
AreFormsAs relations.Equal c ns = (n : NormalConstraint) × (m : NormalConstraint) × (ns ≡ n ∷ m ∷ []) × IsBothOf c n m

abbrev pub AreFormsOf : Signed → List NormalConstraint → Type 0
AreFormsOf c ns = AreFormsAs c.relation c ns

-- the normal constraints of a file's constraints, in order
abbrev pub AreFormsOfAll : List Signed → List NormalConstraint → Type 0
AreFormsOfAll [] ns = ns ≡ []
AreFormsOfAll (c ∷ cs) ns =
    (here : List NormalConstraint) × (rest : List NormalConstraint) × (ns ≡ here ++ rest) × AreFormsOf c here × AreFormsOfAll cs rest

-- how many ids a constraint of a file takes
abbrev pub ids_as : Relation → ℕ
ids_as relations.AtLeast = 1
ids_as relations.Equal = 2

-- how many ids the constraints of a file take: the count that stands behind `f` in a proof
abbrev pub problem_ids : List Signed → ℕ
problem_ids [] = 0
problem_ids (c ∷ cs) = ids_as c.relation + problem_ids cs

-- a constraint's normal constraints were added at the end
abbrev pub AddsForms : Signed → List NormalConstraint → List NormalConstraint → Type 0
AddsForms c old new = (here : List NormalConstraint) × (new ≡ old ++ here) × AreFormsOf c here
