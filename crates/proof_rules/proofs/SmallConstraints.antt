-- The small constraints of the worked cases of `rup` and redundance: `1 x0 >= 1`, `1 ~x0 >= 1` and `1 x0 1 x1 >= 1`, and what becomes of the live one.
use Rattle.std.proofs.Common.{ℕ, List, [], ◌∷◌, All, refl, arith}
use Rattle.std.proofs.lemmas.Int.{ints}
use Rattle.std.proofs.lemmas.List.Elements.{All-nil, All-cons}
use Rattle.normal_form.specs.Cases.{plain, normal}
use Rattle.normal_form.specs.Negation.{IsNegation}
use Rattle.normal_form.specs.Normal.{NormalConstraint}
use Rattle.normal_form.proofs.Negations.{negation_from}
use Rattle.normal_form.proofs.NormalForm.{is_form}
use Rattle.propagate.specs.Cases.{unit, unit_not}
use Rattle.substitution.specs.Cases.{single}
use Rattle.substitution.specs.Images.{Images}
use Rattle.substitution.specs.Under.{substituted, IsUnder}
use Rattle.substitution.specs.declared.image.Image.TheVariants.{One}
use Rattle.proof_rules.specs.Cases.{cover, cover_written, first_written, not_first_written}
use Rattle.proof_rules.specs.Redundant.{IsShownUnder}
use Rattle.proof_rules.specs.Shown.{IsAdmitted}
use Rattle.proof_rules.proofs.ShownHolds.{zero_shown}

pub first_admitted : IsAdmitted first_written (unit 0)
first_admitted = record {
  relation = refl;
  sizes = omega arith;
  form = is_form first_written (unit 0) (omega arith, omega arith, tt) (λ set. omega (arith, ints)) refl;
  fits = record { sum = omega arith; degree = omega arith };
}

pub not_first_admitted : IsAdmitted not_first_written (unit_not 0)
not_first_admitted = record {
  relation = refl;
  sizes = omega arith;
  form = is_form not_first_written (unit_not 0) (omega arith, omega arith, tt) (λ set. omega (arith, ints)) refl;
  fits = record { sum = omega arith; degree = omega arith };
}

pub cover_admitted : IsAdmitted cover_written cover
cover_admitted = record {
  relation = refl;
  sizes = omega arith;
  form = is_form cover_written cover (omega arith, omega arith, (omega arith, omega arith, tt)) (λ set. omega (arith, ints)) refl;
  fits = record { sum = omega arith; degree = omega arith };
}

pub first_negated : IsNegation (unit 0) (unit_not 0)
first_negated = negation_from (unit 0) (unit_not 0) (omega arith, omega arith, tt) refl refl

pub not_first_negated : IsNegation (unit_not 0) (unit 0)
not_first_negated = negation_from (unit_not 0) (unit 0) (omega arith, omega arith, tt) refl refl

-- a constraint that comes to degree 0 is shown
pub zero_under : (from : List NormalConstraint) (images : Images) (n : NormalConstraint) (v : ℕ) → IsUnder n images (normal (plain 1 v ∷ []) 0) → IsShownUnder from images n
zero_under from images n v under = (normal (plain 1 v ∷ []) 0, under, zero_shown from (normal (plain 1 v ∷ []) 0) (omega arith, omega arith, tt) refl)

-- where x0 or x1 becomes 1, `1 x0 1 x1 >= 1` has degree 0
pub first_is_one : (from : List NormalConstraint) → All (IsShownUnder from (single 0 One)) (cover ∷ [])
first_is_one from =
    All-cons (IsShownUnder from (single 0 One)) cover []
    (zero_under from (single 0 One) cover 1 (is_form (substituted cover (single 0 One)) (normal (plain 1 1 ∷ []) 0) (omega arith, omega arith, tt) (λ set. refl) refl))
    (All-nil (IsShownUnder from (single 0 One)))

pub second_is_one : (from : List NormalConstraint) → All (IsShownUnder from (single 1 One)) (cover ∷ [])
second_is_one from =
    All-cons (IsShownUnder from (single 1 One)) cover []
    (zero_under from (single 1 One) cover 0 (is_form (substituted cover (single 1 One)) (normal (plain 1 0 ∷ []) 0) (omega arith, omega arith, tt) (λ set. refl) refl))
    (All-nil (IsShownUnder from (single 1 One)))
