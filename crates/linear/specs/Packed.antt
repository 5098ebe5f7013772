-- Terms and constraints as a problem keeps them.
use Rattle.std.specs.Prelude.{◌≡◌, ℕ, ℤ, pos, neg_ℤ, ◌+◌, ◌-◌, ◌<◌, ◌≤◌, ◌/◌, ◌%◌, ◌==◌, Bool, true, false, zero, suc, List, [], ◌∷◌, length, take, drop, get_or, if◌then◌else◌}
use Rattle.linear.specs.declared.term.Term.{Term}
use Rattle.linear.specs.declared.constraint.Signed.{Signed}
use Rattle.linear.specs.declared.constraint.Relation.{Relation}
use Rattle.linear.specs.declared.constraint.Relation.TheVariants as relations
use Rattle.linear.specs.declared.packed_terms.PackedTerm.{PackedTerm}

-- what stands in the place of a coefficient that is not packed
abbrev pub large_mark : ℕ
large_mark = 4294967295

-- the term that is packed: four times the size of the coefficient, two more where it is below 0, and one more where the literal is negated
abbrev pub small_term : PackedTerm → Term
small_term t = record {
  coef = if t.packed / 2 % 2 == 1 then neg_ℤ (pos (t.packed / 4)) else pos (t.packed / 4);
  var = record { 0 = t.number };
  negated = t.packed % 2 == 1;
}

-- the term, packed or one of the large ones
abbrev pub term_of : List Term → PackedTerm → Term
term_of large t = if t.packed == large_mark then get_or large t.number (small_term t) else small_term t

-- a term that is not packed has its place among the large ones
abbrev pub StandsAmong : List Term → PackedTerm → Type 0
StandsAmong large t = t.packed ≡ large_mark → t.number < length large

-- A constraint stands as its terms and one more, which closes it: that has the right side for its coefficient, and is negated where the
-- constraint is an equality.

abbrev pub is_equality : Relation → Bool
is_equality relations.AtLeast = false
is_equality relations.Equal = true

abbrev pub closing_term : Relation → ℤ → Term
closing_term relation right = record { coef = right; var = record { 0 = 0 }; negated = is_equality relation }

abbrev pub relation_closed : Term → Relation
relation_closed t = if t.negated then relations.Equal else relations.AtLeast

abbrev pub no_term : Term
no_term = record { coef = pos 0; var = record { 0 = 0 }; negated = false }

-- the constraint whose terms begin at one place, and whose closing term stands at another
abbrev pub constraint_between : List Term → ℕ → ℕ → Signed
constraint_between ts start end = record { terms = take (end - start) (drop start ts); relation = relation_closed (get_or ts end no_term); right = (get_or ts end no_term).coef }

-- constraints that stand one behind another, by the places where the next ones begin
abbrev pub constraints_cut : List Term → ℕ → List ℕ → List Signed
constraints_cut ts start [] = []
constraints_cut ts start (next ∷ more) = constraint_between ts start (next - 1) ∷ constraints_cut ts next more

-- the places rise, and none is beyond so many terms
abbrev pub ArePlaces : ℕ → List ℕ → ℕ → Type 0
ArePlaces start [] size = start ≤ size
ArePlaces start (next ∷ more) size = (start < next) × ArePlaces next more size

-- where the constraint behind so many begins
abbrev pub start_at : ℕ → List ℕ → ℕ → ℕ
start_at start places zero = start
start_at start places (suc count) = get_or places count 0
