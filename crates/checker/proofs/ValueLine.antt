-- The `v` line of an assignment: what one more name and its value write, and where there is no such line.
use Rattle.std.proofs.Common.{◌≡◌, ℕ, zero, suc, ◌+◌, ◌<◌, Bool, false, List, [], ◌∷◌, drop, length, slice_index_or, refl, ap, ◌∙◌, arith}
use native.Mathlib.Numerals.{unary_clauses}
use Rattle.linear.specs.Opb.{Opb}
use Rattle.opb_read.specs.Spells.{Spells}
use Rattle.opb_read.proofs.Spelled.{one_problem}
use Rattle.checker.specs.Printed.{with_value, with_values, NamesValues}

pub value_next : (before : List ℕ) (names : List (List ℕ)) (values : List Bool) (i : ℕ) → i < length names → length names ≡ length values
    → with_values (with_value before (slice_index_or names i []) (slice_index_or values i false)) (drop (i + 1) names) (drop (i + 1) values)
    ≡ with_values before (drop i names) (drop i values)
value_next before [] values i h e = absurd (omega (arith, h))
value_next before (name ∷ names) [] i h e = absurd (omega (arith, e))
value_next before (name ∷ names) (value ∷ values) zero h e = refl
value_next before (name ∷ names) (value ∷ values) (suc i) h e =
    let rest = value_next before names values i (omega (arith, h)) (omega (arith, e)) in
    simp unary_clauses (simp unary_clauses at rest)

-- where the one problem of a text has another number of variables, no problem names the values
pub none_named : (opb : List ℕ) (values : List Bool) (p : Opb) → Spells opb p → (length p.names ≡ length values → ⊥) → (q : Opb) → NamesValues opb values q → ⊥
none_named opb values p spells other q names = other (ap (λ (r : Opb). length r.names) (one_problem opb p q spells names.spelled) ∙ names.as_many)
