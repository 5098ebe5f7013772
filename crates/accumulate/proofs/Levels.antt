-- Which net coefficients may be above a level.
use Rattle.std.proofs.Common.{ℕ, ◌<◌, ◌≤◌, List, length, get_or, ap, arith, inl, inr}
use Rattle.std.specs.Prelude.{ℤ, pos, unsigned_abs, All, Contains}
use Rattle.std.proofs.lemmas.Bool.{cases_eq, cases_lt}
use Rattle.std.proofs.Math.ListN.{set}
use Rattle.std.proofs.lemmas.List.{get_or-set_same, get_or-set_other, length-set}
use Rattle.std.proofs.lemmas.List.Elements.{All-weaker}
use Rattle.normal_form.specs.Normal.{largest_sum}
use Rattle.accumulate.specs.Nets.{AreCapped, IsMarkedAbove, sizes}
use Rattle.accumulate.proofs.Resized.{below_sum}
use Rattle.accumulate.proofs.CappedCells.{capped_low}

-- more marks, of variables that the array has
pub marked_noted : (level bound : ℕ) (marks more : List ℕ) (ns : List ℤ) → bound ≤ length ns → ((v : ℕ) → Contains marks v → Contains more v)
    → ((n : ℕ) → bound ≤ n → All (λ v. v < n) marks → All (λ v. v < n) more) → IsMarkedAbove level marks ns → IsMarkedAbove level more ns
marked_noted level bound marks more ns room kept below m = record { covers = λ v p. kept v (m.covers v p); room = below (length ns) room m.room }

pub marked_low : (level : ℕ) (marks : List ℕ) (ns : List ℤ) → sizes ns ≤ level → All (λ v. v < length ns) marks → IsMarkedAbove level marks ns
marked_low level marks ns h room = record { covers = λ v p. absurd (omega (arith, p, h, below_sum ns v)); room = room }

-- marks that are right where the level is one, since beyond it nothing is greater
pub marked_either : (level : ℕ) (marks : List ℕ) (ns : List ℤ) → sizes ns ≤ largest_sum → All (λ v. v < length ns) marks → (level < largest_sum → IsMarkedAbove level marks ns) → IsMarkedAbove level marks ns
marked_either level marks ns small room m = elim (cases_lt level largest_sum) [
  | inl h ↦ m h
  | inr h ↦ marked_low level marks ns (omega (arith, small, h)) room
]

-- a lower level has more above it
pub marked_higher : (low high : ℕ) (marks : List ℕ) (ns : List ℤ) → low ≤ high → IsMarkedAbove low marks ns → IsMarkedAbove high marks ns
marked_higher low high marks ns h m = record { covers = λ v p. m.covers v (omega (arith, h, p)); room = m.room }

-- a cell that becomes smaller is above no other level
pub marked_smaller : (level : ℕ) (marks : List ℕ) (ns : List ℤ) (i : ℕ) (new : ℤ) → i < length ns → unsigned_abs new ≤ unsigned_abs (get_or ns i (pos 0)) → IsMarkedAbove level marks ns → IsMarkedAbove level marks (set ns i new)
marked_smaller level marks ns i new h less m = record {
  covers = λ v p. elim (cases_eq v i) [
    | inl e ↦ m.covers v (omega (arith, p, less, ap (λ (j : ℕ). unsigned_abs (get_or (set ns i new) j (pos 0))) e, ap unsigned_abs (get_or-set_same ns i new (pos 0) h), ap (λ (j : ℕ). unsigned_abs (get_or ns j (pos 0))) e))
    | inr e ↦ m.covers v (omega (arith, p, ap unsigned_abs (get_or-set_other ns i v new (pos 0) e)))
  ];
  room = All-weaker (λ v. v < length ns) (λ v. v < length (set ns i new)) (λ v p. omega (arith, p, length-set ns i new)) marks m.room;
}

-- none is above the number at which all were capped
pub none_above : (most : ℕ) (marks : List ℕ) (ns new : List ℤ) → AreCapped most ns new → All (λ v. v < length new) marks → IsMarkedAbove most marks new
none_above most marks ns new all room = record {
  covers = λ v p. absurd (omega (arith, p, ap unsigned_abs (all v), capped_low most (get_or ns v (pos 0))));
  room = room;
}
