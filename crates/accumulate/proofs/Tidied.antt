-- Marks that are put in order: which of them stay, and that each stands once.
use Rattle.std.proofs.Common.{◌≡◌, ℕ, zero, suc, ◌+◌, ◌<◌, Bool, true, false, List, [], ◌∷◌, length, get_or, ap, ◌∙◌, arith}
use Rattle.std.specs.Prelude.{ℤ, pos, unsigned_abs, eqb, All, Contains, cond, not, ◌==◌}
use Rattle.std.specs.List.{dedup, filter}
use Rattle.std.specs.List.Sorted.{IsNonDecreasingBy, IsSorted}
use Rattle.std.specs.Ordering.{nat_cmp}
use Rattle.std.proofs.Math.Dec.{eqb-suc-zero}
use Rattle.std.proofs.lemmas.Bool.{false≢true}
use Rattle.std.proofs.lemmas.Grind.{get_or_default_zero}
use Rattle.std.proofs.lemmas.List.Elements.{All-filter, filter_passes}
use Rattle.std.proofs.lemmas.List.Filters.{All-dedup}
use Rattle.std.proofs.lemmas.List.Kept.{Contains-dedup_nat}
use Rattle.std.proofs.lemmas.List.Sorted.{IsNonDecreasingBy-from_all_adjacent}
use Rattle.std.proofs.lemmas.Map.Keys.{IsStrictlyIncreasing-dedup}
use Rattle.accumulate.specs.Nets.{AreTidy, IsKept, IsMarked, is_live}

-- what has a net coefficient is live
pub live_at : (n : ℕ) → 0 < n → not (n == 0) ≡ true
live_at zero h = absurd (omega (arith, h))
live_at (suc n) h = ap not (eqb-suc-zero n)

behind : (b : Bool) (l : List ℕ) (y x : ℕ) → Contains l x → Contains (cond b (y ∷ l) l) x
behind true l y x h = (suc h.0, omega (arith, h.1), h.2)
behind false l y x h = h

front : (b : Bool) (l : List ℕ) (y x : ℕ) → b ≡ true → y ≡ x → Contains (cond b (y ∷ l) l) x
front true l y x h e = (zero, omega arith, e)
front false l y x h e = absurd (false≢true h)

pub filter_contains : (p : ℕ → Bool) (xs : List ℕ) (x : ℕ) → p x ≡ true → Contains xs x → Contains (filter p xs) x
filter_contains p [] x ok h = absurd (omega (arith, h.1))
filter_contains p (y ∷ xs) x ok (zero, l, e) = front (p y) (filter p xs) y x (ap p e ∙ ok) e
filter_contains p (y ∷ xs) x ok (suc k, l, e) = behind (p y) (filter p xs) y x (filter_contains p xs x ok (k, omega (arith, l), e))

-- those that are live stay
pub kept_live : (marks : List ℕ) (ns : List ℤ) → IsMarked marks ns → IsMarked (filter (is_live ns) marks) ns
kept_live marks ns m = record {
  covers = λ v h. filter_contains (is_live ns) marks v (live_at (unsigned_abs (get_or ns v (pos 0))) h) (m.covers v h);
  room = All-filter (is_live ns) (λ v. v < length ns) marks m.room;
}

pub all_live : (marks : List ℕ) (ns : List ℤ) → All (λ v. is_live ns v ≡ true) (filter (is_live ns) marks)
all_live marks ns = filter_passes (is_live ns) marks

-- each stands once where they stand in order
pub each_once : (marks : List ℕ) (ns : List ℤ) → IsSorted nat_cmp marks → IsMarked marks ns → All (λ v. is_live ns v ≡ true) marks → AreTidy (dedup eqb marks) ns
each_once marks ns order m live = record {
  marked = record {
    covers = λ v h. Contains-dedup_nat marks v (m.covers v h);
    room = All-dedup eqb (λ v. v < length ns) marks m.room;
  };
  live = All-dedup eqb (λ v. is_live ns v ≡ true) marks live;
  rises = IsStrictlyIncreasing-dedup marks order;
}

-- so they do not fall
pub in_order : (marks : List ℕ) (ns : List ℤ) → AreTidy marks ns → IsNonDecreasingBy (λ v. v) marks
in_order marks ns t = IsNonDecreasingBy-from_all_adjacent (λ v. v) marks (λ k d h. omega (arith, t.rises k h, get_or_default_zero marks k d (omega (arith, h)), get_or_default_zero marks (k + 1) d h))

-- what is kept beside the array stays right with other marks
pub kept_with : (ns : List ℤ) (xs ys : List ℕ) (sum degree : ℕ) → IsMarked ys ns → IsKept ns xs sum degree → IsKept ns ys sum degree
kept_with ns xs ys sum degree m k = record { marked = m; summed = k.summed; small = k.small; low = k.low }
