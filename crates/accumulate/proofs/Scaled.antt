-- Scaling the cells of an array one after another, and what the sizes add up to then.
use Rattle.std.proofs.Common.{◌≡◌, ℕ, zero, suc, ◌+◌, ◌-◌, ◌*◌, ◌<◌, ◌≤◌, List, [], ◌∷◌, length, get_or, inl, inr, refl, ap, sym, ◌∙◌, arith, to_z, of_z}
use mir.Syntax.{w128}
use Rattle.std.specs.Prelude.{ℤ, pos, negsuc, unsigned_abs}
use Rattle.std.specs.Int.{div_ceil}
use Rattle.std.specs.List.Sorted.{IsNonDecreasingBy}
use Rattle.std.proofs.Math.ListN.{set}
use Rattle.std.proofs.Math.Nat.{mul-add, mul-le-mul_left}
use Rattle.std.proofs.lemmas.Bool.{cases_eq, cases_lt}
use Rattle.std.proofs.lemmas.Grind.{get_or_default_zero}
use Rattle.std.proofs.lemmas.List.{get_or-set_same, get_or-set_other, length-set}
use Rattle.normal_form.specs.Normal.{largest_sum, sum_below}
use Rattle.cut_rules.proofs.OneOperand.{parts_down}
use Rattle.accumulate.specs.declared.scaling.Scaling.{Scaling}
use Rattle.accumulate.specs.declared.scaling.Scaling.TheVariants as scalings
use Rattle.accumulate.specs.Nets.{AreResized, IsAhead, ScalesWithin, resized, scaled, sizes}
use Rattle.accumulate.proofs.CappedCells.{whole}
use Rattle.accumulate.proofs.Coefficients.{defaulted}
use Rattle.accumulate.proofs.Resized.{below_sum, resized_size, resized_to}

-- what becomes of the size of each cell
pub size_at : (ℕ → ℕ) → List ℤ → ℕ → ℕ
size_at f ns v = f (unsigned_abs (get_or ns v (pos 0)))

-- the cells below a place are scaled, and the others are as they were
pub record ScaledBelow (f : ℕ → ℕ) (next : ℕ) (old new : List ℤ) (all : ℕ) : Type 0 where
  pub done : (v : ℕ) → v < next → get_or new v (pos 0) ≡ resized f (get_or old v (pos 0))
  pub left : (v : ℕ) → next ≤ v → get_or new v (pos 0) ≡ get_or old v (pos 0)
  pub sum : all ≡ sum_below next (size_at f old)
  pub same_length : length new ≡ length old
  pub room : next ≤ length old

pub none_scaled : (f : ℕ → ℕ) (ns : List ℤ) → ScaledBelow f 0 ns ns 0
none_scaled f ns = record {
  done = λ v h. absurd (omega (arith, h));
  left = λ v h. refl;
  sum = refl;
  same_length = refl;
  room = omega arith;
}

-- cells of 0 between add nothing
across : (g : ℕ → ℕ) (a k : ℕ) → ((v : ℕ) → a ≤ v → v < a + k → g v ≡ 0) → sum_below (a + k) g ≡ sum_below a g
across g a zero z =
    let e : a + zero ≡ a = omega arith in
    ap (λ (n : ℕ). sum_below n g) e
across g a (suc k) z =
    let e : a + suc k ≡ suc (a + k) = omega arith in
    let more : sum_below (suc (a + k)) g ≡ sum_below a g = omega (arith, across g a k (λ v p q. z v p (omega (arith, q))), z (a + k) (omega arith) (omega arith)) in
    ap (λ (n : ℕ). sum_below n g) e ∙ more

between : (g : ℕ → ℕ) (a b : ℕ) → a ≤ b → ((v : ℕ) → a ≤ v → v < b → g v ≡ 0) → sum_below b g ≡ sum_below a g
between g a b h z =
    let e : b ≡ a + (b - a) = omega (arith, h) in
    ap (λ (n : ℕ). sum_below n g) e ∙ across g a (b - a) (λ v p q. z v p (omega (arith, q, e)))

longer : (g : ℕ → ℕ) (a k : ℕ) → sum_below a g ≤ sum_below (a + k) g
longer g a zero =
    let e : a + zero ≡ a = omega arith in
    omega (arith, ap (λ (n : ℕ). sum_below n g) e)
longer g a (suc k) =
    let e : a + suc k ≡ suc (a + k) = omega arith in
    let last : sum_below (suc (a + k)) g ≡ sum_below (a + k) g + g (a + k) = refl in
    omega (arith, longer g a k, last, ap (λ (n : ℕ). sum_below n g) e)

pub part_below : (g : ℕ → ℕ) (a b : ℕ) → a ≤ b → sum_below a g ≤ sum_below b g
part_below g a b h =
    let e : b ≡ a + (b - a) = omega (arith, h) in
    omega (arith, longer g a (b - a), ap (λ (n : ℕ). sum_below n g) e)

zero_cell : (z : ℤ) → unsigned_abs z ≡ 0 → z ≡ pos 0
zero_cell (pos zero) e = refl
zero_cell (pos (suc n)) e = absurd (omega (arith, e))
zero_cell (negsuc n) e = absurd (omega (arith, e))

zero_resized : (f : ℕ → ℕ) → f 0 ≡ 0 → (z : ℤ) → unsigned_abs z ≡ 0 → z ≡ resized f z
zero_resized f e z h =
    let is : z ≡ pos 0 = zero_cell z h in
    is ∙ sym (ap (resized f) is ∙ ap pos e)

zero_size : (f : ℕ → ℕ) → f 0 ≡ 0 → (ns : List ℤ) (v : ℕ) → unsigned_abs (get_or ns v (pos 0)) ≡ 0 → size_at f ns v ≡ 0
unfolding size_at
zero_size f e ns v h = ap f h ∙ e

size_read : (f : ℕ → ℕ) (ns : List ℤ) (v size : ℕ) → size ≡ f (unsigned_abs (get_or ns v (pos 0))) → size ≡ size_at f ns v
unfolding size_at
size_read f ns v size h = h

-- the next cell that is marked
pub scaled_more : (f : ℕ → ℕ) → f 0 ≡ 0 → (next place : ℕ) (old new : List ℤ) (sum size : ℕ) (cell : ℤ) → next ≤ place → place < length old → ((v : ℕ) → next ≤ v → v < place → unsigned_abs (get_or old v (pos 0)) ≡ 0)
    → cell ≡ resized f (get_or old place (pos 0)) → size ≡ f (unsigned_abs (get_or old place (pos 0))) → ScaledBelow f next old new sum → ScaledBelow f (place + 1) old (set new place cell) (sum + size)
scaled_more f e next place old new sum size cell low h gap is sized b =
    let there : place < length new = omega (arith, h, b.same_length) in
    let one : place + 1 ≡ suc place = omega arith in
    record {
      done = λ v p. elim (cases_eq v place) [
        | inl same ↦ ap (λ (x : ℕ). get_or (set new place cell) x (pos 0)) same ∙ get_or-set_same new place cell (pos 0) there ∙ is ∙ ap (λ (x : ℕ). resized f (get_or old x (pos 0))) (sym same)
        | inr other ↦ get_or-set_other new place v cell (pos 0) other ∙ elim (cases_lt v next) [
          | inl before ↦ b.done v before
          | inr behind ↦ b.left v behind ∙ zero_resized f e (get_or old v (pos 0)) (gap v behind (omega (arith, p, other)))
        ]
      ];
      left = λ v p. get_or-set_other new place v cell (pos 0) (λ same. omega (arith, same, p)) ∙ b.left v (omega (arith, p, low));
      sum = omega (arith, b.sum, between (size_at f old) next place low (λ v p q. zero_size f e old v (gap v p q)), size_read f old place size sized, ap (λ (n : ℕ). sum_below n (size_at f old)) one);
      same_length = length-set new place cell ∙ b.same_length;
      room = omega (arith, h);
    }

-- what is summed up then is no more than all
pub next_small : (f : ℕ → ℕ) → f 0 ≡ 0 → (next place : ℕ) (old new : List ℤ) (all size : ℕ) → next ≤ place → place < length old → ((v : ℕ) → next ≤ v → v < place → unsigned_abs (get_or old v (pos 0)) ≡ 0)
    → size ≡ f (unsigned_abs (get_or old place (pos 0))) → ScaledBelow f next old new all → all + size ≤ sum_below (length old) (size_at f old)
next_small f e next place old new all size low h gap sized b =
    let more : ScaledBelow f (place + 1) old (set new place (resized f (get_or old place (pos 0)))) (all + size) = scaled_more f e next place old new all size (resized f (get_or old place (pos 0))) low h gap refl sized b in
    omega (arith, more.sum, part_below (size_at f old) (place + 1) (length old) more.room)

-- a number of that size is what the cell becomes
pub cell_made : (f : ℕ → ℕ) (size : ℕ) (read old cell : ℤ) → read ≡ old → size ≡ f (unsigned_abs old) → size ≤ largest_sum → cell ≡ resized (λ _. size) read → to_z w128 (of_z w128 cell) ≡ resized f old
cell_made f size read old cell same sized small is =
    let made : cell ≡ resized f old = is ∙ ap (resized (λ _. size)) same ∙ ap (λ (n : ℕ). resized (λ _. n) old) sized ∙ resized_to f old in
    whole cell (omega (arith, ap unsigned_abs made, resized_size f old, sized, small)) ∙ made

shifted : (n : ℕ) (g : ℕ → ℕ) → sum_below (suc n) g ≡ g 0 + sum_below n (λ v. g (suc v))
shifted zero g = omega arith
shifted (suc n) g = omega (arith, shifted n g)

same_below : (n : ℕ) (f g : ℕ → ℕ) → ((v : ℕ) → f v ≡ g v) → sum_below n f ≡ sum_below n g
same_below zero f g e = refl
same_below (suc n) f g e = omega (arith, same_below n f g e, e n)

sizes_below : (ns : List ℤ) → sizes ns ≡ sum_below (length ns) (λ v. unsigned_abs (get_or ns v (pos 0)))
sizes_below [] = refl
sizes_below (n ∷ ns) = omega (arith, sizes_below ns, shifted (length ns) (λ v. unsigned_abs (get_or (n ∷ ns) v (pos 0))))

-- all cells are scaled where those that are left are 0
pub all_scaled : (f : ℕ → ℕ) → f 0 ≡ 0 → (next : ℕ) (old new : List ℤ) (sum : ℕ) → ((v : ℕ) → next ≤ v → unsigned_abs (get_or old v (pos 0)) ≡ 0) → ScaledBelow f next old new sum → AreResized f old new
all_scaled f e next old new sum rest b v = elim (cases_lt v next) [
  | inl before ↦ b.done v before
  | inr behind ↦ b.left v behind ∙ zero_resized f e (get_or old v (pos 0)) (rest v behind)
]

size_is : (f : ℕ → ℕ) (old new : List ℤ) → AreResized f old new → (v : ℕ) → size_at f old v ≡ unsigned_abs (get_or new v (pos 0))
unfolding size_at
size_is f old new all v = sym (ap unsigned_abs (all v) ∙ resized_size f (get_or old v (pos 0)))

pub all_summed : (f : ℕ → ℕ) → f 0 ≡ 0 → (next : ℕ) (old new : List ℤ) (sum : ℕ) → ((v : ℕ) → next ≤ v → unsigned_abs (get_or old v (pos 0)) ≡ 0) → ScaledBelow f next old new sum → sum ≡ sizes new
all_summed f e next old new sum rest b =
    let scaled : AreResized f old new = all_scaled f e next old new sum rest b in
    omega (
      arith,
      b.sum,
      between (size_at f old) next (length old) b.room (λ v p q. zero_size f e old v (rest v p)),
      same_below (length old) (size_at f old) (λ v. unsigned_abs (get_or new v (pos 0))) (size_is f old new scaled),
      ap (λ (n : ℕ). sum_below n (λ v. unsigned_abs (get_or new v (pos 0)))) b.same_length,
      sizes_below new,
    )

pub scaled_as : (f : ℕ → ℕ) (a b : ℕ) (old xs ys : List ℤ) (m n : ℕ) → b ≡ a → ys ≡ xs → n ≡ m → ScaledBelow f a old xs m → ScaledBelow f b old ys n
scaled_as f a b old xs ys m n next same all h = record {
  done = λ v p. ap (λ (l : List ℤ). get_or l v (pos 0)) same ∙ h.done v (omega (arith, p, next));
  left = λ v p. ap (λ (l : List ℤ). get_or l v (pos 0)) same ∙ h.left v (omega (arith, p, next));
  sum = all ∙ h.sum ∙ ap (λ (k : ℕ). sum_below k (size_at f old)) (sym next);
  same_length = ap (λ (l : List ℤ). length l) same ∙ h.same_length;
  room = omega (arith, h.room, next);
}

-- the marks stand in order, so what stands before the next one is done

pub none_between : (i next : ℕ) (marks : List ℕ) (ns : List ℤ) → IsNonDecreasingBy (λ v. v) marks → ((v : ℕ) → next ≤ v → 0 < unsigned_abs (get_or ns v (pos 0)) → IsAhead i marks v)
    → (v : ℕ) → next ≤ v → v < get_or marks i 0 → unsigned_abs (get_or ns v (pos 0)) ≡ 0
none_between i next marks ns order ahead v low high = elim (cases_eq (unsigned_abs (get_or ns v (pos 0))) 0) [
  | inl e ↦ e
  | inr other ↦
      let a : IsAhead i marks v = ahead v low (omega (arith, other)) in
      absurd (omega (arith, high, order i a.0 0 a.1 a.2, get_or_default_zero marks a.0 v a.2, a.3))
]

pub still_ahead : (i : ℕ) (marks : List ℕ) (v : ℕ) → IsAhead i marks v → get_or marks i 0 < v → IsAhead (i + 1) marks v
still_ahead i marks v a h = (
  a.0,
  elim (cases_eq a.0 i) [
    | inl same ↦ absurd (omega (arith, h, get_or_default_zero marks a.0 v a.2, a.3, ap (λ (x : ℕ). get_or marks x 0) same))
    | inr other ↦ omega (arith, a.1, other)
  ],
  a.2,
  a.3,
)

-- the limits

pub zero_stays : (s : Scaling) (n : ℕ) → ScalesWithin s n → scaled s 0 ≡ 0
zero_stays (scalings.Times k) n h = omega arith
zero_stays (scalings.DividedBy k) n h = omega (arith, parts_down k h 0)

pub scales_less : (s : Scaling) (n m : ℕ) → n ≤ m → ScalesWithin s m → ScalesWithin s n
scales_less (scalings.Times k) n m le h = omega (arith, h, mul-le-mul_left k le)
scales_less (scalings.DividedBy k) n m le h = h

pub scaled_small : (s : Scaling) (n : ℕ) → n ≤ largest_sum → ScalesWithin s n → scaled s n ≤ largest_sum
scaled_small (scalings.Times k) n le h = h
scaled_small (scalings.DividedBy k) n le h = omega (arith, le, parts_down k h n)

pub none_of : (f : ℕ → ℕ) → f 0 ≡ 0 → (n : ℕ) → n ≤ 0 → f n ≤ 0
none_of f e zero h = omega (arith, e)
none_of f e (suc n) h = absurd (omega (arith, h))

times_below : (n k : ℕ) (g : ℕ → ℕ) → sum_below n (λ v. k * g v) ≡ k * sum_below n g
times_below zero k g = omega arith
times_below (suc n) k g = omega (arith, times_below n k g, mul-add k (sum_below n g) (g n))

parts_below : (n k : ℕ) (g : ℕ → ℕ) → 0 < k → sum_below n (λ v. div_ceil (g v) k) ≤ sum_below n g
parts_below zero k g h = omega arith
parts_below (suc n) k g h = omega (arith, parts_below n k g h, parts_down k h (g n))

-- what is read of the cell of the next mark
pub cell_read : (f : ℕ → ℕ) (next place : ℕ) (old new : List ℤ) (all : ℕ) (net : ℤ) → next ≤ place → place < length old → net ≡ get_or new place net → sizes old ≤ largest_sum → ScaledBelow f next old new all
    → (net ≡ get_or old place (pos 0)) × (to_z w128 (of_z w128 net) ≡ get_or old place (pos 0)) × (unsigned_abs (get_or old place (pos 0)) ≤ sizes old)
cell_read f next place old new all net low here is small b =
    let same : net ≡ get_or old place (pos 0) = is ∙ defaulted new place net (pos 0) (omega (arith, here, b.same_length)) ∙ b.left place low in
    let size : unsigned_abs (get_or old place (pos 0)) ≤ sizes old = below_sum old place in
    (same, whole net (omega (arith, ap unsigned_abs same, size, small)) ∙ same, size)

-- all that is scaled is within the limit where the sum is
pub sum_within : (s : Scaling) (ns : List ℤ) → sizes ns ≤ largest_sum → ScalesWithin s (sizes ns) → sum_below (length ns) (size_at (scaled s) ns) ≤ largest_sum
unfolding size_at
sum_within (scalings.Times k) ns le h = omega (arith, h, times_below (length ns) k (λ v. unsigned_abs (get_or ns v (pos 0))), ap (λ (n : ℕ). k * n) (sizes_below ns))
sum_within (scalings.DividedBy k) ns le h = omega (arith, le, parts_below (length ns) k (λ v. unsigned_abs (get_or ns v (pos 0))) h, sizes_below ns)
