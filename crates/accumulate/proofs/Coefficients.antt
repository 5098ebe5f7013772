-- The coefficient of a literal is what the cell of its variable says; weakening; a sum with nothing.
use Rattle.std.proofs.Common.{◌≡◌, ◌≢◌, ℕ, zero, suc, ◌+◌, ◌-◌, ◌<◌, ◌≤◌, Bool, true, false, cond, List, [], ◌∷◌, ◌==◌, length, get_or, refl, ap, sym, subst, ◌∙◌, arith, inl, inr, ◌⊎◌}
use Rattle.std.specs.Prelude.{ℤ, pos, negsuc, ◌+ℤ◌, neg_ℤ, unsigned_abs}
use Rattle.std.proofs.lemmas.Int.{ints}
use Rattle.std.proofs.lemmas.Bool.{cases_eq}
use Rattle.std.proofs.lemmas.Bool.Decides.{nat_tests}
use Rattle.normal_form.specs.Normal.{NormalConstraint, sum_over, only, coefficient, total, Rises}
use Rattle.normal_form.specs.NormalOf.{at_least_zero}
use Rattle.normal_form.specs.Balance.{rises_of}
use Rattle.normal_form.proofs.FromBalance.{split_at, one_side}
use Rattle.normal_form.proofs.OneList.{one_list, same_constraint}
use Rattle.cut_rules.specs.Rules.{IsSum, IsWeakening, cancelled}
use Rattle.cut_rules.proofs.Sum.{sum_total}
use Rattle.std.proofs.Math.ListN.{set}
use Rattle.std.proofs.lemmas.List.{get_or-set_same, get_or-set_other, length-set}
use Rattle.std.proofs.lemmas.List.Elements.{All-weaker}
use Rattle.accumulate.specs.Nets.{terms_from, nets_of, sizes, constraint_of, IsMarkedAbove}
use Rattle.accumulate.proofs.NetTerms.{terms_give, terms_rise, size_below, set_sizes}

passed : (k v : ℕ) (n : ℤ) → k ≢ v → cond (k == v) n (pos 0) ≡ pos 0
passed k v n h = grind (arith, nat_tests)

met : (k v : ℕ) (n : ℤ) → k ≡ v → cond (k == v) n (pos 0) ≡ n
met k v n h = grind (arith, nat_tests)

none_below : (v k : ℕ) (ns : List ℤ) → v < k → nets_of (λ x. x == v) k ns ≡ pos 0
none_below v k [] h = refl
none_below v k (n ∷ ns) h = omega (arith, ints, passed k v n (λ e. omega (arith, e, h)), none_below v (k + 1) ns (omega (arith, h)))

-- what the array gives one variable is its cell
cell_from : (k v i : ℕ) (ns : List ℤ) → v ≡ k + i → nets_of (λ x. x == v) k ns ≡ get_or ns i (pos 0)
cell_from k v zero [] e = refl
cell_from k v (suc i) [] e = refl
cell_from k v zero (n ∷ ns) e = omega (arith, ints, met k v n (omega (arith, e)), none_below v (k + 1) ns (omega (arith, e)))
cell_from k v (suc i) (n ∷ ns) e = omega (arith, ints, passed k v n (λ f. omega (arith, e, f)), cell_from (k + 1) v i ns (omega (arith, e)))

pub cell_at : (ns : List ℤ) (v : ℕ) → rises_of (λ x. x == v) (terms_from 0 ns) ≡ get_or ns v (pos 0)
cell_at ns v = terms_give (λ x. x == v) 0 ns ∙ cell_from 0 v v ns (omega arith)

parted : (a b : ℕ) (z : ℤ) → pos a ≡ pos b +ℤ z → (a ≡ 0) ⊎ (b ≡ 0) → (a ≡ at_least_zero z) × (b ≡ at_least_zero (neg_ℤ z)) × (a + b ≡ unsigned_abs z)
parted a b (pos zero) e (inl h) = (omega (arith, ints, e, h), omega (arith, ints, e, h), omega (arith, ints, e, h))
parted a b (pos zero) e (inr h) = (omega (arith, ints, e, h), omega (arith, ints, e, h), omega (arith, ints, e, h))
parted a b (pos (suc n)) e (inl h) = (omega (arith, ints, e, h), omega (arith, ints, e, h), omega (arith, ints, e, h))
parted a b (pos (suc n)) e (inr h) = (omega (arith, ints, e, h), omega (arith, ints, e, h), omega (arith, ints, e, h))
parted a b (negsuc n) e (inl h) = (omega (arith, ints, e, h), omega (arith, ints, e, h), omega (arith, ints, e, h))
parted a b (negsuc n) e (inr h) = (omega (arith, ints, e, h), omega (arith, ints, e, h), omega (arith, ints, e, h))

-- the coefficients of a variable's two literals, and their sum, from its cell
pub coefficients_at : (ns : List ℤ) (degree v : ℕ) → (coefficient (constraint_of ns degree) v false ≡ at_least_zero (get_or ns v (pos 0))) × (coefficient (constraint_of ns degree) v true ≡ at_least_zero (neg_ℤ (get_or ns v (pos 0)))) × (coefficient (constraint_of ns degree) v false + coefficient (constraint_of ns degree) v true ≡ unsigned_abs (get_or ns v (pos 0)))
coefficients_at ns degree v = parted (coefficient (constraint_of ns degree) v false) (coefficient (constraint_of ns degree) v true) (get_or ns v (pos 0)) (split_at v (terms_from 0 ns) ∙ ap (λ (z : ℤ). pos (sum_over (only v true) (terms_from 0 ns)) +ℤ z) (cell_at ns v)) (one_side 0 (terms_from 0 ns) (terms_rise 0 ns) v)

by_sign : (P : Bool → Type 0) → P false → P true → (s : Bool) → P s
by_sign P f t true = t
by_sign P f t false = f

on_same : (v x b : ℕ) → v ≡ x → cond (v == x) 0 b ≡ 0
on_same v x b h = grind (arith, nat_tests)

off_same : (v x b : ℕ) → v ≢ x → cond (v == x) 0 b ≡ b
off_same v x b h = grind (arith, nat_tests)

choose_same : (v x a b : ℕ) → (v ≡ x → a ≡ 0) → (v ≢ x → a ≡ b) → a ≡ cond (v == x) 0 b
choose_same v x a b h k = elim (cases_eq v x) [
  | inl e ↦ h e ∙ sym (on_same v x b e)
  | inr e ↦ k e ∙ sym (off_same v x b e)
]

-- an array with one cell set to 0 is the weakening
pub weakened : (ns new : List ℤ) (x degree result : ℕ) → get_or new x (pos 0) ≡ pos 0 → ((v : ℕ) → v ≢ x → get_or new v (pos 0) ≡ get_or ns v (pos 0)) → result ≡ degree - unsigned_abs (get_or ns x (pos 0)) → IsWeakening x (constraint_of ns degree) (constraint_of new result)
weakened ns new x degree result z same d = record {
  coefficients = λ v s. by_sign (λ s. coefficient (constraint_of new result) v s ≡ cond (v == x) 0 (coefficient (constraint_of ns degree) v s))
      (choose_same v x (coefficient (constraint_of new result) v false) (coefficient (constraint_of ns degree) v false)
      (λ e. (coefficients_at new result v).0 ∙ ap (λ (i : ℕ). at_least_zero (get_or new i (pos 0))) e ∙ ap at_least_zero z)
      (λ n. (coefficients_at new result v).0 ∙ ap at_least_zero (same v n) ∙ sym ((coefficients_at ns degree v).0)))
      (choose_same v x (coefficient (constraint_of new result) v true) (coefficient (constraint_of ns degree) v true)
      (λ e. (coefficients_at new result v).1 ∙ ap (λ (i : ℕ). at_least_zero (neg_ℤ (get_or new i (pos 0)))) e ∙ ap (λ (y : ℤ). at_least_zero (neg_ℤ y)) z)
      (λ n. (coefficients_at new result v).1 ∙ ap (λ (y : ℤ). at_least_zero (neg_ℤ y)) (same v n) ∙ sym ((coefficients_at ns degree v).1)))
      s;
  degree = omega (arith, d, (coefficients_at ns degree x).2);
  rises = terms_rise 0 new;
}

-- a sum with nothing is the other operand
alone : (f t a b : ℕ) → (f ≡ 0) ⊎ (t ≡ 0) → a ≡ (0 + f) - (0 + t) → b ≡ (0 + t) - (0 + f) → (a ≡ f) × (b ≡ t)
alone f t a b (inl h) p q = (omega (arith, h, p), omega (arith, h, q))
alone f t a b (inr h) p q = (omega (arith, h, p), omega (arith, h, q))

pub sum_alone : (e r : NormalConstraint) → Rises 0 e.terms → IsSum (record { terms = []; degree = 0 }) e r → r ≡ e
sum_alone e r up g =
    let same : (v : ℕ) → (coefficient r v false ≡ coefficient e v false) × (coefficient r v true ≡ coefficient e v true) = λ v. alone (coefficient e v false) (coefficient e v true) (coefficient r v false) (coefficient r v true) (one_side 0 e.terms up v) (g.coefficients v false) (g.coefficients v true) in
    let nothing : total r.terms + (cancelled (record { terms = []; degree = 0 }) e + cancelled (record { terms = []; degree = 0 }) e) ≡ 0 + total e.terms = sum_total (record { terms = []; degree = 0 }) e r.terms g.coefficients in
    let terms : r.terms ≡ e.terms = one_list 0 0 r.terms e.terms g.rises up (λ v s. by_sign (λ s. sum_over (only v s) r.terms ≡ sum_over (only v s) e.terms) (same v).0 (same v).1 s) in
    same_constraint r e terms (omega (arith, g.degree, nothing, ap total terms))

pub sum_alone_of : (d e r : NormalConstraint) → d ≡ record { terms = []; degree = 0 } → Rises 0 e.terms → IsSum d e r → r ≡ e
sum_alone_of d e r is up g = sum_alone e r up (subst (λ (x : NormalConstraint). IsSum x e r) is g)

-- what goes with a cell that is set to 0
pub gone_at : (all : ℕ) (ns : List ℤ) (i : ℕ) (net : ℤ) → i < length ns → net ≡ get_or ns i net → all ≡ sizes ns → (unsigned_abs net ≤ all) × (all - unsigned_abs net ≡ sizes (set ns i (pos 0)))
gone_at all ns i net h e s = (omega (arith, size_below ns i net h, ap unsigned_abs e, s), omega (arith, set_sizes ns i (pos 0) net h, size_below ns i net h, ap unsigned_abs e, s))

pub defaulted : (ns : List ℤ) (i : ℕ) (d f : ℤ) → i < length ns → get_or ns i d ≡ get_or ns i f
defaulted [] i d f h = absurd (omega (arith, h))
defaulted (n ∷ ns) zero d f h = refl
defaulted (n ∷ ns) (suc i) d f h = defaulted ns i d f (omega (arith, h))

pub beyond_all : (ns : List ℤ) (i : ℕ) → length ns ≤ i → get_or ns i (pos 0) ≡ pos 0
beyond_all [] zero h = refl
beyond_all [] (suc i) h = refl
beyond_all (n ∷ ns) zero h = absurd (omega (arith, h))
beyond_all (n ∷ ns) (suc i) h = beyond_all ns i (omega (arith, h))

-- a variable past the array is in no term
pub weakened_none : (ns : List ℤ) (x degree : ℕ) → length ns ≤ x → IsWeakening x (constraint_of ns degree) (constraint_of ns degree)
weakened_none ns x degree h = weakened ns ns x degree degree (beyond_all ns x h) (λ v n. refl) (omega (arith, ap unsigned_abs (beyond_all ns x h)))

pub weakened_cell : (ns : List ℤ) (x degree result : ℕ) (net : ℤ) → x < length ns → net ≡ get_or ns x net → result ≡ degree - unsigned_abs net → IsWeakening x (constraint_of ns degree) (constraint_of (set ns x (pos 0)) result)
weakened_cell ns x degree result net h e d = weakened ns (set ns x (pos 0)) x degree result (get_or-set_same ns x (pos 0) (pos 0) h) (λ v n. get_or-set_other ns x v (pos 0) (pos 0) n) (omega (arith, d, ap unsigned_abs (e ∙ defaulted ns x net (pos 0) h)))

-- a cell that is set to 0 needs no mark
pub marked_zero : (level : ℕ) (marks : List ℕ) (ns : List ℤ) (i : ℕ) → i < length ns → IsMarkedAbove level marks ns → IsMarkedAbove level marks (set ns i (pos 0))
marked_zero level marks ns i h m = record {
  covers = λ v p. elim (cases_eq v i) [
    | inl e ↦ absurd (omega (arith, p, ap (λ (j : ℕ). unsigned_abs (get_or (set ns i (pos 0)) j (pos 0))) e, ap unsigned_abs (get_or-set_same ns i (pos 0) (pos 0) h)))
    | inr e ↦ m.covers v (omega (arith, p, ap unsigned_abs (get_or-set_other ns i v (pos 0) (pos 0) e)))
  ];
  room = All-weaker (λ v. v < length ns) (λ v. v < length (set ns i (pos 0))) (λ v p. omega (arith, p, length-set ns i (pos 0))) marks m.room;
}
