-- What capping does to a net coefficient, to an array of them, and to the constraint that it stands for.
use Rattle.std.proofs.Common.{◌≡◌, ℕ, zero, suc, ◌+◌, ◌-◌, ◌<◌, ◌≤◌, min, List, length, get_or, ◌⊎◌, inl, inr, refl, ap, sym, subst, ◌∙◌, arith, to_z, of_z}
use mir.Syntax.{w128}
use Rattle.std.specs.Prelude.{ℤ, pos, negsuc, neg_ℤ, unsigned_abs}
use Rattle.std.proofs.lemmas.Int.{ints}
use Rattle.std.proofs.Math.ListN.{set}
use Rattle.std.proofs.lemmas.Bool.{cases_eq}
use Rattle.std.proofs.lemmas.Grind.{get_or_default_zero}
use Rattle.std.proofs.lemmas.List.{get_or-set_same, get_or-set_other}
use Rattle.normal_form.specs.Normal.{NormalConstraint, largest_sum}
use Rattle.cut_rules.specs.Rules.{IsSaturation}
use Rattle.accumulate.specs.Nets.{AreCapped, IsAhead, capped, constraint_of, sizes}
use Rattle.accumulate.proofs.NetTerms.{set_sizes, size_below, terms_rise}
use Rattle.accumulate.proofs.Resized.{resized_coefficients, size_of_turned}

least_zero : (m : ℕ) → min 0 m ≡ 0
least_zero m = omega arith

capped_below : (m k : ℕ) → capped m (neg_ℤ (pos k)) ≡ neg_ℤ (pos (min k m))
capped_below m zero = ap pos (least_zero m) ∙ sym (ap (λ (k : ℕ). neg_ℤ (pos k)) (least_zero m))
capped_below m (suc k) = refl

-- capped once is capped for good
again : (m : ℕ) (z : ℤ) → capped m (capped m z) ≡ capped m z
again m (pos n) = ap pos (omega arith)
again m (negsuc n) = capped_below m (min (suc n) m) ∙ ap (λ (k : ℕ). neg_ℤ (pos k)) (omega arith)

pub capped_size : (m : ℕ) (z : ℤ) → unsigned_abs (capped m z) ≤ unsigned_abs z
capped_size m (pos n) = omega arith
capped_size m (negsuc n) = omega (arith, size_of_turned (min (suc n) m))

pub capped_low : (m : ℕ) (z : ℤ) → unsigned_abs (capped m z) ≤ m
capped_low m (pos n) = omega arith
capped_low m (negsuc n) = omega (arith, size_of_turned (min (suc n) m))

-- an array that is capped at the degree is the saturation
pub saturated : (d : NormalConstraint) (ns new : List ℤ) (degree : ℕ) → constraint_of ns degree ≡ d → AreCapped degree ns new → IsSaturation d (constraint_of new degree)
saturated d ns new degree is all = subst (λ (x : NormalConstraint). IsSaturation x (constraint_of new degree)) is (record {
  coefficients = resized_coefficients (λ n. min n degree) (least_zero degree) ns new degree degree all;
  degree = refl;
  rises = terms_rise 0 new;
})

-- a cell that is marked next is capped; the others are as they were
pub one_capped : (most : ℕ) (marks : List ℕ) (ns now : List ℤ) (i place : ℕ) → i < length marks → place ≡ get_or marks i 0 → place < length now
    → ((v : ℕ) → (get_or now v (pos 0) ≡ capped most (get_or ns v (pos 0))) ⊎ ((get_or now v (pos 0) ≡ get_or ns v (pos 0)) × IsAhead i marks v))
    → (v : ℕ) → (get_or (set now place (capped most (get_or now place (pos 0)))) v (pos 0) ≡ capped most (get_or ns v (pos 0)))
    ⊎ ((get_or (set now place (capped most (get_or now place (pos 0)))) v (pos 0) ≡ get_or ns v (pos 0)) × IsAhead (i + 1) marks v)
one_capped most marks ns now i place h e l so v = elim (cases_eq v place) [
  | inl is ↦
      let here : get_or (set now place (capped most (get_or now place (pos 0)))) v (pos 0) ≡ capped most (get_or now v (pos 0)) =
      ap (λ (x : ℕ). get_or (set now place (capped most (get_or now place (pos 0)))) x (pos 0)) is ∙ get_or-set_same now place (capped most (get_or now place (pos 0))) (pos 0) l ∙ ap (λ (x : ℕ). capped most (get_or now x (pos 0))) (sym is) in
      inl (elim (so v) [
        | inl done ↦ here ∙ ap (capped most) done ∙ again most (get_or ns v (pos 0))
        | inr same ↦ here ∙ ap (capped most) same.0
      ])
  | inr apart ↦
      let kept : get_or (set now place (capped most (get_or now place (pos 0)))) v (pos 0) ≡ get_or now v (pos 0) = get_or-set_other now place v (capped most (get_or now place (pos 0))) (pos 0) apart in
      elim (so v) [
        | inl done ↦ inl (kept ∙ done)
        | inr same ↦
            let a : IsAhead i marks v = same.1 in
            inr (
              kept ∙ same.0,
              (
                a.0,
                elim (cases_eq a.0 i) [
                  | inl at ↦ absurd (apart (sym a.3 ∙ get_or_default_zero marks a.0 v a.2 ∙ ap (λ (x : ℕ). get_or marks x 0) at ∙ sym e))
                  | inr other ↦ omega (arith, a.1, other)
                ],
                a.2,
                a.3,
              ),
            )
      ]
]

-- a number of this size is read back as it is
pub whole : (z : ℤ) → unsigned_abs z ≤ largest_sum → to_z w128 (of_z w128 z) ≡ z
whole z h = omega (arith, ints, h)

pub cell_size : (ns : List ℤ) (i sum : ℕ) (z : ℤ) → i < length ns → z ≡ get_or ns i z → sum ≡ sizes ns → unsigned_abs z ≤ sum
cell_size ns i sum z h e s = omega (arith, size_below ns i z h, ap unsigned_abs e, s)

-- what a cell that is set changes in the sum of the sizes
pub set_sum : (ns : List ℤ) (i sum before after : ℕ) (old new : ℤ) → i < length ns → old ≡ get_or ns i old → sum ≡ sizes ns → before ≡ unsigned_abs old → after ≡ unsigned_abs new → sum - before + after ≡ sizes (set ns i new)
set_sum ns i sum before after old new h e s b a = omega (arith, set_sizes ns i new old h, size_below ns i old h, ap unsigned_abs e, s, b, a)

-- what is read of a cell that is within a sum, before it is capped and after
pub smaller_cell : (most sum : ℕ) (old after : ℤ) → unsigned_abs old ≤ sum → sum ≤ largest_sum → after ≡ capped most (to_z w128 (of_z w128 old))
    → (unsigned_abs (to_z w128 (of_z w128 old)) ≡ unsigned_abs old) × (unsigned_abs (to_z w128 (of_z w128 after)) ≤ unsigned_abs old)
smaller_cell most sum old after small fits is =
    let read : unsigned_abs (to_z w128 (of_z w128 old)) ≡ unsigned_abs old = ap unsigned_abs (whole old (omega (arith, small, fits))) in
    let smaller : unsigned_abs after ≤ unsigned_abs old = omega (arith, capped_size most (to_z w128 (of_z w128 old)), ap unsigned_abs is, read) in
    (read, omega (arith, smaller, ap unsigned_abs (whole after (omega (arith, smaller, small, fits)))))
