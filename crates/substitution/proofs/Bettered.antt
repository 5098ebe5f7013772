-- A constraint of which each literal that is given an image is given 1 shows what it becomes: that is what is left of it, with a degree that
-- is less by what is gone.
use Rattle.std.proofs.Common.{◌≡◌, ◌⊎◌, inl, inr, ℕ, zero, suc, ◌+◌, ◌-◌, ◌≤◌, Bool, true, false, cond, ◌==◌, List, [], ◌∷◌, ◌++◌, map, All, refl, ap, sym, subst, ◌∙◌, arith}
use Rattle.std.specs.Prelude.{ℤ, pos, negsuc, ◌+ℤ◌, ◌-ℤ◌}
use Rattle.std.proofs.lemmas.Bool.{cases_eq, cases_lt}
use Rattle.std.proofs.lemmas.Bool.Decides.{nat_tests}
use Rattle.std.proofs.lemmas.Int.{ints}
use Rattle.std.proofs.lemmas.List.Elements.{All-head, All-tail}
use Rattle.normal_form.specs.declared.term.NormalTerm.{NormalTerm}
use Rattle.normal_form.specs.Normal.{Literals, NormalConstraint, only, sum_below, sum_over, total, variable_bound, Rises}
use Rattle.normal_form.specs.NormalOf.{at_least_zero, negated_sum}
use Rattle.normal_form.specs.Balance.{slopes, rises_of}
use Rattle.normal_form.proofs.FromBalance.{raised}
use Rattle.normal_form.proofs.NormalForm.{is_form}
use Rattle.normal_form.proofs.Sums.{counted}
use Rattle.substitution.specs.declared.image.Image.{Image}
use Rattle.substitution.specs.declared.image.Image.TheVariants.{Lit, Zero, One}
use Rattle.substitution.specs.Beyond.{ShowsImage}
use Rattle.substitution.specs.Covering.{excess, excess_at}
use Rattle.substitution.specs.Images.{Images, image_of, image_of_literal}
use Rattle.substitution.specs.Under.{IsBettered, IsUnder, constant_at, constant_under, signed_image, signed_term, substituted, term_at, terms_under}
use Rattle.substitution.proofs.BothExcesses.{both_excesses}
use Rattle.substitution.proofs.KeptTerms.{lower_rises}
use Rattle.substitution.proofs.Untouched.{literal, passed}

-- a literal of the variable of an image is given 1
abbrev Good : Images → NormalTerm → Type 0
Good images t = All (λ p. p.0.0 ≡ t.var.0 → signed_image p.1 t.negated ≡ One) images

-- a literal stays, or is given 1
abbrev StaysOrOne : ℕ → Bool → Image → Type 0
StaysOrOne v s i = (i ≡ literal v s) ⊎ (i ≡ One)

own : (v : ℕ) (s : Bool) → image_of_literal [] v s ≡ literal v s
own v true = refl
own v false = refl

found : (v w : ℕ) (i rest : Image) → w ≡ v → cond (v == w) i rest ≡ i
found v w i rest h = let same : (v == w) ≡ true = grind (arith, nat_tests) in ap (λ (b : Bool). cond b i rest) same

stays_or_one : (images : Images) (v : ℕ) (s : Bool) → All (λ p. p.0.0 ≡ v → signed_image p.1 s ≡ One) images → StaysOrOne v s (image_of_literal images v s)
stays_or_one [] v s h = inl (own v s)
stays_or_one (p ∷ ps) v s h = elim (cases_eq (p.0.0) v) [
  | inl e ↦ inr (ap (λ (i : Image). signed_image i s) (found v (p.0.0) p.1 (image_of ps v) e) ∙ All-head (λ q. q.0.0 ≡ v → signed_image q.1 s ≡ One) p ps h e)
  | inr other ↦
      subst (StaysOrOne v s) (ap (λ (i : Image). signed_image i s) (sym (passed v (p.0.0) p.1 (image_of ps v) other)))
      (stays_or_one ps v s (All-tail (λ q. q.0.0 ≡ v → signed_image q.1 s ≡ One) p ps h))
]

-- an image is 1
abbrev pub is_one : Image → Bool
is_one (Lit l) = false
is_one Zero = false
is_one One = true

-- the terms that are left, and what the others add up to
abbrev left : Images → List NormalTerm → List NormalTerm
left images [] = []
left images (t ∷ ts) = cond (is_one (image_of_literal images (t.var.0) t.negated)) (left images ts) (t ∷ left images ts)

abbrev gone : Images → List NormalTerm → ℕ
gone images [] = 0
gone images (t ∷ ts) = cond (is_one (image_of_literal images (t.var.0) t.negated)) t.coef 0 + gone images ts

left_rises : (images : Images) (low : ℕ) (ts : List NormalTerm) → Rises low ts → Rises low (left images ts)
left_rises images low [] r = tt
left_rises images low (t ∷ ts) r =
    let rest = left_rises images (t.var.0 + 1) ts r.2 in
    elim (is_one (image_of_literal images (t.var.0) t.negated)) as (λ b. Rises low (cond b (left images ts) (t ∷ left images ts))) [
      | true ↦ lower_rises low (t.var.0 + 1) (left images ts) (omega (arith, r.0)) rest
      | false ↦ (r.0, r.1, rest)
    ]

-- what holds of a term that stays and of one that is given 1 holds of each
each : (images : Images) (t : NormalTerm) (ts : List NormalTerm) (P : Image → Type 0) → All (Good images) (t ∷ ts) → P (literal (t.var.0) t.negated) → P One → P (image_of_literal images (t.var.0) t.negated)
each images t ts P h stays one = elim (stays_or_one images (t.var.0) t.negated (All-head (Good images) t ts h)) [
  | inl e ↦ subst P (sym e) stays
  | inr e ↦ subst P (sym e) one
]

left_slopes : (images : Images) (set : ℕ → Bool) (ts : List NormalTerm) → All (Good images) ts → rises_of set (left images ts) ≡ slopes set (terms_under images (map signed_term ts))
left_slopes images set [] h = refl
left_slopes images set (t ∷ ts) h =
    let rest = left_slopes images set ts (All-tail (Good images) t ts h) in
    each images t ts (λ i. rises_of set (cond (is_one i) (left images ts) (t ∷ left images ts)) ≡ slopes set (term_at (pos t.coef) i ++ terms_under images (map signed_term ts))) h
    (omega (arith, ints, rest))
    rest

if_negated : (b : Bool) (c : ℕ) → cond b (pos c) (pos 0) ≡ pos (cond b c 0)
if_negated true c = refl
if_negated false c = refl

left_negated : (images : Images) (ts : List NormalTerm) → All (Good images) ts → negated_sum (terms_under images (map signed_term ts)) ≡ pos (sum_over (λ _ negated. negated) (left images ts))
left_negated images [] h = refl
left_negated images (t ∷ ts) h =
    let rest = left_negated images ts (All-tail (Good images) t ts h) in
    each images t ts (λ i. negated_sum (term_at (pos t.coef) i ++ terms_under images (map signed_term ts)) ≡ pos (sum_over (λ _ negated. negated) (cond (is_one i) (left images ts) (t ∷ left images ts)))) h
    (omega (arith, ints, rest, if_negated t.negated t.coef))
    rest

left_constant : (images : Images) (ts : List NormalTerm) → All (Good images) ts → constant_under images (map signed_term ts) ≡ pos (gone images ts)
left_constant images [] h = refl
left_constant images (t ∷ ts) h =
    let rest = left_constant images ts (All-tail (Good images) t ts h) in
    each images t ts (λ i. constant_at (pos t.coef) i +ℤ constant_under images (map signed_term ts) ≡ pos (cond (is_one i) t.coef 0 + gone images ts)) h
    (omega (arith, ints, rest))
    (omega (arith, ints, rest))

left_sum : (images : Images) (set : Literals) (ts : List NormalTerm) → sum_over set (left images ts) ≤ sum_over set ts
left_sum images set [] = omega arith
left_sum images set (t ∷ ts) =
    let rest = left_sum images set ts in
    elim (is_one (image_of_literal images (t.var.0) t.negated)) as (λ b. sum_over set (cond b (left images ts) (t ∷ left images ts)) ≤ counted set t + sum_over set ts) [
      | true ↦ omega (arith, rest)
      | false ↦ omega (arith, rest)
    ]

left_total : (images : Images) (ts : List NormalTerm) → total (left images ts) + gone images ts ≡ total ts
left_total images [] = refl
left_total images (t ∷ ts) =
    let rest = left_total images ts in
    elim (is_one (image_of_literal images (t.var.0) t.negated)) as (λ b. total (cond b (left images ts) (t ∷ left images ts)) + (cond b t.coef 0 + gone images ts) ≡ total (t ∷ ts)) [
      | true ↦ omega (arith, rest)
      | false ↦ omega (arith, rest)
    ]

none_at_all : (n : ℕ) (f : ℕ → ℕ) → ((v : ℕ) → f v ≡ 0) → sum_below n f ≡ 0
none_at_all zero f h = refl
none_at_all (suc n) f h = omega (arith, none_at_all n f h, h n)

-- what is left
abbrev rest_of : NormalConstraint → Images → NormalConstraint
rest_of n images = record { terms = left images n.terms; degree = n.degree - gone images n.terms }

degree_less : (d g : ℕ) (z : ℤ) → z ≡ pos d -ℤ pos g → d - g ≡ at_least_zero z
degree_less d g (pos n) e = omega (arith, ints, e)
degree_less d g (negsuc n) e = omega (arith, ints, e)

under_rest : (n : NormalConstraint) (images : Images) → Rises 0 n.terms → IsBettered n images → IsUnder n images (rest_of n images)
under_rest n images rises h =
    let right : raised (substituted n images).right (substituted n images).terms (left images n.terms) ≡ pos n.degree -ℤ pos (gone images n.terms) = omega (arith, ints, left_negated images n.terms h, left_constant images n.terms h) in
    is_form (substituted n images) (rest_of n images) (left_rises images 0 n.terms rises) (λ set. left_slopes images set n.terms h)
    (degree_less n.degree (gone images n.terms) (raised (substituted n images).right (substituted n images).terms (left images n.terms)) right)

no_excess : (n : NormalConstraint) (images : Images) → excess (rest_of n images) n ≡ 0
no_excess n images =
    none_at_all (variable_bound (left images n.terms)) (excess_at (rest_of n images) n)
    (λ v. omega (arith, left_sum images (only v false) n.terms, left_sum images (only v true) n.terms))

pub bettered_shows : (n : NormalConstraint) (images : Images) → Rises 0 n.terms → IsBettered n images → ShowsImage n images
bettered_shows n images rises h =
    let r = rest_of n images in
    let lost : excess n r ≡ gone images n.terms = omega (arith, both_excesses n r, no_excess n images, left_total images n.terms) in (
      r,
      under_rest n images rises h,
      elim (cases_lt n.degree (gone images n.terms)) [
        | inl less ↦ inl (omega (arith, less))
        | inr enough ↦ inr (omega (arith, enough, lost))
      ],
    )
