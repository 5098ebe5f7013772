-- Putting in images term by term.
use Rattle.std.proofs.Common.{◌≡◌, ℕ, ◌+◌, ◌<◌, ◌≤◌, true, List, [], ◌∷◌, ◌++◌, map, length, get_or, take, refl, ap, sym, ◌∙◌, append_assoc, append-nil, inl, inr, arith}
use Rattle.std.specs.Prelude.{ℤ, pos, ◌+ℤ◌, ◌-ℤ◌, ◌≤ℤ◌}
use Rattle.std.proofs.lemmas.Int.{ints}
use Rattle.std.proofs.lemmas.List.{take_more}
use Rattle.linear.specs.declared.term.Term.{Term}
use Rattle.normal_form.specs.declared.term.NormalTerm.{NormalTerm}
use Rattle.linear.specs.declared.constraint.Relation.TheVariants.{AtLeast}
use Rattle.linear.specs.declared.constraint.Signed.{Signed}
use Rattle.normal_form.specs.Normal.{NormalConstraint, Fits, total}
use Rattle.normal_form.specs.NormalOf.{IsTooLarge}
use Rattle.normal_form.proofs.Sums.{sum_over_more, sum_over_take}
use Rattle.substitution.specs.declared.image.Image.{Image}
use Rattle.substitution.specs.declared.image.Image.TheVariants.{Lit, Zero, One}
use Rattle.substitution.specs.Images.{Images, image_of_literal}
use Rattle.substitution.specs.Under.{term_at, constant_at, terms_under, constant_under, signed_term, substituted}
use Rattle.substitution.proofs.Sizes.{constant_not_negative, size_under, sum_no_larger, degree_no_larger}

pub terms_push : (images : Images) (ts : List Term) (t : Term) → terms_under images (ts ++ t ∷ []) ≡ terms_under images ts ++ term_at t.coef (image_of_literal images (t.var.0) t.negated)
terms_push images [] t = append-nil (term_at t.coef (image_of_literal images (t.var.0) t.negated))
terms_push images (x ∷ xs) t =
    let i = image_of_literal images (x.var.0) x.negated in
    ap (λ (us : List Term). term_at x.coef i ++ us) (terms_push images xs t)
    ∙ sym (append_assoc (term_at x.coef i) (terms_under images xs) (term_at t.coef (image_of_literal images (t.var.0) t.negated)))

pub constant_push : (images : Images) (ts : List Term) (t : Term) → constant_under images (ts ++ t ∷ []) ≡ constant_under images ts +ℤ constant_at t.coef (image_of_literal images (t.var.0) t.negated)
constant_push images [] t = omega (arith, ints)
constant_push images (x ∷ xs) t = omega (arith, ints, constant_push images xs t)

map_push : (ts : List NormalTerm) (t : NormalTerm) → map signed_term (ts ++ t ∷ []) ≡ map signed_term ts ++ signed_term t ∷ []
map_push [] t = refl
map_push (x ∷ xs) t = ap (λ (us : List Term). signed_term x ∷ us) (map_push xs t)

-- the terms of the first places of a constraint, with images put in
abbrev pub terms_before : Images → List NormalTerm → ℕ → List Term
terms_before images ts i = terms_under images (map signed_term (take i ts))

abbrev pub constant_before : Images → List NormalTerm → ℕ → ℤ
constant_before images ts i = constant_under images (map signed_term (take i ts))

front : (ts : List NormalTerm) (i : ℕ) (d : NormalTerm) → i < length ts → map signed_term (take (i + 1) ts) ≡ map signed_term (take i ts) ++ signed_term (get_or ts i d) ∷ []
front ts i d h = ap (λ (us : List NormalTerm). map signed_term us) (take_more ts i d h) ∙ map_push (take i ts) (get_or ts i d)

pub terms_more : (images : Images) (ts : List NormalTerm) (i : ℕ) (t : NormalTerm) → i < length ts → t ≡ get_or ts i t → terms_before images ts (i + 1) ≡ terms_before images ts i ++ term_at (pos t.coef) (image_of_literal images (t.var.0) t.negated)
terms_more images ts i t h is =
    ap (terms_under images) (front ts i t h) ∙ terms_push images (map signed_term (take i ts)) (signed_term (get_or ts i t))
    ∙ ap (λ (u : NormalTerm). terms_before images ts i ++ term_at (pos u.coef) (image_of_literal images (u.var.0) u.negated)) (sym is)

pub constant_more : (images : Images) (ts : List NormalTerm) (i : ℕ) (t : NormalTerm) → i < length ts → t ≡ get_or ts i t → constant_before images ts (i + 1) ≡ constant_before images ts i +ℤ constant_at (pos t.coef) (image_of_literal images (t.var.0) t.negated)
constant_more images ts i t h is =
    ap (constant_under images) (front ts i t h) ∙ constant_push images (map signed_term (take i ts)) (signed_term (get_or ts i t))
    ∙ ap (λ (u : NormalTerm). constant_before images ts i +ℤ constant_at (pos u.coef) (image_of_literal images (u.var.0) u.negated)) (sym is)

one_constant : (c : ℕ) (i : Image) → constant_at (pos c) i ≤ℤ pos c
one_constant c (Lit l) = omega (arith, ints)
one_constant c Zero = omega (arith, ints)
one_constant c One = omega (arith, ints)

pub constant_below : (images : Images) (ts : List NormalTerm) → constant_under images (map signed_term ts) ≤ℤ pos (total ts)
constant_below images [] = omega (arith, ints)
constant_below images (t ∷ ts) = omega (arith, ints, one_constant t.coef (image_of_literal images (t.var.0) t.negated), constant_below images ts)

-- what is constant so far and one coefficient more stay within the coefficient sum
pub constant_room : (images : Images) (ts : List NormalTerm) (i : ℕ) (t : NormalTerm) → i < length ts → t ≡ get_or ts i t → (pos 0 ≤ℤ constant_before images ts i) × ((constant_before images ts i +ℤ pos t.coef) ≤ℤ pos (total ts))
constant_room images ts i t h is =
    let same : t.coef ≡ (get_or ts i t).coef = ap (λ (u : NormalTerm). u.coef) is in
    let more = sum_over_more (λ _ _. true) ts i t h in
    let most = sum_over_take (λ _ _. true) (i + 1) ts in
    (constant_not_negative images (take i ts), omega (arith, ints, constant_below images (take i ts), same, more, most))

pub coefficient_small : (ts : List NormalTerm) (i : ℕ) (t : NormalTerm) → i < length ts → t ≡ get_or ts i t → t.coef ≤ total ts
coefficient_small ts i t h is =
    let same : t.coef ≡ (get_or ts i t).coef = ap (λ (u : NormalTerm). u.coef) is in
    let more = sum_over_more (λ _ _. true) ts i t h in
    let most = sum_over_take (λ _ _. true) (i + 1) ts in
    omega (arith, same, more, most)

-- the step of the loop, with its parts named
pub terms_step : (new old before after : List Term) (z c : ℤ) (i j : Image) → new ≡ old ++ term_at z i → old ≡ before → z ≡ c → i ≡ j → after ≡ before ++ term_at c j → new ≡ after
terms_step new old before after z c i j e f g h k = cc

pub constant_step : (new old before after : ℤ) (z c : ℤ) (i j : Image) → new ≡ old +ℤ constant_at z i → old ≡ before → z ≡ c → i ≡ j → after ≡ before +ℤ constant_at c j → new ≡ after
constant_step new old before after z c i j e f g h k = cc

pub same_signed : (ts us : List Term) (r q : ℤ) → ts ≡ us → r ≡ q → ◌≡◌ {A = Signed} (record { terms = ts; relation = AtLeast; right = r }) (record { terms = us; relation = AtLeast; right = q })
same_signed ts us r q e f =
    let made : List Term → ℤ → Signed = λ xs z. record { terms = xs; relation = AtLeast; right = z } in
    ap (λ (xs : List Term). made xs r) e ∙ ap (λ (z : ℤ). made us z) f

pub substituted_is : (n : NormalConstraint) (images : Images) (ts : List Term) (r : ℤ) → ts ≡ terms_under images (map signed_term n.terms) → r ≡ pos n.degree -ℤ constant_under images (map signed_term n.terms) → ◌≡◌ {A = Signed} (record { terms = ts; relation = AtLeast; right = r }) (substituted n images)
substituted_is n images ts r e f = same_signed ts (terms_under images (map signed_term n.terms)) r (pos n.degree -ℤ constant_under images (map signed_term n.terms)) e f

-- a constraint with images put in is within the limits where the constraint is
pub never_too_large : (n : NormalConstraint) (images : Images) → Fits n → IsTooLarge (substituted n images) → ⊥
never_too_large n images fits (inl h) = omega (arith, ints, h, size_under images n.terms, constant_not_negative images n.terms, fits.sum)
never_too_large n images fits (inr h) =
    let sum = sum_no_larger n h.0 images h.1.form in
    let degree = degree_no_larger n h.0 images h.1.form in
    h.1.breaks (record { sum = omega (arith, sum, fits.sum); degree = omega (arith, degree, fits.degree) })
