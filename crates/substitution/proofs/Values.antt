-- Writing the values of images over an assignment's, one after another.
use Rattle.std.proofs.Common.{◌≡◌, ◌≢◌, ℕ, zero, suc, ◌+◌, ◌<◌, ◌≤◌, Bool, true, false, cond, ◌==◌, List, [], ◌∷◌, ◌++◌, length, get_or, set, take, refl, ap, sym, ◌∙◌, arith}
use Rattle.std.proofs.lemmas.Bool.{eqb-true}
use Rattle.std.proofs.lemmas.Bool.Decides.{nat_tests}
use Rattle.std.proofs.lemmas.List.{take_more}
use Rattle.linear.specs.Valuation.{Valuation, valuation_of}
use Rattle.linear.specs.declared.term.Var.{Var}
use Rattle.substitution.specs.declared.image.Image.{Image}
use Rattle.substitution.specs.Images.{Images, NamesOnce, image_of, image_true, after}

either : (b d : Bool) (x p rest : Image) → (b ≡ true → d ≡ true → ⊥) → cond b x (cond d p rest) ≡ cond d p (cond b x rest)
either true true x p rest h = absurd (h refl refl)
either true false x p rest h = refl
either false true x p rest h = refl
either false false x p rest h = refl

-- one more image, of a variable that has none so far
image_push : (xs : Images) (p : Var × Image) (v : ℕ) → ((k : ℕ) (d : Var × Image) → k < length xs → (get_or xs k d).0.0 ≢ p.0.0) → image_of (xs ++ p ∷ []) v ≡ cond (v == p.0.0) p.1 (image_of xs v)
image_push [] p v h = refl
image_push (x ∷ xs) p v h =
    let rest = image_push xs p v (λ k d l. h (suc k) d (omega (arith, l))) in
    ap (λ (i : Image). cond (v == x.0.0) x.1 i) rest
    ∙ either (v == x.0.0) (v == p.0.0) x.1 p.1 (image_of xs v) (λ b d. h 0 x (omega arith) (sym (eqb-true v (x.0.0) b) ∙ eqb-true v (p.0.0) d))

get_or_take : (xs : Images) (n k : ℕ) (d : Var × Image) → k < n → get_or (take n xs) k d ≡ get_or xs k d
get_or_take [] zero k d h = refl
get_or_take [] (suc n) k d h = refl
get_or_take (x ∷ xs) zero k d h = absurd (omega (arith, h))
get_or_take (x ∷ xs) (suc n) zero d h = refl
get_or_take (x ∷ xs) (suc n) (suc k) d h = get_or_take xs n k d (omega (arith, h))

length_take : (xs : Images) (n : ℕ) → length (take n xs) ≤ n
length_take [] zero = omega arith
length_take [] (suc n) = omega arith
length_take (x ∷ xs) zero = omega arith
length_take (x ∷ xs) (suc n) = omega (arith, length_take xs n)

get_or_any : (xs : Images) (i : ℕ) (d e : Var × Image) → i < length xs → get_or xs i d ≡ get_or xs i e
get_or_any [] i d e h = absurd (omega (arith, h))
get_or_any (x ∷ xs) zero d e h = refl
get_or_any (x ∷ xs) (suc i) d e h = get_or_any xs i d e (omega (arith, h))

pub image_more : (images : Images) (i : ℕ) (p : Var × Image) → NamesOnce images → i < length images → p ≡ get_or images i p → (v : ℕ) → image_of (take (i + 1) images) v ≡ cond (v == p.0.0) p.1 (image_of (take i images) v)
image_more images i p once h is v =
    let new : (k : ℕ) (d : Var × Image) → k < length (take i images) → (get_or (take i images) k d).0.0 ≢ (get_or images i p).0.0 =
    λ k d l e.
    let below : k < i = omega (arith, l, length_take images i) in
    let at : get_or images i d ≡ get_or images i p = get_or_any images i d p h in
    once k i d below h (ap (λ (q : Var × Image). q.0.0) (sym (get_or_take images i k d below)) ∙ e ∙ sym (ap (λ (q : Var × Image). q.0.0) at)) in
    ap (λ (xs : Images). image_of xs v) (take_more images i p h) ∙ image_push (take i images) (get_or images i p) v new
    ∙ ap (λ (q : Var × Image). cond (v == q.0.0) q.1 (image_of (take i images) v)) (sym is)

chosen_true : (a : Valuation) (b : Bool) (i j : Image) → image_true a (cond b i j) ≡ cond b (image_true a i) (image_true a j)
chosen_true a true i j = refl
chosen_true a false i j = refl

same_test : (v k : ℕ) → (v == k) ≡ (suc v == suc k)
same_test v k = grind (arith, nat_tests)

-- a value written at a place
written : (values : List Bool) (k : ℕ) (b : Bool) (v : ℕ) → k < length values → valuation_of (set values k b) v ≡ cond (v == k) b (valuation_of values v)
written [] k b v h = absurd (omega (arith, h))
written (x ∷ xs) zero b zero h = refl
written (x ∷ xs) zero b (suc v) h = grind (arith, nat_tests)
written (x ∷ xs) (suc k) b zero h = grind (arith, nat_tests)
written (x ∷ xs) (suc k) b (suc v) h = written xs k b v (omega (arith, h)) ∙ ap (λ (t : Bool). cond t b (valuation_of xs v)) (same_test v k)

pub values_more : (a : Valuation) (images : Images) (i : ℕ) (p : Var × Image) (values : List Bool) (b : Bool) → NamesOnce images → i < length images → p ≡ get_or images i p → p.0.0 < length values → b ≡ image_true a p.1 → ((v : ℕ) → valuation_of values v ≡ after a (take i images) v) → (v : ℕ) → valuation_of (set values (p.0.0) b) v ≡ after a (take (i + 1) images) v
values_more a images i p values b once h is within e so_far v =
    written values (p.0.0) b v within
    ∙ ap (λ (t : Bool). cond (v == p.0.0) t (valuation_of values v)) e
    ∙ ap (λ (t : Bool). cond (v == p.0.0) (image_true a p.1) t) (so_far v)
    ∙ sym (ap (image_true a) (image_more images i p once h is v) ∙ chosen_true a (v == p.0.0) p.1 (image_of (take i images) v))

pub values_at : (a : Valuation) (images : Images) (i : ℕ) (d : Var × Image) (values : List Bool) (b : Bool) → NamesOnce images → i < length images → (get_or images i d).0.0 < length values → b ≡ image_true a (get_or images i d).1 → ((v : ℕ) → valuation_of values v ≡ after a (take i images) v) → (v : ℕ) → valuation_of (set values ((get_or images i d).0.0) b) v ≡ after a (take (i + 1) images) v
values_at a images i d values b once h within e so_far v =
    values_more a images i (get_or images i d) values b once h (get_or_any images i d (get_or images i d) h) within e so_far v
