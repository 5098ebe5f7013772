-- The objective less what it is with images put in.
use Rattle.std.proofs.Common.{◌≡◌, ℕ, ◌+◌, ◌*◌, ◌<◌, ◌≤◌, List, [], ◌∷◌, ◌++◌, All, length, map, get_or, take, refl, ap, sym, ◌∙◌, append_assoc, subst, Option, Some, IfSome, arith}
use Rattle.std.specs.Prelude.{ℤ, neg_ℤ, ◌+ℤ◌, unsigned_abs}
use Rattle.std.proofs.lemmas.Int.{ints}
use Rattle.std.proofs.lemmas.List.{take_more}
use Rattle.std.proofs.lemmas.List.Elements.{All-head, All-tail}
use Rattle.linear.specs.declared.term.Term.{Term}
use Rattle.linear.specs.Limits.{largest_integer, IsTermWithin, IsSumWithin}
use Rattle.normal_form.specs.NormalOf.{sign_changed, size_sum}
use Rattle.normal_form.proofs.SignChanges.{sign_changed_sizes}
use Rattle.normal_form.proofs.Runs.{size_more, size_take}
use Rattle.substitution.specs.declared.image.Image.{Image}
use Rattle.substitution.specs.declared.image.Image.TheVariants.{Lit, Zero, One}
use Rattle.substitution.specs.Images.{Images, image_of_literal}
use Rattle.substitution.specs.Under.{term_at, constant_at, terms_under, constant_under}
use Rattle.linear.specs.Largest.{largest_objective}
use Rattle.substitution.specs.Objective.{not_raised}
use Rattle.substitution.proofs.PuttingIn.{terms_push, constant_push}

map_append : (xs ys : List Term) → map sign_changed (xs ++ ys) ≡ map sign_changed xs ++ map sign_changed ys
map_append [] ys = refl
map_append (x ∷ xs) ys = ap (λ (us : List Term). sign_changed x ∷ us) (map_append xs ys)

opposite_at : (c : ℤ) (i : Image) → map sign_changed (term_at c i) ≡ term_at (neg_ℤ c) i
opposite_at c (Lit l) = refl
opposite_at c Zero = refl
opposite_at c One = refl

opposite_constant : (c : ℤ) (i : Image) → neg_ℤ (constant_at c i) ≡ constant_at (neg_ℤ c) i
opposite_constant c (Lit l) = refl
opposite_constant c Zero = refl
opposite_constant c One = refl

-- the terms after the first places of the objective
abbrev pub difference_before : Images → List Term → ℕ → List Term
difference_before images ts i = ts ++ map sign_changed (terms_under images (take i ts))

abbrev pub taken_before : Images → List Term → ℕ → ℤ
taken_before images ts i = neg_ℤ (constant_under images (take i ts))

pub difference_more : (images : Images) (ts : List Term) (i : ℕ) (d : Term) → i < length ts → difference_before images ts (i + 1) ≡ difference_before images ts i ++ term_at (neg_ℤ (get_or ts i d).coef) (image_of_literal images ((get_or ts i d).var.0) (get_or ts i d).negated)
difference_more images ts i d h =
    let t = get_or ts i d in
    let image = image_of_literal images (t.var.0) t.negated in
    let so_far = map sign_changed (terms_under images (take i ts)) in
    ap (λ (us : List Term). ts ++ map sign_changed (terms_under images us)) (take_more ts i d h)
    ∙ ap (λ (us : List Term). ts ++ map sign_changed us) (terms_push images (take i ts) t)
    ∙ ap (λ (us : List Term). ts ++ us) (map_append (terms_under images (take i ts)) (term_at t.coef image))
    ∙ ap (λ (us : List Term). ts ++ (so_far ++ us)) (opposite_at t.coef image)
    ∙ sym (append_assoc ts so_far (term_at (neg_ℤ t.coef) image))

pub taken_more : (images : Images) (ts : List Term) (i : ℕ) (d : Term) → i < length ts → taken_before images ts (i + 1) ≡ taken_before images ts i +ℤ constant_at (neg_ℤ (get_or ts i d).coef) (image_of_literal images ((get_or ts i d).var.0) (get_or ts i d).negated)
taken_more images ts i d h =
    let t = get_or ts i d in
    let image = image_of_literal images (t.var.0) t.negated in
    let split : constant_under images (take (i + 1) ts) ≡ constant_under images (take i ts) +ℤ constant_at t.coef image = ap (constant_under images) (take_more ts i d h) ∙ constant_push images (take i ts) t in
    omega (arith, ints, split, opposite_constant t.coef image)

constant_size_at : (c : ℤ) (i : Image) → unsigned_abs (constant_at c i) ≤ unsigned_abs c
constant_size_at c (Lit l) = omega (arith, ints)
constant_size_at c Zero = omega (arith, ints)
constant_size_at c One = omega arith

pub constant_size : (images : Images) (ts : List Term) → unsigned_abs (constant_under images ts) ≤ size_sum ts
constant_size images [] = omega (arith, ints)
constant_size images (t ∷ ts) = omega (arith, ints, constant_size_at t.coef (image_of_literal images (t.var.0) t.negated), constant_size images ts)

-- there is room for one coefficient more
pub taken_room : (images : Images) (ts : List Term) (i : ℕ) (d : Term) → i < length ts → unsigned_abs (taken_before images ts i) + unsigned_abs (get_or ts i d).coef ≤ size_sum ts
taken_room images ts i d h = omega (arith, ints, constant_size images (take i ts), size_more ts i d h, size_take (i + 1) ts)

size_append : (xs ys : List Term) → size_sum (xs ++ ys) ≡ size_sum xs + size_sum ys
size_append [] ys = omega arith
size_append (x ∷ xs) ys = omega (arith, size_append xs ys)

size_term_at : (c : ℤ) (i : Image) → size_sum (term_at c i) ≤ unsigned_abs c
size_term_at c (Lit l) = omega arith
size_term_at c Zero = omega arith
size_term_at c One = omega arith

size_with_images : (images : Images) (ts : List Term) → size_sum (terms_under images ts) ≤ size_sum ts
size_with_images images [] = omega arith
size_with_images images (t ∷ ts) =
    let i = image_of_literal images (t.var.0) t.negated in
    omega (arith, size_append (term_at t.coef i) (terms_under images ts), size_term_at t.coef i, size_with_images images ts)

pub difference_small : (images : Images) (ts : List Term) → size_sum (not_raised ts images).terms + unsigned_abs (not_raised ts images).right ≤ 3 * size_sum ts
difference_small images ts =
    omega (arith, size_append ts (map sign_changed (terms_under images ts)), sign_changed_sizes (terms_under images ts), size_with_images images ts, constant_size images ts)

each_within : (n : ℕ) (ts : List Term) → All (IsTermWithin n) ts → size_sum ts ≤ length ts * largest_integer
each_within n [] h = omega arith
each_within n (t ∷ ts) h =
    let here = (All-head (IsTermWithin n) t ts h).coefficient in
    omega (arith, here, each_within n ts (All-tail (IsTermWithin n) t ts h))

pub objective_small : (n : ℕ) (ts : List Term) → IsSumWithin n ts → size_sum ts ≤ largest_objective
objective_small n ts w = omega (arith, each_within n ts w.each, w.count)

pub objective_read : (n : ℕ) (o : Option (List Term)) (ts us : List Term) → Some ts ≡ o → us ≡ ts → IfSome o (IsSumWithin n) → size_sum us ≤ largest_objective
objective_read n o ts us e f w =
    let within : IsSumWithin n ts = subst (λ (p : Option (List Term)). IfSome p (IsSumWithin n)) (sym e) w in
    omega (arith, objective_small n ts within, ap size_sum f)
