-- An objective's goal from its net coefficients alone: what the terms of one variable give adds up to what its net coefficient
-- gives, and a variable that is its own image gives nothing.
use Rattle.std.proofs.Common.{◌≡◌, ◌≢◌, ℕ, suc, ◌+◌, ◌≤◌, Bool, true, false, not, cond, ◌==◌, List, [], ◌∷◌, ◌++◌, All, map, get_or, Option, Some, IfSome, IsSomeAnd, MatchOption, refl, ap, sym, subst, ◌∙◌, arith, inl, inr}
use Rattle.std.specs.Prelude.{ℤ, pos, neg_ℤ, ◌+ℤ◌, ◌-ℤ◌, unsigned_abs}
use Rattle.std.proofs.lemmas.Bool.{cases_eq}
use Rattle.std.proofs.lemmas.Bool.Decides.{nat_tests}
use Rattle.std.proofs.lemmas.Int.{ints}
use Rattle.std.proofs.lemmas.List.Elements.{All-head, All-tail, All-cons, All-nil}
use Rattle.linear.specs.declared.term.Term.{Term}
use Rattle.linear.specs.declared.term.Var.{Var}
use Rattle.linear.specs.declared.constraint.Signed.{Signed}
use Rattle.linear.specs.Largest.{largest_objective}
use Rattle.linear.specs.Limits.{IsSumWithin}
use Rattle.normal_form.specs.Normal.{NormalConstraint}
use Rattle.normal_form.specs.NormalOf.{IsNormalOf, at_least_zero, negated_total, net, negated_sum, sign_changed, size_sum, slope}
use Rattle.normal_form.proofs.Runs.{slope_size}
use Rattle.normal_form.proofs.SignChanges.{sign_changed_negated}
use Rattle.substitution.specs.declared.image.Image.{Image}
use Rattle.substitution.specs.declared.image.Image.TheVariants.{Lit, Zero, One}
use Rattle.substitution.specs.Images.{Images, NamesOnce, itself, image_of, image_of_literal, opposite_image}
use Rattle.substitution.specs.Under.{term_at, constant_at, terms_under, constant_under}
use Rattle.substitution.specs.Objective.{not_raised, AreNetsOf, net_terms, IsObjectiveGoal}
use Rattle.substitution.proofs.Difference.{objective_small}
use Rattle.substitution.proofs.Untouched.{stays}

once_head : (p : Var × Image) (ps : Images) → NamesOnce (p ∷ ps) → All (λ q. p.0.0 ≢ q.0.0) ps
once_head p ps h k d lt = h 0 (suc k) d (omega arith) (omega arith)

once_tail : (p : Var × Image) (ps : Images) → NamesOnce (p ∷ ps) → NamesOnce ps
once_tail p ps h i j d lt within = h (suc i) (suc j) d (omega arith) (omega arith)

-- what a coefficient at a variable gives a sum, twice as much for twice the coefficient
record IsAdditive (f : ℤ → ℕ → ℤ) : Type 0 where
  add : (a b : ℤ) (v : ℕ) → f (a +ℤ b) v ≡ f a v +ℤ f b v

nothing : (f : ℤ → ℕ → ℤ) → IsAdditive f → (v : ℕ) → f (pos 0) v ≡ pos 0
nothing f is v = omega (arith, ints, is.add (pos 0) (pos 0) v)

-- what terms give
abbrev given_by : (ℤ → ℕ → ℤ) → List Term → ℤ
given_by f [] = pos 0
given_by f (t ∷ ts) = f (slope t) (t.var.0) +ℤ given_by f ts

-- what the variables of a substitution give, each with its coefficient
abbrev given_at : (ℤ → ℕ → ℤ) → Images → (ℕ → ℤ) → ℤ
given_at f [] coefficient = pos 0
given_at f (p ∷ ps) coefficient = f (coefficient (p.0.0)) (p.0.0) +ℤ given_at f ps coefficient

-- one coefficient at one variable
abbrev alone : ℕ → ℤ → ℕ → ℤ
alone w z v = cond (w == v) z (pos 0)

given_added : (f : ℤ → ℕ → ℤ) → IsAdditive f → (images : Images) (c d : ℕ → ℤ) → given_at f images (λ v. c v +ℤ d v) ≡ given_at f images c +ℤ given_at f images d
given_added f is [] c d = omega (arith, ints)
given_added f is (p ∷ ps) c d = omega (arith, ints, is.add (c (p.0.0)) (d (p.0.0)) (p.0.0), given_added f is ps c d)

given_nothing : (f : ℤ → ℕ → ℤ) → IsAdditive f → (images : Images) → given_at f images (λ _. pos 0) ≡ pos 0
given_nothing f is [] = refl
given_nothing f is (p ∷ ps) = omega (arith, ints, nothing f is (p.0.0), given_nothing f is ps)

other : (w v : ℕ) (z : ℤ) → (w ≡ v → ⊥) → alone w z v ≡ pos 0
other w v z h = let off : (w == v) ≡ false = grind (arith, nat_tests) in ap (λ (b : Bool). cond b z (pos 0)) off

same : (w v : ℕ) (z : ℤ) → w ≡ v → alone w z v ≡ z
same w v z h = let on : (w == v) ≡ true = grind (arith, nat_tests) in ap (λ (b : Bool). cond b z (pos 0)) on

-- a variable that is given no image gives nothing
given_apart : (f : ℤ → ℕ → ℤ) → IsAdditive f → (images : Images) (w : ℕ) (z : ℤ) → All (λ q. w ≢ q.0.0) images → given_at f images (alone w z) ≡ pos 0
given_apart f is [] w z h = refl
given_apart f is (p ∷ ps) w z h =
    let here : f (alone w z (p.0.0)) (p.0.0) ≡ pos 0 = ap (λ (y : ℤ). f y (p.0.0)) (other w (p.0.0) z (All-head (λ q. w ≢ q.0.0) p ps h)) ∙ nothing f is (p.0.0) in
    omega (arith, ints, here, given_apart f is ps w z (All-tail (λ q. w ≢ q.0.0) p ps h))

apart_from : (p : Var × Image) (ps : Images) (w : ℕ) → NamesOnce (p ∷ ps) → w ≡ p.0.0 → All (λ q. w ≢ q.0.0) ps
apart_from p ps w once e k d lt is = once_head p ps once k d lt (sym e ∙ is)

-- a variable gives what its coefficient does, once
given_alone : (f : ℤ → ℕ → ℤ) → IsAdditive f → (images : Images) (w : ℕ) (z : ℤ) → NamesOnce images → (All (λ q. w ≢ q.0.0) images → f z w ≡ pos 0) → given_at f images (alone w z) ≡ f z w
given_alone f is [] w z once quiet = sym (quiet (All-nil (λ q. w ≢ q.0.0)))
given_alone f is (p ∷ ps) w z once quiet = elim (cases_eq w (p.0.0)) as (λ _. given_at f (p ∷ ps) (alone w z) ≡ f z w) [
  | inl e ↦
      let here : f (alone w z (p.0.0)) (p.0.0) ≡ f z w = ap (λ (y : ℤ). f y (p.0.0)) (same w (p.0.0) z e) ∙ ap (f z) (sym e) in
      omega (arith, ints, here, given_apart f is ps w z (apart_from p ps w once e))
  | inr h ↦
      let here : f (alone w z (p.0.0)) (p.0.0) ≡ pos 0 = ap (λ (y : ℤ). f y (p.0.0)) (other w (p.0.0) z h) ∙ nothing f is (p.0.0) in
      omega (arith, ints, here, given_alone f is ps w z (once_tail p ps once) (λ all. quiet (All-cons (λ q. w ≢ q.0.0) p ps h all)))
]

-- what terms give, gathered by variable
regrouped : (f : ℤ → ℕ → ℤ) → IsAdditive f → (images : Images) → NamesOnce images → ((w : ℕ) (z : ℤ) → All (λ q. w ≢ q.0.0) images → f z w ≡ pos 0) → (ts : List Term) → given_by f ts ≡ given_at f images (net ts)
regrouped f is images once quiet [] = sym (given_nothing f is images)
regrouped f is images once quiet (t ∷ ts) =
    omega (arith, ints, regrouped f is images once quiet ts, given_added f is images (alone (t.var.0) (slope t)) (net ts), given_alone f is images (t.var.0) (slope t) once (quiet (t.var.0) (slope t)))

given_equal : (f : ℤ → ℕ → ℤ) (images : Images) (c d : ℕ → ℤ) → ((v : ℕ) → c v ≡ d v) → given_at f images c ≡ given_at f images d
given_equal f [] c d e = refl
given_equal f (p ∷ ps) c d e = omega (arith, ints, ap (λ (z : ℤ). f z (p.0.0)) (e (p.0.0)), given_equal f ps c d e)

given_net_terms : (f : ℤ → ℕ → ℤ) (nets : List ℤ) (images : Images) → given_by f (net_terms nets images) ≡ given_at f images (λ v. get_or nets v (pos 0))
given_net_terms f nets [] = refl
given_net_terms f nets (p ∷ ps) = ap (λ (z : ℤ). f (get_or nets (p.0.0) (pos 0)) (p.0.0) +ℤ z) (given_net_terms f nets ps)

-- all terms give what the net terms do
same_gift : (f : ℤ → ℕ → ℤ) → IsAdditive f → (images : Images) → NamesOnce images → ((w : ℕ) (z : ℤ) → All (λ q. w ≢ q.0.0) images → f z w ≡ pos 0) → (ts : List Term) (nets : List ℤ) → AreNetsOf ts nets
    → given_by f (net_terms nets images) ≡ given_by f ts
same_gift f is images once quiet ts nets are =
    given_net_terms f nets images ∙ given_equal f images (λ v. get_or nets v (pos 0)) (net ts) are ∙ sym (regrouped f is images once quiet ts)

-- what a variable gives another variable's net coefficient in the goal
abbrev net_gift : Images → ℕ → ℤ → ℕ → ℤ
net_gift images v z w = alone w z v -ℤ net (term_at z (image_of images w)) v

-- what it gives the right side, where each literal `~x` is read as `1 - x`
abbrev constant_gift : Images → ℤ → ℕ → ℤ
constant_gift images z w = constant_at z (image_of images w) +ℤ negated_sum (term_at z (image_of images w))

signed_added : (b n : Bool) (x y : ℤ) → cond b (cond n (neg_ℤ (x +ℤ y)) (x +ℤ y)) (pos 0) ≡ cond b (cond n (neg_ℤ x) x) (pos 0) +ℤ cond b (cond n (neg_ℤ y) y) (pos 0)
signed_added true true x y = omega (arith, ints)
signed_added true false x y = omega (arith, ints)
signed_added false n x y = omega (arith, ints)

part_added : (b : Bool) (x y : ℤ) → cond b (x +ℤ y) (pos 0) ≡ cond b x (pos 0) +ℤ cond b y (pos 0)
part_added true x y = omega (arith, ints)
part_added false x y = omega (arith, ints)

net_added : (i : Image) (x y : ℤ) (v : ℕ) → net (term_at (x +ℤ y) i) v ≡ net (term_at x i) v +ℤ net (term_at y i) v
net_added (Lit l) x y v = omega (arith, ints, signed_added (l.var.0 == v) l.negated x y)
net_added Zero x y v = omega (arith, ints)
net_added One x y v = omega (arith, ints)

constant_added : (i : Image) (x y : ℤ) → constant_at (x +ℤ y) i +ℤ negated_sum (term_at (x +ℤ y) i) ≡ (constant_at x i +ℤ negated_sum (term_at x i)) +ℤ (constant_at y i +ℤ negated_sum (term_at y i))
constant_added (Lit l) x y = omega (arith, ints, part_added l.negated x y)
constant_added Zero x y = omega (arith, ints)
constant_added One x y = omega (arith, ints)

net_additive : (images : Images) (v : ℕ) → IsAdditive (net_gift images v)
net_additive images v = record { add = λ x y w. omega (arith, ints, part_added (w == v) x y, net_added (image_of images w) x y v) }

constant_additive : (images : Images) → IsAdditive (constant_gift images)
constant_additive images = record { add = λ x y w. constant_added (image_of images w) x y }

own_image : (images : Images) (w : ℕ) → All (λ q. w ≢ q.0.0) images → image_of images w ≡ itself w
own_image images w h = stays images w (λ k d lt e. h k d lt (sym e))

net_quiet : (images : Images) (v w : ℕ) (z : ℤ) → All (λ q. w ≢ q.0.0) images → net_gift images v z w ≡ pos 0
net_quiet images v w z h =
    ap (λ (i : Image). alone w z v -ℤ net (term_at z i) v) (own_image images w h) ∙ zero
  where
    zero : alone w z v -ℤ net (term_at z (itself w)) v ≡ pos 0
    zero = omega (arith, ints)

constant_quiet : (images : Images) (w : ℕ) (z : ℤ) → All (λ q. w ≢ q.0.0) images → constant_gift images z w ≡ pos 0
constant_quiet images w z h = ap (λ (i : Image). constant_at z i +ℤ negated_sum (term_at z i)) (own_image images w h) ∙ omega (arith, ints)

pub net_append : (xs ys : List Term) (v : ℕ) → net (xs ++ ys) v ≡ net xs v +ℤ net ys v
net_append [] ys v = omega (arith, ints)
net_append (x ∷ xs) ys v = omega (arith, ints, net_append xs ys v)

pub negated_append : (xs ys : List Term) → negated_sum (xs ++ ys) ≡ negated_sum xs +ℤ negated_sum ys
negated_append [] ys = omega (arith, ints)
negated_append (x ∷ xs) ys = omega (arith, ints, negated_append xs ys)

opposite_part : (b n : Bool) (z : ℤ) → cond b (cond n (neg_ℤ (neg_ℤ z)) (neg_ℤ z)) (pos 0) ≡ neg_ℤ (cond b (cond n (neg_ℤ z) z) (pos 0))
opposite_part true true z = omega (arith, ints)
opposite_part true false z = omega (arith, ints)
opposite_part false n z = omega (arith, ints)

net_sign_changed : (ts : List Term) (v : ℕ) → net (map sign_changed ts) v ≡ neg_ℤ (net ts v)
net_sign_changed [] v = refl
net_sign_changed (t ∷ ts) v = omega (arith, ints, opposite_part (t.var.0 == v) t.negated t.coef, net_sign_changed ts v)

-- a literal gives what its variable does with the sign of its slope
turned : (b m : Bool) (z : ℤ) → cond b (cond (not m) (neg_ℤ z) z) (pos 0) ≡ cond b (cond m (neg_ℤ (neg_ℤ z)) (neg_ℤ z)) (pos 0)
turned true true z = omega (arith, ints)
turned true false z = omega (arith, ints)
turned false m z = refl

net_of_literal : (i : Image) (s : Bool) (z : ℤ) (v : ℕ) → net (term_at z (cond s (opposite_image i) i)) v ≡ net (term_at (cond s (neg_ℤ z) z) i) v
net_of_literal i false z v = refl
net_of_literal (Lit l) true z v = ap (λ (x : ℤ). x +ℤ pos 0) (turned (l.var.0 == v) l.negated z)
net_of_literal Zero true z v = refl
net_of_literal One true z v = refl

turned_part : (m : Bool) (z : ℤ) → (pos 0 +ℤ (cond (not m) z (pos 0) +ℤ pos 0)) -ℤ z ≡ pos 0 +ℤ (cond m (neg_ℤ z) (pos 0) +ℤ pos 0)
turned_part true z = omega (arith, ints)
turned_part false z = omega (arith, ints)

constant_of_literal : (i : Image) (s : Bool) (z : ℤ)
    → (constant_at z (cond s (opposite_image i) i) +ℤ negated_sum (term_at z (cond s (opposite_image i) i))) -ℤ cond s z (pos 0) ≡ constant_at (cond s (neg_ℤ z) z) i +ℤ negated_sum (term_at (cond s (neg_ℤ z) z) i)
constant_of_literal i false z = omega (arith, ints)
constant_of_literal (Lit l) true z = turned_part l.negated z
constant_of_literal Zero true z = omega (arith, ints)
constant_of_literal One true z = omega (arith, ints)

net_less : (images : Images) (ts : List Term) (v : ℕ) → net ts v -ℤ net (terms_under images ts) v ≡ given_by (net_gift images v) ts
net_less images [] v = omega (arith, ints)
net_less images (t ∷ ts) v =
    let i = image_of images (t.var.0) in
    omega (arith, ints, net_append (term_at t.coef (image_of_literal images (t.var.0) t.negated)) (terms_under images ts) v, net_of_literal i t.negated t.coef v, net_less images ts v)

constant_less : (images : Images) (ts : List Term) → (constant_under images ts +ℤ negated_sum (terms_under images ts)) -ℤ negated_sum ts ≡ given_by (constant_gift images) ts
constant_less images [] = omega (arith, ints)
constant_less images (t ∷ ts) =
    let i = image_of images (t.var.0) in
    omega (arith, ints, negated_append (term_at t.coef (image_of_literal images (t.var.0) t.negated)) (terms_under images ts), constant_of_literal i t.negated t.coef, constant_less images ts)

-- the goal's net coefficients, and its right side less its negated coefficients
goal_net : (images : Images) (ts : List Term) (v : ℕ) → net (not_raised ts images).terms v ≡ given_by (net_gift images v) ts
goal_net images ts v =
    omega (arith, ints, net_append ts (map sign_changed (terms_under images ts)) v, net_sign_changed (terms_under images ts) v, net_less images ts v)

goal_right : (images : Images) (ts : List Term) → (not_raised ts images).right -ℤ negated_sum (not_raised ts images).terms ≡ given_by (constant_gift images) ts
goal_right images ts =
    omega (arith, ints, negated_append ts (map sign_changed (terms_under images ts)), sign_changed_negated (terms_under images ts), constant_less images ts)

same_form : (c d : Signed) (n : NormalConstraint) → ((v : ℕ) → net c.terms v ≡ net d.terms v) → c.right -ℤ negated_sum c.terms ≡ d.right -ℤ negated_sum d.terms → IsNormalOf c n → IsNormalOf d n
same_form c d n nets rights form = record {
  plain = λ v. form.plain v ∙ ap at_least_zero (nets v);
  negated = λ v. form.negated v ∙ ap (λ (z : ℤ). at_least_zero (neg_ℤ z)) (nets v);
  degree = form.degree ∙ ap (λ (z : ℤ). at_least_zero (z +ℤ pos (negated_total n))) rights;
  rises = form.rises;
}

-- the net terms have the goal of the whole objective
pub goal_from_nets : (ts : List Term) (nets : List ℤ) (images : Images) (n : NormalConstraint) → NamesOnce images → AreNetsOf ts nets → IsObjectiveGoal (net_terms nets images) images n → IsObjectiveGoal ts images n
goal_from_nets ts nets images n once are form =
    same_form (not_raised (net_terms nets images) images) (not_raised ts images) n
    (λ v. goal_net images (net_terms nets images) v ∙ same_gift (net_gift images v) (net_additive images v) images once (net_quiet images v) ts nets are ∙ sym (goal_net images ts v))
    (goal_right images (net_terms nets images) ∙ same_gift (constant_gift images) (constant_additive images) images once (constant_quiet images) ts nets are ∙ sym (goal_right images ts))
    form

-- the sizes of coefficients at the variables of a substitution
abbrev sizes_at : Images → (ℕ → ℤ) → ℕ
sizes_at [] coefficient = 0
sizes_at (p ∷ ps) coefficient = unsigned_abs (coefficient (p.0.0)) + sizes_at ps coefficient

size_added : (x y : ℤ) → unsigned_abs (x +ℤ y) ≤ unsigned_abs x + unsigned_abs y
size_added x y = omega (arith, ints)

sizes_added : (images : Images) (c d : ℕ → ℤ) → sizes_at images (λ v. c v +ℤ d v) ≤ sizes_at images c + sizes_at images d
sizes_added [] c d = omega arith
sizes_added (p ∷ ps) c d = omega (arith, size_added (c (p.0.0)) (d (p.0.0)), sizes_added ps c d)

sizes_nothing : (images : Images) → sizes_at images (λ _. pos 0) ≡ 0
sizes_nothing [] = refl
sizes_nothing (p ∷ ps) = omega (arith, sizes_nothing ps)

size_of_part : (b : Bool) (z : ℤ) → unsigned_abs (cond b z (pos 0)) ≤ unsigned_abs z
size_of_part true z = omega arith
size_of_part false z = omega arith

sizes_apart : (images : Images) (w : ℕ) (z : ℤ) → All (λ q. w ≢ q.0.0) images → sizes_at images (alone w z) ≡ 0
sizes_apart [] w z h = refl
sizes_apart (p ∷ ps) w z h =
    omega (arith, ap unsigned_abs (other w (p.0.0) z (All-head (λ q. w ≢ q.0.0) p ps h)), sizes_apart ps w z (All-tail (λ q. w ≢ q.0.0) p ps h))

sizes_alone : (images : Images) (w : ℕ) (z : ℤ) → NamesOnce images → sizes_at images (alone w z) ≤ unsigned_abs z
sizes_alone [] w z once = omega arith
sizes_alone (p ∷ ps) w z once = elim (cases_eq w (p.0.0)) as (λ _. sizes_at (p ∷ ps) (alone w z) ≤ unsigned_abs z) [
  | inl e ↦ omega (arith, size_of_part (w == p.0.0) z, sizes_apart ps w z (apart_from p ps w once e))
  | inr h ↦ omega (arith, ap unsigned_abs (other w (p.0.0) z h), sizes_alone ps w z (once_tail p ps once))
]

sizes_of_nets : (images : Images) (ts : List Term) → NamesOnce images → sizes_at images (net ts) ≤ size_sum ts
sizes_of_nets images [] once = omega (arith, sizes_nothing images)
sizes_of_nets images (t ∷ ts) once =
    omega (arith, sizes_added images (alone (t.var.0) (slope t)) (net ts), sizes_alone images (t.var.0) (slope t) once, slope_size t.negated t.coef, sizes_of_nets images ts once)

sizes_of_terms : (nets : List ℤ) (images : Images) (c : ℕ → ℤ) → ((v : ℕ) → get_or nets v (pos 0) ≡ c v) → size_sum (net_terms nets images) ≡ sizes_at images c
sizes_of_terms nets [] c e = refl
sizes_of_terms nets (p ∷ ps) c e = omega (arith, ap unsigned_abs (e (p.0.0)), sizes_of_terms nets ps c e)

-- the net terms are no larger than the objective
pub net_terms_small : (ts : List Term) (nets : List ℤ) (images : Images) → NamesOnce images → AreNetsOf ts nets → size_sum (net_terms nets images) ≤ size_sum ts
net_terms_small ts nets images once are = omega (arith, sizes_of_terms nets images (net ts) are, sizes_of_nets images ts once)

pub nets_small : (count : ℕ) (o : Option (List Term)) (ts : List Term) (nets : List ℤ) (images : Images) → Some ts ≡ o → IfSome o (λ us. AreNetsOf us nets) → IfSome o (IsSumWithin count) → NamesOnce images → size_sum (net_terms nets images) ≤ largest_objective
nets_small count o ts nets images is are within once =
    let these : AreNetsOf ts nets = subst (λ (p : Option (List Term)). IfSome p (λ us. AreNetsOf us nets)) (sym is) are in
    let fits : IsSumWithin count ts = subst (λ (p : Option (List Term)). IfSome p (IsSumWithin count)) (sym is) within in
    omega (arith, net_terms_small ts nets images once these, objective_small count ts fits)

pub goal_of_nets : (o : Option (List Term)) (ts : List Term) (nets : List ℤ) (images : Images) (n : NormalConstraint) (none : Type 0) → Some ts ≡ o → IfSome o (λ us. AreNetsOf us nets) → NamesOnce images
    → IsObjectiveGoal (net_terms nets images) images n → MatchOption o none (λ us. IsSomeAnd (Some n) (IsObjectiveGoal us images))
goal_of_nets o ts nets images n none is are once form =
    let these : AreNetsOf ts nets = subst (λ (p : Option (List Term)). IfSome p (λ us. AreNetsOf us nets)) (sym is) are in
    subst (λ (p : Option (List Term)). MatchOption p none (λ us. IsSomeAnd (Some n) (IsObjectiveGoal us images))) is (goal_from_nets ts nets images n once these form)
