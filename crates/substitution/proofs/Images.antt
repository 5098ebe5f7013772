-- What images put in are worth: the sum at an assignment is the sum before at the assignment after the substitution.
use Rattle.std.proofs.Common.{◌≡◌, ◌↔◌, ℕ, Bool, true, false, cond, not, List, [], ◌∷◌, ◌++◌, map, refl, ap, arith}
use Rattle.std.specs.Prelude.{ℤ, pos, ◌+ℤ◌, ◌≤ℤ◌}
use Rattle.std.proofs.lemmas.Int.{ints}
use Rattle.linear.specs.declared.term.Term.{Term}
use Rattle.linear.specs.Valuation.{Valuation, literal_true}
use Rattle.linear.specs.Sum.{sum_of}
use Rattle.normal_form.specs.declared.term.NormalTerm.{NormalTerm}
use Rattle.normal_form.specs.Normal.{NormalConstraint, Holds, sum_over}
use Rattle.normal_form.specs.NormalOf.{sign_changed}
use Rattle.normal_form.proofs.NormalForm.{form_meaning}
use Rattle.normal_form.proofs.SignChanges.{sign_changed_sum}
use Rattle.substitution.specs.declared.image.Image.{Image}
use Rattle.substitution.specs.declared.image.Image.TheVariants.{Lit, Zero, One}
use Rattle.substitution.specs.Images.{Images, image_of, opposite_image, image_of_literal, image_true, after}
use Rattle.substitution.specs.Under.{term_at, constant_at, terms_under, constant_under, signed_term, substituted, IsUnder}
use Rattle.substitution.specs.Objective.{not_raised, IsObjectiveGoal}

turned : (n b : Bool) → cond (not n) (not b) b ≡ not (cond n (not b) b)
turned true true = refl
turned true false = refl
turned false true = refl
turned false false = refl

-- the opposite of an image is worth 1 less the image
opposite_true : (a : Valuation) (i : Image) → image_true a (opposite_image i) ≡ not (image_true a i)
opposite_true a (Lit l) = turned l.negated (a (l.var.0))
opposite_true a Zero = refl
opposite_true a One = refl

literal_after : (a : Valuation) (images : Images) (v : ℕ) (s : Bool) → image_true a (image_of_literal images v s) ≡ literal_true (after a images) v s
literal_after a images v true = opposite_true a (image_of images v)
literal_after a images v false = refl

worth_at : (a : Valuation) (c : ℤ) (i : Image) (rest : List Term) → sum_of a (term_at c i ++ rest) +ℤ constant_at c i ≡ cond (image_true a i) c (pos 0) +ℤ sum_of a rest
worth_at a c (Lit l) rest = omega (arith, ints)
worth_at a c Zero rest = omega (arith, ints)
worth_at a c One rest = omega (arith, ints)

pub sum_under : (a : Valuation) (images : Images) (ts : List Term) → sum_of a (terms_under images ts) +ℤ constant_under images ts ≡ sum_of (after a images) ts
sum_under a images [] = refl
sum_under a images (t ∷ ts) =
    let i = image_of_literal images (t.var.0) t.negated in
    let here = worth_at a t.coef i (terms_under images ts) in
    let same : cond (image_true a i) t.coef (pos 0) ≡ cond (literal_true (after a images) (t.var.0) t.negated) t.coef (pos 0) =
    ap (λ (b : Bool). cond b t.coef (pos 0)) (literal_after a images (t.var.0) t.negated) in
    omega (arith, ints, here, same, sum_under a images ts)

worth_signed : (b : Bool) (c : ℕ) → cond b (pos c) (pos 0) ≡ pos (cond b c 0)
worth_signed true c = refl
worth_signed false c = refl

-- the terms of a normal constraint as signed ones
pub sum_signed : (a : Valuation) (ts : List NormalTerm) → sum_of a (map signed_term ts) ≡ pos (sum_over (literal_true a) ts)
sum_signed a [] = refl
sum_signed a (t ∷ ts) = omega (arith, ints, worth_signed (literal_true a (t.var.0) t.negated) t.coef, sum_signed a ts)

pub under_meaning : (n r : NormalConstraint) (images : Images) → IsUnder n images r → (a : Valuation) → Holds a r ↔ Holds (after a images) n
under_meaning n r images f a =
    let way = form_meaning (substituted n images) r refl f a in
    let sums = sum_under a images (map signed_term n.terms) in
    let weight = sum_signed (after a images) n.terms in
    (λ h. let met = way.0 h in omega (arith, ints, met, sums, weight), λ h. way.1 (omega (arith, ints, h, sums, weight)))

sum_append : (a : Valuation) (xs ys : List Term) → sum_of a (xs ++ ys) ≡ sum_of a xs +ℤ sum_of a ys
sum_append a [] ys = omega (arith, ints)
sum_append a (t ∷ ts) ys = omega (arith, ints, sum_append a ts ys)

pub objective_meaning : (objective : List Term) (goal : NormalConstraint) (images : Images) → IsObjectiveGoal objective images goal → (a : Valuation) → Holds a goal ↔ (sum_of (after a images) objective ≤ℤ sum_of a objective)
objective_meaning objective goal images f a =
    let way = form_meaning (not_raised objective images) goal refl f a in
    let sums = sum_under a images objective in
    let parts = sum_append a objective (map sign_changed (terms_under images objective)) in
    let less = sign_changed_sum a (terms_under images objective) in
    (λ h. let met = way.0 h in omega (arith, ints, met, sums, parts, less), λ h. way.1 (omega (arith, ints, h, sums, parts, less)))
