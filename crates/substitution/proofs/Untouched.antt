-- A constraint without a variable that is given an image is itself under a substitution.
use Rattle.std.proofs.Common.{◌≡◌, ◌≢◌, ℕ, Bool, true, false, cond, ◌==◌, List, [], ◌∷◌, ◌++◌, map, All, refl, ap, sym, ◌∙◌, arith}
use Rattle.std.specs.Prelude.{ℤ, pos, ◌+ℤ◌}
use Rattle.std.proofs.lemmas.Bool.Decides.{nat_tests}
use Rattle.std.proofs.lemmas.Int.{ints}
use Rattle.std.proofs.lemmas.List.Elements.{All-head, All-tail}
use Rattle.linear.specs.declared.term.Term.{Term}
use Rattle.normal_form.specs.declared.term.NormalTerm.{NormalTerm}
use Rattle.normal_form.specs.Normal.{NormalConstraint, sum_over, Rises}
use Rattle.normal_form.specs.NormalOf.{at_least_zero, negated_sum}
use Rattle.normal_form.specs.Balance.{slopes, rise_of, rises_of}
use Rattle.normal_form.proofs.FromBalance.{raised}
use Rattle.normal_form.proofs.NormalForm.{is_form}
use Rattle.substitution.specs.declared.image.Image.{Image}
use Rattle.substitution.specs.declared.image.Image.TheVariants.{Lit}
use Rattle.substitution.specs.Images.{Images, itself, image_of, opposite_image, image_of_literal}
use Rattle.substitution.specs.Under.{IsUntouched, term_at, constant_at, terms_under, constant_under, signed_term, substituted, IsUnder}

pub passed : (v w : ℕ) (i rest : Image) → (w ≡ v → ⊥) → cond (v == w) i rest ≡ rest
passed v w i rest h = let other : (v == w) ≡ false = grind (arith, nat_tests) in ap (λ (b : Bool). cond b i rest) other

pub stays : (images : Images) (v : ℕ) → All (λ p. p.0.0 ≢ v) images → image_of images v ≡ itself v
stays [] v h = refl
stays (p ∷ ps) v h =
    passed v (p.0.0) p.1 (image_of ps v) (All-head (λ q. q.0.0 ≢ v) p ps h) ∙ stays ps v (All-tail (λ q. q.0.0 ≢ v) p ps h)

abbrev pub literal : ℕ → Bool → Image
literal v s = Lit (record { var = record { 0 = v }; negated = s })

pub literal_stays : (images : Images) (v : ℕ) (s : Bool) → All (λ p. p.0.0 ≢ v) images → image_of_literal images v s ≡ literal v s
literal_stays images v true h = ap opposite_image (stays images v h)
literal_stays images v false h = stays images v h

slope_of : (set : ℕ → Bool) (t : NormalTerm) (i : Image) (rest : List Term) → i ≡ literal (t.var.0) t.negated
    → slopes set (term_at (pos t.coef) i ++ rest) ≡ cond (set (t.var.0)) (rise_of t) (pos 0) +ℤ slopes set rest
slope_of set t i rest e = ap (λ (j : Image). slopes set (term_at (pos t.coef) j ++ rest)) e

negated_of : (t : NormalTerm) (i : Image) (rest : List Term) → i ≡ literal (t.var.0) t.negated
    → negated_sum (term_at (pos t.coef) i ++ rest) ≡ cond t.negated (pos t.coef) (pos 0) +ℤ negated_sum rest
negated_of t i rest e = ap (λ (j : Image). negated_sum (term_at (pos t.coef) j ++ rest)) e

constant_of : (t : NormalTerm) (i : Image) → i ≡ literal (t.var.0) t.negated → constant_at (pos t.coef) i ≡ pos 0
constant_of t i e = ap (constant_at (pos t.coef)) e

abbrev Apart : Images → NormalTerm → Type 0
Apart images t = All (λ p. p.0.0 ≢ t.var.0) images

image_at : (images : Images) (t : NormalTerm) (ts : List NormalTerm) → All (Apart images) (t ∷ ts)
    → image_of_literal images (t.var.0) t.negated ≡ literal (t.var.0) t.negated
image_at images t ts h = literal_stays images (t.var.0) t.negated (All-head (Apart images) t ts h)

same_slopes : (images : Images) (set : ℕ → Bool) (ts : List NormalTerm) → All (Apart images) ts → rises_of set ts ≡ slopes set (terms_under images (map signed_term ts))
same_slopes images set [] h = refl
same_slopes images set (t ∷ ts) h =
    let here = slope_of set t _ (terms_under images (map signed_term ts)) (image_at images t ts h) in
    omega (arith, ints, here, same_slopes images set ts (All-tail (Apart images) t ts h))

counted : (b : Bool) (c : ℕ) → cond b (pos c) (pos 0) ≡ pos (cond b c 0)
counted true c = refl
counted false c = refl

same_negated : (images : Images) (ts : List NormalTerm) → All (Apart images) ts → negated_sum (terms_under images (map signed_term ts)) ≡ pos (sum_over (λ _ negated. negated) ts)
same_negated images [] h = refl
same_negated images (t ∷ ts) h =
    let here = negated_of t _ (terms_under images (map signed_term ts)) (image_at images t ts h) in
    omega (arith, ints, here, counted t.negated t.coef, same_negated images ts (All-tail (Apart images) t ts h))

no_constant : (images : Images) (ts : List NormalTerm) → All (Apart images) ts → constant_under images (map signed_term ts) ≡ pos 0
no_constant images [] h = refl
no_constant images (t ∷ ts) h =
    let here = constant_of t _ (image_at images t ts h) in
    omega (arith, ints, here, no_constant images ts (All-tail (Apart images) t ts h))

degree_stays : (d : ℕ) (z : ℤ) → z ≡ pos d → d ≡ at_least_zero z
degree_stays d z e = sym (ap at_least_zero e)

pub under_untouched : (n : NormalConstraint) (images : Images) → Rises 0 n.terms → IsUntouched n images → IsUnder n images n
under_untouched n images r h =
    let right : raised (substituted n images).right (substituted n images).terms n.terms ≡ pos n.degree = omega (arith, ints, same_negated images n.terms h, no_constant images n.terms h) in
    is_form (substituted n images) n r (λ set. same_slopes images set n.terms h)
    (degree_stays n.degree (raised (substituted n images).right (substituted n images).terms n.terms) right)
