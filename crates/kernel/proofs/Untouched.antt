-- Why the goals of the live constraints that a witness does not touch are shown.
use Rattle.std.proofs.Common.{◌≡◌, ◌≢◌, ◌⊎◌, inl, inr, ℕ, zero, suc, ◌+◌, ◌<◌, Some, List, [], ◌∷◌, ◌++◌, get_or, length, refl, ap, arith}
use Rattle.std.proofs.lemmas.Bool.{false≢true}
use Rattle.std.specs.FinMap as map
use Rattle.std.specs.FinSet as set
use Rattle.linear.specs.declared.term.Var.{Var}
use Rattle.normal_form.specs.declared.term.NormalTerm.{NormalTerm}
use Rattle.normal_form.specs.Normal.{NormalConstraint, Rises, sum_over, only}
use Rattle.normal_form.proofs.Sums.{rises_at}
use Rattle.propagate.specs.Literals.{coefficient_of}
use Rattle.propagate.proofs.Occurrences.{own_coefficient}
use Rattle.substitution.specs.declared.image.Image.{Image}
use Rattle.substitution.specs.declared.image.Image.TheVariants.{Lit as Literal, Zero, One}
use Rattle.substitution.specs.Images.{Images}
use Rattle.substitution.specs.Under.{IsBettered, signed_image}
use Rattle.substitution.proofs.Bettered.{bettered_shows, is_one}
use Rattle.proof_rules.specs.Redundant.{IsShownUnder}
use Rattle.proof_rules.specs.State.{Live}
use Rattle.database.specs.Touched.{IsTouched, IsTouchedBy}
use Rattle.kernel.proofs.GoalsShown.{itself_under}

-- an image is 1 or not
one_or_not : (i : Image) → (i ≡ One) ⊎ (i ≢ One)
one_or_not One = inl refl
one_or_not Zero = inr (λ e. false≢true (ap is_one e))
one_or_not (Literal l) = inr (λ e. false≢true (ap is_one e))

touched_at : (live : Live) (images : Images) (k j : ℕ) (d : Var × Image) → j < length images → IsTouchedBy live (get_or images j d).0 (get_or images j d).1 k → IsTouched live images k
touched_at live [] k j d h has = absurd (omega (arith, h))
touched_at live (p ∷ ps) k zero d h has = inl has
touched_at live (p ∷ ps) k (suc j) d h has = inr (touched_at live ps k j d (omega (arith, h)) has)

-- a live constraint that is not touched has each of its literals that is given an image made true
untouched : (live : Live) (images : Images) (id : ℕ) (n : NormalConstraint) → map.get live id ≡ Some n → Rises 0 n.terms → (IsTouched live images id → ⊥) → IsBettered n images
untouched live images id n is rises none = λ i d low j e inside same.
    let t : NormalTerm = get_or n.terms i d in
    let p : Var × Image = get_or images j e in
    let own : sum_over (only (t.var.0) t.negated) n.terms ≡ t.coef = own_coefficient 0 n.terms i d rises low in
    let its : coefficient_of n (record { var = p.0; negated = t.negated }) ≡ sum_over (only (t.var.0) t.negated) n.terms = ap (λ (v : ℕ). sum_over (only v t.negated) n.terms) same in
    let some : 0 < coefficient_of n (record { var = p.0; negated = t.negated }) = omega (arith, own, its, rises_at 0 n.terms i d rises low) in
    elim (one_or_not (signed_image p.1 t.negated)) [
      | inl one ↦ one
      | inr other ↦ absurd (none (touched_at live images id j e inside (t.negated, other, (n, is, some))))
    ]

-- so it shows what it becomes
pub untouched_shown : (live : Live) (beside : List NormalConstraint) (images : Images) (id : ℕ) (n : NormalConstraint) → map.get live id ≡ Some n → Rises 0 n.terms → (IsTouched live images id → ⊥)
    → IsShownUnder (map.values live ++ beside) images n
untouched_shown live beside images id n is rises none = itself_under live beside images id n is (bettered_shows n images rises (untouched live images id n is rises none))
