-- The live constraints that a witness touches, gathered variable by variable.
use Rattle.std.proofs.Common.{◌≡◌, ◌≢◌, ◌↔◌, ◌⊎◌, inl, inr, ℕ, zero, suc, ◌+◌, ◌<◌, ◌≤◌, Some, [], ◌∷◌, drop, get_or, length, refl, sym, subst, ◌∙◌, arith}
use Rattle.std.proofs.lemmas.Bool.{false≢true}
use Rattle.std.proofs.lemmas.List.{drop_more}
use Rattle.std.specs.FinMap as map
use Rattle.std.specs.FinSet as set
use Rattle.std.specs.Ordering.{nat_cmp}
use Rattle.linear.specs.declared.term.Var.{Var}
use Rattle.normal_form.specs.Normal.{NormalConstraint}
use Rattle.propagate.specs.Ids.{IdSet, HasId}
use Rattle.substitution.specs.declared.image.Image.{Image}
use Rattle.substitution.specs.Images.{Images}
use Rattle.proof_rules.specs.State.{Live}
use Rattle.database.specs.Touched.{IsTouched, AddsTouched}

-- what is gathered and what the rest of the witness touches is what all of it touches
abbrev pub IsGatheringTouched : Live → Images → Images → IdSet → Type 0
IsGatheringTouched live images rest ids = (k : ℕ) → (HasId ids k ⊎ IsTouched live rest k) ↔ IsTouched live images k

pub gathering_none : (live : Live) (images : Images) → IsGatheringTouched live images images set.empty
gathering_none live images k = (there, λ h. inr h)
  where
    there : HasId set.empty k ⊎ IsTouched live images k → IsTouched live images k
    there (inl h) = absurd (false≢true (sym (set.contains-empty nat_cmp k) ∙ h))
    there (inr h) = h

one_more : (live : Live) (images : Images) (p : Var × Image) (rest : Images) (ids new : IdSet) → IsGatheringTouched live images (p ∷ rest) ids → AddsTouched live p.0 p.1 ids new → IsGatheringTouched live images rest new
one_more live images p rest ids new gathering adds k = (λ h. (gathering k).0 (there h), λ h. back ((gathering k).1 h))
  where
    there : HasId new k ⊎ IsTouched live rest k → HasId ids k ⊎ IsTouched live (p ∷ rest) k
    there (inl h) = elim ((adds k).0 h) [
      | inl old ↦ inl old
      | inr has ↦ inr (inl has)
    ]
    there (inr h) = inr (inr h)

    back : HasId ids k ⊎ IsTouched live (p ∷ rest) k → HasId new k ⊎ IsTouched live rest k
    back (inl h) = inl ((adds k).1 (inl h))
    back (inr (inl has)) = inl ((adds k).1 (inr has))
    back (inr (inr h)) = inr h

pub gathering_next : (live : Live) (images : Images) (i : ℕ) (d : Var × Image) (ids new : IdSet) → i < length images → IsGatheringTouched live images (drop i images) ids
    → AddsTouched live (get_or images i d).0 (get_or images i d).1 ids new → IsGatheringTouched live images (drop (i + 1) images) new
gathering_next live images i d ids new h gathering adds =
    one_more live images (get_or images i d) (drop (i + 1) images) ids new (subst (λ (rest : Images). IsGatheringTouched live images rest ids) (drop_more images i d h) gathering) adds

dropped_all : (images : Images) (i : ℕ) → length images ≤ i → drop i images ≡ []
dropped_all [] zero h = refl
dropped_all [] (suc i) h = refl
dropped_all (p ∷ ps) zero h = absurd (omega (arith, h))
dropped_all (p ∷ ps) (suc i) h = dropped_all ps i (omega (arith, h))

pub gathered_all : (live : Live) (images : Images) (i : ℕ) (ids : IdSet) → length images ≤ i → IsGatheringTouched live images (drop i images) ids → (k : ℕ) → HasId ids k ↔ IsTouched live images k
gathered_all live images i ids end gathering k =
    let last = subst (λ (rest : Images). IsGatheringTouched live images rest ids) (dropped_all images i end) gathering in
    (λ h. (last k).0 (inl h), λ h. none_left ((last k).1 h))
  where
    none_left : HasId ids k ⊎ IsTouched live [] k → HasId ids k
    none_left (inl h) = h
    none_left (inr h) = absurd h

-- what is touched is live
pub touched_live : (live : Live) (images : Images) (k : ℕ) → IsTouched live images k → (n : NormalConstraint) × (map.get live k ≡ Some n)
touched_live live [] k h = absurd h
touched_live live (p ∷ ps) k (inl h) = (h.2.0, h.2.1)
touched_live live (p ∷ ps) k (inr h) = touched_live live ps k h
