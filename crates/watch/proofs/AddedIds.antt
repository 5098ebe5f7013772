-- Ids that are lent, put into a set one after another.
use Rattle.std.proofs.Common.{◌≡◌, ◌↔◌, ◌⊎◌, inl, inr, ℕ, Contains, List, [], ◌∷◌, sym, subst, arith}
use Rattle.std.specs.FinSet as set
use Rattle.linear.specs.declared.term.Lit.{Lit}
use Rattle.propagate.specs.Content.{AddsOccurrences, Content, HasLiteral}
use Rattle.propagate.specs.Ids.{IdSet, HasId}
use Rattle.propagate.proofs.Gathered.{inserted_here, inserted_keeps, inserted_cases}
use Rattle.watch.specs.Lent.{AreAdded}
use Rattle.watch.proofs.LentIds.{first_or_later, later}

-- what is there and what is still lent is what is wanted
abbrev pub IsAdding : List ℕ → IdSet → List ℕ → IdSet → Type 0
IsAdding lent before rest ids = (k : ℕ) → (HasId ids k ⊎ Contains rest k) ↔ (HasId before k ⊎ Contains lent k)

pub adding_first : (lent : List ℕ) (before : IdSet) → IsAdding lent before lent before
adding_first lent before k = (λ h. h, λ h. h)

one_more : (lent : List ℕ) (before ids : IdSet) (id : ℕ) (more : List ℕ) → IsAdding lent before (id ∷ more) ids → IsAdding lent before more (set.insert ids id)
one_more lent before ids id more adding k = (λ h. (adding k).0 (there h), λ h. back ((adding k).1 h))
  where
    there : HasId (set.insert ids id) k ⊎ Contains more k → HasId ids k ⊎ Contains (id ∷ more) k
    there (inl h) = elim (inserted_cases ids id k h) [
      | inl same ↦ inr (0, omega arith, sym same)
      | inr known ↦ inl known
    ]
    there (inr h) = inr (later more id k h)

    back : HasId ids k ⊎ Contains (id ∷ more) k → HasId (set.insert ids id) k ⊎ Contains more k
    back (inl h) = inl (inserted_keeps ids id k h)
    back (inr h) = elim (first_or_later more id k h) [
      | inl same ↦ inl (subst (HasId (set.insert ids id)) same (inserted_here ids id))
      | inr known ↦ inr known
    ]

pub adding_more : (lent : List ℕ) (before ids new : IdSet) (id : ℕ) (rest more : List ℕ) → IsAdding lent before rest ids → rest ≡ id ∷ more → new ≡ set.insert ids id → IsAdding lent before more new
adding_more lent before ids new id rest more adding is put =
    subst (IsAdding lent before more) (sym put) (one_more lent before ids id more (subst (λ (ks : List ℕ). IsAdding lent before ks ids) is adding))

pub added : (lent : List ℕ) (before ids : IdSet) (rest : List ℕ) → IsAdding lent before rest ids → rest ≡ [] → AreAdded lent before ids
added lent before ids rest adding is k = (λ h. (adding k).0 (inl h), λ h. none_left ((adding k).1 h))
  where
    none_left : HasId ids k ⊎ Contains rest k → HasId ids k
    none_left (inl h) = h
    none_left (inr h) = let none : Contains [] k = subst (λ (ks : List ℕ). Contains ks k) is h in absurd (omega (arith, none.1))

-- those that are lent are those of the constraints with the literal
pub occurrences_added : (content : Content) (l : Lit) (lent : List ℕ) (before ids : IdSet) → ((k : ℕ) → Contains lent k ↔ HasLiteral content l k) → AreAdded lent before ids → AddsOccurrences content l before ids
occurrences_added content l lent before ids exactly all k = (λ h. there ((all k).0 h), λ h. (all k).1 (back h))
  where
    there : HasId before k ⊎ Contains lent k → HasId before k ⊎ HasLiteral content l k
    there (inl h) = inl h
    there (inr h) = inr ((exactly k).0 h)

    back : HasId before k ⊎ HasLiteral content l k → HasId before k ⊎ Contains lent k
    back (inl h) = inl h
    back (inr h) = inr ((exactly k).1 h)
