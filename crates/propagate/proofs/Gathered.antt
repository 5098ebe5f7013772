-- The ids of the entries whose constraints have a literal, gathered one entry after another.
use Rattle.std.proofs.Common.{◌≡◌, ◌↔◌, ◌⊎◌, inl, inr, ℕ, ◌<◌, Bool, true, false, ◌||◌, T, Option, None, Some, [], ◌∷◌, refl, sym, ap, subst, ◌∙◌, arith}
use Rattle.std.proofs.lemmas.Bool.{cases_eq, cases_lt}
use Rattle.std.proofs.lemmas.Cmp.{nat_cmp_total}
use Rattle.std.specs.Cmp.{tied_itself}
use Rattle.std.specs.FinMap as fin
use Rattle.std.specs.FinSet as set
use Rattle.std.specs.declared.cmp.Ordering.{Ordering}
use Rattle.std.specs.Ordering.{nat_cmp, eq_by_cmp, is_eq}
use Rattle.linear.specs.declared.term.Lit.{Lit}
use Rattle.normal_form.specs.Normal.{NormalConstraint}
use Rattle.propagate.specs.Content.{AddsOccurrences, HasLiteral}
use Rattle.propagate.specs.Ids.{IdSet, HasId}
use Rattle.propagate.specs.Literals.{coefficient_of}
use Rattle.propagate.proofs.Entries.{Entries, content_of, other_key, found_first, passed_over, none_in_rest, rest_rises}

-- an entry of the id has the literal
abbrev pub HasAmong : Entries → Lit → ℕ → Type 0
HasAmong es l k = (n : NormalConstraint) × (fin.find nat_cmp k es ≡ Some n) × (0 < coefficient_of n l)

-- what is gathered and what is still to come is what is wanted
pub record IsGathering (all : Entries) (l : Lit) (before : IdSet) (rest : Entries) (ids : IdSet) : Type 0 where
  pub rises : T (fin.is_sorted nat_cmp rest)
  pub wanted : (k : ℕ) → (HasId ids k ⊎ HasAmong rest l k) ↔ (HasId before k ⊎ HasAmong all l k)

-- a set with one id more has that one and those that it had
pub inserted_here : (ids : IdSet) (id : ℕ) → HasId (set.insert ids id) id
inserted_here ids id = set.contains-insert nat_cmp_total ids id id ∙ ap (λ (o : Ordering). is_eq o || set.contains ids id) (tied_itself nat_cmp_total id)

pub inserted_keeps : (ids : IdSet) (id k : ℕ) → HasId ids k → HasId (set.insert ids id) k
inserted_keeps ids id k h = set.contains-insert nat_cmp_total ids id k ∙ ap (λ (b : Bool). eq_by_cmp nat_cmp k id || b) h ∙ or_true (eq_by_cmp nat_cmp k id)
  where
    or_true : (b : Bool) → (b || true) ≡ true
    or_true true = refl
    or_true false = refl

pub inserted_cases : (ids : IdSet) (id k : ℕ) → HasId (set.insert ids id) k → (k ≡ id) ⊎ HasId ids k
inserted_cases ids id k h = elim (cases_eq k id) [
  | inl same ↦ inl same
  | inr other ↦ inr (sym (set.contains-insert nat_cmp_total ids id k ∙ ap (λ (b : Bool). b || set.contains ids k) (other_key k id other)) ∙ h)
]

pub gathering_first : (all : Entries) (l : Lit) (before : IdSet) → T (fin.is_sorted nat_cmp all) → IsGathering all l before all before
gathering_first all l before rises = record { rises = rises; wanted = λ k. (λ h. h, λ h. h) }

none_is_not_some : (n : NormalConstraint) (o : Option NormalConstraint) → o ≡ None → o ≡ Some n → ⊥
none_is_not_some n o e f = cc

-- what the entries behind the first one have, all of them have
later : (e : ℕ × NormalConstraint) (rest : Entries) (l : Lit) (k : ℕ) → T (fin.is_sorted nat_cmp (e ∷ rest)) → HasAmong rest l k → HasAmong (e ∷ rest) l k
later e rest l k rises h = elim (cases_eq k e.0) [
  | inl same ↦ absurd (none_is_not_some h.0 (fin.find nat_cmp k rest) (none_in_rest e rest k rises same) h.1)
  | inr other ↦ (h.0, passed_over k e rest other ∙ h.1, h.2)
]

first_or_later : (e : ℕ × NormalConstraint) (rest : Entries) (l : Lit) (k : ℕ) → HasAmong (e ∷ rest) l k → ((k ≡ e.0) × (0 < coefficient_of e.1 l)) ⊎ HasAmong rest l k
first_or_later e rest l k h = elim (cases_eq k e.0) [
  | inl same ↦
      let is : Some e.1 ≡ Some h.0 = sym (found_first e rest) ∙ ap (λ (i : ℕ). fin.find nat_cmp i (e ∷ rest)) (sym same) ∙ h.1 in
      inl (same, subst (λ (n : NormalConstraint). 0 < coefficient_of n l) (same_some h.0 e.1 (sym is)) h.2)
  | inr other ↦ inr (h.0, sym (passed_over k e rest other) ∙ h.1, h.2)
]
  where
    same_some : (n m : NormalConstraint) → Some n ≡ Some m → n ≡ m
    same_some n m e = cc

with_it : (all : Entries) (l : Lit) (before : IdSet) (e : ℕ × NormalConstraint) (rest : Entries) (ids : IdSet) → IsGathering all l before (e ∷ rest) ids → 0 < coefficient_of e.1 l → IsGathering all l before rest (set.insert ids e.0)
with_it all l before e rest ids g has = record {
  rises = rest_rises e rest g.rises;
  wanted = λ k. (λ h. (g.wanted k).0 (there k h), λ h. back k ((g.wanted k).1 h));
}
  where
    there : (k : ℕ) → HasId (set.insert ids e.0) k ⊎ HasAmong rest l k → HasId ids k ⊎ HasAmong (e ∷ rest) l k
    there k (inl h) = elim (inserted_cases ids e.0 k h) [
      | inl same ↦ inr (e.1, ap (λ (i : ℕ). fin.find nat_cmp i (e ∷ rest)) same ∙ found_first e rest, has)
      | inr known ↦ inl known
    ]
    there k (inr h) = inr (later e rest l k g.rises h)

    back : (k : ℕ) → HasId ids k ⊎ HasAmong (e ∷ rest) l k → HasId (set.insert ids e.0) k ⊎ HasAmong rest l k
    back k (inl h) = inl (inserted_keeps ids e.0 k h)
    back k (inr h) = elim (first_or_later e rest l k h) [
      | inl same ↦ inl (subst (HasId (set.insert ids e.0)) (sym same.0) (inserted_here ids e.0))
      | inr known ↦ inr known
    ]

without_it : (all : Entries) (l : Lit) (before : IdSet) (e : ℕ × NormalConstraint) (rest : Entries) (ids : IdSet) → IsGathering all l before (e ∷ rest) ids → (0 < coefficient_of e.1 l → ⊥) → IsGathering all l before rest ids
without_it all l before e rest ids g lacks = record {
  rises = rest_rises e rest g.rises;
  wanted = λ k. (λ h. (g.wanted k).0 (there k h), λ h. back k ((g.wanted k).1 h));
}
  where
    there : (k : ℕ) → HasId ids k ⊎ HasAmong rest l k → HasId ids k ⊎ HasAmong (e ∷ rest) l k
    there k (inl h) = inl h
    there k (inr h) = inr (later e rest l k g.rises h)

    back : (k : ℕ) → HasId ids k ⊎ HasAmong (e ∷ rest) l k → HasId ids k ⊎ HasAmong rest l k
    back k (inl h) = inl h
    back k (inr h) = elim (first_or_later e rest l k h) [
      | inl same ↦ absurd (lacks same.1)
      | inr known ↦ inr known
    ]

-- one entry more is looked at
pub gathering_more : (all : Entries) (l : Lit) (before : IdSet) (e : ℕ × NormalConstraint) (rest : Entries) (ids new : IdSet) → IsGathering all l before (e ∷ rest) ids
    → (0 < coefficient_of e.1 l → new ≡ set.insert ids e.0) → ((0 < coefficient_of e.1 l → ⊥) → new ≡ ids) → IsGathering all l before rest new
gathering_more all l before e rest ids new g there absent = elim (cases_lt 0 (coefficient_of e.1 l)) as (λ _. IsGathering all l before rest new) [
  | inl has ↦ subst (IsGathering all l before rest) (sym (there has)) (with_it all l before e rest ids g has)
  | inr none ↦
      let lacks : 0 < coefficient_of e.1 l → ⊥ = λ h. omega (arith, h, none) in
      subst (IsGathering all l before rest) (sym (absent lacks)) (without_it all l before e rest ids g lacks)
]

-- all are looked at
pub gathered : (all : Entries) (l : Lit) (before ids : IdSet) → IsGathering all l before [] ids → AddsOccurrences (content_of all) l before ids
gathered all l before ids g = λ id. (λ h. there id ((g.wanted id).0 (inl h)), λ h. none_left id ((g.wanted id).1 (back id h)))
  where
    same : (id : ℕ) → fin.get (content_of all) id ≡ fin.find nat_cmp id all
    same id = fin.get-from_entries nat_cmp_total all id

    there : (id : ℕ) → HasId before id ⊎ HasAmong all l id → HasId before id ⊎ HasLiteral (content_of all) l id
    there id (inl h) = inl h
    there id (inr h) = inr (h.0, same id ∙ h.1, h.2)

    back : (id : ℕ) → HasId before id ⊎ HasLiteral (content_of all) l id → HasId before id ⊎ HasAmong all l id
    back id (inl h) = inl h
    back id (inr h) = inr (h.0, sym (same id) ∙ h.1, h.2)

    none_left : (id : ℕ) → HasId ids id ⊎ HasAmong [] l id → HasId ids id
    none_left id (inl h) = h
    none_left id (inr h) = absurd (none_is_not_some h.0 (fin.find nat_cmp id []) refl h.1)
