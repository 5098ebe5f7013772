-- The constraints that have a literal are asked one after another whether they cover another, and the literals one after another.
use Rattle.std.proofs.Common.{◌≡◌, ◌↔◌, ◌⊎◌, ℕ, zero, suc, ◌+◌, ◌-◌, ◌<◌, ◌≤◌, inl, inr, true, List, All, Any, Option, Some, None, IsSomeAnd, length, get_or, take, drop, refl, sym, ap, subst, ◌∙◌, arith}
use Rattle.std.proofs.lemmas.Bool.{cases_lt, false≢true}
use Rattle.std.proofs.lemmas.List.{drop_more}
use Rattle.std.proofs.lemmas.List.Elements.{All-cons}
use Rattle.std.specs.FinMap as map
use Rattle.std.specs.FinSet as set
use Rattle.std.specs.Ordering.{nat_cmp}
use Rattle.linear.specs.declared.term.Lit.{Lit}
use Rattle.normal_form.specs.declared.term.NormalTerm.{NormalTerm}
use Rattle.normal_form.specs.Normal.{NormalConstraint, coefficient, total}
use Rattle.normal_form.proofs.Sums.{sum_over_more}
use Rattle.propagate.specs.Content.{AddsOccurrences, HasLiteral}
use Rattle.propagate.specs.Ids.{IdSet, HasId}
use Rattle.propagate.specs.Literals.{coefficient_of}
use Rattle.substitution.specs.Covering.{Covers}
use Rattle.proof_rules.specs.State.{Live}
use Rattle.proof_rules.proofs.LiveConstraints.{Any-from_get, Any-never}
use Rattle.database.specs.Covered.{HasContradiction, IsCoveredAt}
use Rattle.database.proofs.CoveringShares.{covering_shares}
use Rattle.database.proofs.IdSets.{others_stay, removed_keeps}

-- the ids still to be asked have the literal, and those that have it and cover are among them
pub record IsAsking (live : Live) (l : Lit) (n : NormalConstraint) (ids : IdSet) : Type 0 where
  pub has : (k : ℕ) → HasId ids k → HasLiteral live l k
  pub covering : (k : ℕ) (e : NormalConstraint) → map.get live k ≡ Some e → 0 < coefficient_of e l → Covers e n → HasId ids k

-- what is added to nothing is what has the literal
pub occurrences_alone : (live : Live) (l : Lit) (before ids : IdSet) → before ≡ set.empty → AddsOccurrences live l before ids → (k : ℕ) → HasId ids k ↔ HasLiteral live l k
occurrences_alone live l before ids none adds k = (λ h. there ((adds k).0 h), λ has. (adds k).1 (inr has))
  where
    there : HasId before k ⊎ HasLiteral live l k → HasLiteral live l k
    there (inl old) = absurd (false≢true (sym (set.contains-empty nat_cmp k) ∙ subst (λ (s : IdSet). HasId s k) none old))
    there (inr has) = has

pub asking_first : (live : Live) (l : Lit) (n : NormalConstraint) (ids : IdSet) → ((k : ℕ) → HasId ids k ↔ HasLiteral live l k) → IsAsking live l n ids
asking_first live l n ids these = record { has = λ k. (these k).0; covering = λ k e is has covers. (these k).1 (e, is, has) }

some_and : (P : NormalConstraint → Type 0) (o : Option NormalConstraint) → IsSomeAnd o P → (n : NormalConstraint) × (o ≡ Some n) × P n
some_and P None h = absurd h
some_and P (Some n) h = (n, refl, h)

and_some : (P : NormalConstraint → Type 0) (o : Option NormalConstraint) (n : NormalConstraint) → o ≡ Some n → P n → IsSomeAnd o P
and_some P o n is p = subst (λ (x : Option NormalConstraint). IsSomeAnd x P) (sym is) p

-- what one constraint covers is covered
pub covered_by_one : (live : Live) (id : ℕ) (n : NormalConstraint) → IsSomeAnd (map.get live id) (λ e. Covers e n) → Any (λ e. Covers e n) (map.values live)
covered_by_one live id n covered = let e = some_and (λ x. Covers x n) (map.get live id) covered in Any-from_get (λ x. Covers x n) live id e.0 e.1 e.2

pub asking_more : (live : Live) (l : Lit) (n : NormalConstraint) (ids new : IdSet) (id : ℕ) → IsAsking live l n ids → new ≡ set.remove ids id → (IsSomeAnd (map.get live id) (λ e. Covers e n) → ⊥) → IsAsking live l n new
asking_more live l n ids new id asking is none = subst (IsAsking live l n) (sym is) (record {
  has = λ k h. asking.has k (removed_keeps ids id k h);
  covering = λ k e at has covers. others_stay ids id k (λ same. none (and_some (λ x. Covers x n) (map.get live id) e (subst (λ (i : ℕ). map.get live i ≡ Some e) same at) covers)) (asking.covering k e at has covers);
})

pub asked_covers : (live : Live) (l : Lit) (n : NormalConstraint) (ids : IdSet) (id : ℕ) → IsAsking live l n ids → HasId ids id → IsSomeAnd (map.get live id) (λ e. Covers e n) → IsCoveredAt (map.values live) l n
asked_covers live l n ids id asking there covered =
    let e = some_and (λ x. Covers x n) (map.get live id) covered in
    let has = asking.has id there in
    let same : has.0 ≡ e.0 = by has.0 e.0 (sym has.1 ∙ e.1) in
    Any-from_get (λ x. (0 < coefficient_of x l) × Covers x n) live id e.0 e.1 (subst (λ (x : NormalConstraint). 0 < coefficient_of x l) same has.2, e.2)
  where
    by : (x y : NormalConstraint) → ◌≡◌ {A = Option NormalConstraint} (Some x) (Some y) → x ≡ y
    by x y e = cc

pub asking_end : (live : Live) (l : Lit) (n : NormalConstraint) (ids : IdSet) → IsAsking live l n ids → ids ≡ set.empty → IsCoveredAt (map.values live) l n → ⊥
asking_end live l n ids asking none =
    Any-never (λ x. (0 < coefficient_of x l) × Covers x n) live
    (λ k e is p. false≢true (sym (set.contains-empty nat_cmp k) ∙ subst (λ (s : IdSet). HasId s k) none (asking.covering k e is p.0 p.1)))

-- no constraint that covers has a literal from a place on
abbrev pub IsUncoveredFrom : Live → NormalConstraint → ℕ → Type 0
IsUncoveredFrom live n place = (k : ℕ) (e : NormalConstraint) → map.get live k ≡ Some e → Covers e n → All (λ t. coefficient e (t.var.0) t.negated ≡ 0) (drop place n.terms)

pub uncovered_more : (live : Live) (n : NormalConstraint) (place : ℕ) (d : NormalTerm) → place < length n.terms → IsUncoveredFrom live n (place + 1)
    → (IsCoveredAt (map.values live) (record { var = (get_or n.terms place d).var; negated = (get_or n.terms place d).negated }) n → ⊥) → IsUncoveredFrom live n place
uncovered_more live n place d inside uncovered none k e is covers =
    let t = get_or n.terms place d in
    let l : Lit = record { var = t.var; negated = t.negated } in
    let absent : coefficient e (t.var.0) t.negated ≡ 0 = elim (cases_lt 0 (coefficient e (t.var.0) t.negated)) as (λ _. coefficient e (t.var.0) t.negated ≡ 0) [
      | inl has ↦ absurd (none (Any-from_get (λ x. (0 < coefficient_of x l) × Covers x n) live k e is (has, covers)))
      | inr none_here ↦ omega (arith, none_here)
    ] in
    subst (All (λ u. coefficient e (u.var.0) u.negated ≡ 0)) (sym (drop_more n.terms place d inside)) (All-cons (λ u. coefficient e (u.var.0) u.negated ≡ 0) t (drop (place + 1) n.terms) absent (uncovered k e is covers))

pub uncovered_end : (live : Live) (n : NormalConstraint) (place : ℕ) → IsUncoveredFrom live n place → total (take place n.terms) < n.degree → (HasContradiction (map.values live) → ⊥) → Any (λ e. Covers e n) (map.values live) → ⊥
uncovered_end live n place uncovered few consistent =
    Any-never (λ e. Covers e n) live (λ k e is covers. consistent (Any-from_get (λ x. total x.terms < x.degree) live k e is (covering_shares e n place (uncovered k e is covers) covers few)))

-- what is covered at a literal is covered
pub covered_at_any : (live : List NormalConstraint) (l : Lit) (n : NormalConstraint) → IsCoveredAt live l n → Any (λ e. Covers e n) live
covered_at_any live l n h = (h.0, h.1, h.2, h.3, h.4.1)

same_literal : (t u : NormalTerm) (l : Lit) → l ≡ record { var = t.var; negated = t.negated } → t ≡ u → l ≡ record { var = u.var; negated = u.negated }
same_literal t u l is same = is ∙ ap (λ (x : NormalTerm). of_term x) same
  where
    of_term : NormalTerm → Lit
    of_term x = record { var = x.var; negated = x.negated }

place_back : (place : ℕ) → 0 < place → place ≡ (place - 1) + 1
place_back place h = omega (arith, h)

-- one literal more was asked, the last one of those before
pub one_more_asked : (live : Live) (n : NormalConstraint) (place : ℕ) (t : NormalTerm) (l : Lit) → 0 < place → place ≤ length n.terms → t ≡ get_or n.terms (place - 1) t → l ≡ record { var = t.var; negated = t.negated }
    → IsUncoveredFrom live n place → (IsCoveredAt (map.values live) l n → ⊥) → IsUncoveredFrom live n (place - 1)
one_more_asked live n place t l above within is literal uncovered none =
    uncovered_more live n (place - 1) t (omega (arith, above, within)) (subst (IsUncoveredFrom live n) (place_back place above) uncovered)
    (λ h. none (subst (λ (k : Lit). IsCoveredAt (map.values live) k n) (sym (same_literal t (get_or n.terms (place - 1) t) l literal is)) h))

-- and what the others are worth is less by its coefficient
pub one_less_unasked : (ts : List NormalTerm) (place : ℕ) (t : NormalTerm) → 0 < place → place ≤ length ts → t ≡ get_or ts (place - 1) t → total (take place ts) ≡ total (take (place - 1) ts) + t.coef
one_less_unasked ts place t above within is =
    let more = sum_over_more (λ _ _. true) ts (place - 1) t (omega (arith, above, within)) in
    let last : total (take place ts) ≡ total (take ((place - 1) + 1) ts) = ap (λ (k : ℕ). total (take k ts)) (place_back place above) in
    omega (arith, more, last, ap (λ (u : NormalTerm). u.coef) is)

pub some_unasked : (ts : List NormalTerm) (place : ℕ) → 0 < total (take place ts) → 0 < place
some_unasked ts zero h = absurd (omega (arith, h))
some_unasked ts (suc place) h = omega arith
