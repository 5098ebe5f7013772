-- Sets of ids without one of them.
use Rattle.std.proofs.Common.{◌≡◌, inl, inr, ℕ, ◌-◌, ◌<◌, Bool, true, false, not, ◌&&◌, cond, sym, ap, subst, ◌∙◌, arith}
use Rattle.std.proofs.lemmas.Bool.{cases_lt, false≢true}
use Rattle.std.proofs.lemmas.Cmp.{nat_cmp_total}
use Rattle.std.specs.FinMap as map
use Rattle.std.specs.FinSet as set
use Rattle.std.specs.Ordering.{nat_cmp, eq_by_cmp}
use Rattle.propagate.specs.Ids.{IdSet, HasId}
use Rattle.propagate.proofs.Entries.{other_key}

pub removed_keeps : (ids : IdSet) (id k : ℕ) → HasId (set.remove ids id) k → HasId ids k
removed_keeps ids id k h = second (not (eq_by_cmp nat_cmp k id)) (set.contains ids k) (sym (set.contains-remove nat_cmp_total ids id k) ∙ h)
  where
    second : (a b : Bool) → (a && b) ≡ true → b ≡ true
    second true b h = h
    second false b h = absurd (cc)

pub others_stay : (ids : IdSet) (id k : ℕ) → (k ≡ id → ⊥) → HasId ids k → HasId (set.remove ids id) k
others_stay ids id k other h = set.contains-remove nat_cmp_total ids id k ∙ ap (λ (b : Bool). not b && set.contains ids k) (other_key k id other) ∙ h

-- a set without its least id is smaller
pub fewer : (ids new : IdSet) (id : ℕ) → HasId ids id → new ≡ set.remove ids id → set.len new < set.len ids
fewer ids new id h is =
    let length : set.len new ≡ set.len ids - 1 = ap (λ (s : IdSet). set.len s) is ∙ set.len-remove nat_cmp_total ids id ∙ ap (λ (b : Bool). cond b (set.len ids - 1) (set.len ids)) h in
    elim (cases_lt 0 (set.len ids)) as (λ _. set.len new < set.len ids) [
      | inl some ↦ omega (arith, length, some)
      | inr none ↦
          let empty : ids ≡ set.empty = set.empty_of_len ids (omega (arith, none)) in
          absurd (false≢true (sym (set.contains-empty nat_cmp id) ∙ subst (λ (s : IdSet). HasId s id) empty h))
    ]
