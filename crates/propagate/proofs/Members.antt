-- A list of keys that has one key more is the set with that key more.
use Rattle.std.proofs.Common.{◌≡◌, ◌↔◌, ℕ, ◌<◌, ◌≤◌, Bool, true, false, cond, not, ◌||◌, ◌&&◌, IsTrue, Option, None, Some, IsSome, IfSome, IfNone, MatchOption, List, [], ◌∷◌, length, refl, sym, ap, subst, ◌∙◌, arith}
use Rattle.std.proofs.lemmas.Bool.{false≢true}
use Rattle.std.proofs.lemmas.Bool.Decides.{nat_tests}
use Rattle.std.specs.BTreeSet.{BTreeSet, IsUnchanged, Updates}
use Rattle.std.specs.Cmp.{nat_cmp_total, unsigned_tied, nat_eq_equiv}
use Rattle.std.specs.FinSet as set
use Rattle.std.specs.List.{list_any}
use Rattle.std.specs.Ordering.{nat_cmp, eq_by_cmp, is_gt}
use Rattle.propagate.specs.Ids.{IdSet, IsLeastId}

one_or : (b c : Bool) → cond b true c ≡ (b || c)
one_or true c = refl
one_or false c = refl

tied_both : (k q : ℕ) → eq_by_cmp nat_cmp k q ≡ eq_by_cmp nat_cmp q k
tied_both k q = unsigned_tied k q ∙ sym (unsigned_tied q k ∙ nat_eq_equiv.symm q k)

pub inserted : (old new : List ℕ) (k : ℕ) → ((q : ℕ) → list_any (eq_by_cmp nat_cmp q) new ≡ cond (eq_by_cmp nat_cmp k q) true (list_any (eq_by_cmp nat_cmp q) old))
    → set.from_list {R = nat_cmp} new ≡ set.insert (set.from_list old) k
inserted old new k h =
    set.same_set nat_cmp_total set.nat_cmp-IsAntisymmetric (set.from_list new) (set.insert (set.from_list old) k) (λ q.
    set.contains-from_list nat_cmp_total new q ∙ h q ∙ one_or (eq_by_cmp nat_cmp k q) (list_any (eq_by_cmp nat_cmp q) old)
    ∙ ap (λ b. b || list_any (eq_by_cmp nat_cmp q) old) (tied_both k q)
    ∙ sym (set.contains-insert nat_cmp_total (set.from_list old) k q ∙ ap (λ b. eq_by_cmp nat_cmp q k || b) (set.contains-from_list nat_cmp_total old q)))

-- so is one that has lost a key
without : (b c : Bool) → cond b false c ≡ (not b && c)
without true c = refl
without false c = refl

pub removed : (old new : List ℕ) (k : ℕ) → ((q : ℕ) → list_any (eq_by_cmp nat_cmp q) new ≡ cond (eq_by_cmp nat_cmp k q) false (list_any (eq_by_cmp nat_cmp q) old))
    → set.from_list {R = nat_cmp} new ≡ set.remove (set.from_list old) k
removed old new k h =
    set.same_set nat_cmp_total set.nat_cmp-IsAntisymmetric (set.from_list new) (set.remove (set.from_list old) k) (λ q.
    set.contains-from_list nat_cmp_total new q ∙ h q ∙ without (eq_by_cmp nat_cmp k q) (list_any (eq_by_cmp nat_cmp q) old)
    ∙ ap (λ b. not b && list_any (eq_by_cmp nat_cmp q) old) (tied_both k q)
    ∙ sym (set.contains-remove nat_cmp_total (set.from_list old) k q ∙ ap (λ b. not (eq_by_cmp nat_cmp q k) && b) (set.contains-from_list nat_cmp_total old q)))

no_keys : (keys : List ℕ) → (0 < length keys → ⊥) → set.from_list {R = nat_cmp} keys ≡ set.empty
no_keys [] h = refl
no_keys (k ∷ ks) h = absurd (h (omega arith))

not_above : (k q : ℕ) → is_gt (nat_cmp k q) ≡ false → k ≤ q
not_above k q h = grind (arith, nat_tests)

-- the least key of a list is the least of the set
pub popped_least : (keys : List ℕ) (o : Option ℕ) (ids : IdSet) → set.from_list keys ≡ ids → IsSome o ↔ (0 < length keys) → IfSome o (λ k. IsTrue (list_any (eq_by_cmp nat_cmp k) keys))
    → IfSome o (λ k. (q : ℕ) → IsTrue (list_any (eq_by_cmp nat_cmp q) keys) → is_gt (nat_cmp k q) ≡ false) → MatchOption o (ids ≡ set.empty) (IsLeastId ids)
popped_least keys None ids is variant member least = sym is ∙ no_keys keys (λ h. false≢true (variant.1 h))
popped_least keys (Some k) ids is variant member least = subst (λ (s : IdSet). IsLeastId s k) is (
  set.contains-from_list nat_cmp_total keys k ∙ member,
  λ q h. not_above k q (least q (sym (set.contains-from_list nat_cmp_total keys q) ∙ h)),
)

pub popped : (old new : BTreeSet ℕ) (o : Option ℕ) (ids : IdSet) → set.from_list old.keys ≡ ids → IfSome o (λ k. Updates nat_cmp old new k false) → IfNone o (IsUnchanged old new)
    → MatchOption o (set.from_list {R = nat_cmp} new.keys ≡ ids) (λ id. set.from_list {R = nat_cmp} new.keys ≡ set.remove ids id)
popped old new None ids is updates unchanged = ap (λ (ks : List ℕ). set.from_list {R = nat_cmp} ks) unchanged ∙ is
popped old new (Some k) ids is updates unchanged = removed old.keys new.keys k updates.0 ∙ ap (λ (s : IdSet). set.remove s k) is
