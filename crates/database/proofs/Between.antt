-- Constraints that are taken out by their ids, from one on and below another.
use Rattle.std.proofs.Common.{◌≡◌, ℕ, ◌+◌, ◌<◌, ◌≤◌, ◌⊎◌, inl, inr, Bool, true, false, cond, ◌||◌, nat_lt, nat_le, Option, Some, None, refl, sym, ap, ◌∙◌, arith}
use Rattle.std.specs.FinMap as fin
use Rattle.std.specs.Ordering.{nat_cmp, eq_by_cmp}
use Rattle.std.proofs.lemmas.Bool.{cases_lt}
use Rattle.std.proofs.lemmas.Bool.Decides.{nat_tests}
use Rattle.std.proofs.lemmas.Cmp.{nat_cmp_total}
use Rattle.normal_form.specs.Normal.{NormalConstraint}
use Rattle.propagate.proofs.Entries.{other_key}
use Rattle.proof_rules.specs.State.{Live, AreNumbered, up_to}
use Rattle.proof_rules.proofs.LiveConstraints.{get_up_to}
use Rattle.proof_rules.proofs.Numbering.{next_free, same_key}
use Rattle.database.specs.Database.{Constraints, pushed, removed, without_between}

less_true : (q end : ℕ) → q < end → nat_lt q end ≡ true
less_true q end less = by (nat_lt q end) refl
  where
    by : (b : Bool) → nat_lt q end ≡ b → b ≡ true
    by true h = refl
    by false h = absurd (grind (arith, nat_tests, h, less))

less_false : (q end : ℕ) → end ≤ q → nat_lt q end ≡ false
less_false q end more = by (nat_lt q end) refl
  where
    by : (b : Bool) → nat_lt q end ≡ b → b ≡ false
    by true h = absurd (grind (arith, nat_tests, h, more))
    by false h = refl

most_true : (end q : ℕ) → end ≤ q → nat_le end q ≡ true
most_true end q most = by (nat_le end q) refl
  where
    by : (b : Bool) → nat_le end q ≡ b → b ≡ true
    by true h = refl
    by false h = absurd (grind (arith, nat_tests, h, most))

most_false : (end q : ℕ) → q < end → nat_le end q ≡ false
most_false end q less = by (nat_le end q) refl
  where
    by : (b : Bool) → nat_le end q ≡ b → b ≡ false
    by true h = absurd (grind (arith, nat_tests, h, less))
    by false h = refl

-- what is left of an id
abbrev Found : Type 0
Found = Option NormalConstraint

found_between : (live : Live) (first end q : ℕ) → fin.get (fin.retain_keys live (λ k. nat_lt k first || nat_le end k)) q ≡ cond (nat_lt q first || nat_le end q) (fin.get live q) None
found_between live first end q =
    fin.get-retain_keys live (λ k. nat_lt k first || nat_le end k) q (λ k tied. ap (λ z. nat_lt z first || nat_le end z) (sym (fin.nat_cmp-IsAntisymmetric q k tied)))

below_first : (first end q : ℕ) (o : Found) → q < first → cond (nat_lt q first || nat_le end q) o None ≡ o
below_first first end q o less = ap (λ b. cond (b || nat_le end q) o None) (less_true q first less)

between_both : (first end q : ℕ) (o : Found) → first ≤ q → q < end → cond (nat_lt q first || nat_le end q) o None ≡ None
between_both first end q o more less =
    ap (λ b. cond (b || nat_le end q) o None) (less_false q first more) ∙ ap (λ b. cond b o None) (most_false end q less)

behind_end : (first end q : ℕ) (o : Found) → first ≤ q → end ≤ q → cond (nat_lt q first || nat_le end q) o None ≡ o
behind_end first end q o more most =
    ap (λ b. cond (b || nat_le end q) o None) (less_false q first more) ∙ ap (λ b. cond b o None) (most_true end q most)

-- no id between
pub none_between : (d : Constraints) (first : ℕ) → without_between first first d ≡ d
none_between d first = ap (λ (live : Live). record { live = live; next = d.next }) (fin.same_map nat_cmp_total fin.nat_cmp-IsAntisymmetric _ d.live (λ q. found_between d.live first first q ∙ by q))
  where
    by : (q : ℕ) → cond (nat_lt q first || nat_le first q) (fin.get d.live q) None ≡ fin.get d.live q
    by q = elim (cases_lt q first) as (λ _. cond (nat_lt q first || nat_le first q) (fin.get d.live q) None ≡ fin.get d.live q) [
      | inl less ↦ below_first first first q (fin.get d.live q) less
      | inr more ↦ behind_end first first q (fin.get d.live q) more more
    ]

-- one id more
pub one_between : (d : Constraints) (first id : ℕ) → first ≤ id → removed id (without_between first id d) ≡ without_between first (id + 1) d
one_between d first id low =
    ap (λ (live : Live). record { live = live; next = d.next })
    (fin.same_map nat_cmp_total fin.nat_cmp-IsAntisymmetric _ _ (λ q.
    fin.get-remove nat_cmp_total _ id q ∙ ap (λ o. cond (eq_by_cmp nat_cmp q id) None o) (found_between d.live first id q) ∙ by q ∙ sym (found_between d.live first (id + 1) q)))
  where
    apart : (q : ℕ) → (q ≡ id → ⊥) → (o : Found) → cond (eq_by_cmp nat_cmp q id) None o ≡ o
    apart q other o = ap (λ b. cond b None o) (other_key q id other)

    behind : (q : ℕ) → first ≤ q → (q < id) ⊎ (id ≤ q) → (id < q) ⊎ (q ≤ id)
        → cond (eq_by_cmp nat_cmp q id) None (cond (nat_lt q first || nat_le id q) (fin.get d.live q) None) ≡ cond (nat_lt q first || nat_le (id + 1) q) (fin.get d.live q) None
    behind q more (inl less) other =
        apart q (λ same. omega (arith, same, less)) _ ∙ between_both first id q (fin.get d.live q) more less
        ∙ sym (between_both first (id + 1) q (fin.get d.live q) more (omega (arith, less)))
    behind q more (inr most) (inl greater) =
        apart q (λ same. omega (arith, same, greater)) _ ∙ behind_end first id q (fin.get d.live q) more most
        ∙ sym (behind_end first (id + 1) q (fin.get d.live q) more (omega (arith, greater)))
    behind q more (inr most) (inr few) =
        ap (λ b. cond b None (cond (nat_lt q first || nat_le id q) (fin.get d.live q) None)) (same_key q id (omega (arith, most, few)))
        ∙ sym (between_both first (id + 1) q (fin.get d.live q) more (omega (arith, few)))

    by : (q : ℕ) → cond (eq_by_cmp nat_cmp q id) None (cond (nat_lt q first || nat_le id q) (fin.get d.live q) None) ≡ cond (nat_lt q first || nat_le (id + 1) q) (fin.get d.live q) None
    by q = elim (cases_lt q first) as (λ _. cond (eq_by_cmp nat_cmp q id) None (cond (nat_lt q first || nat_le id q) (fin.get d.live q) None) ≡ cond (nat_lt q first || nat_le (id + 1) q) (fin.get d.live q) None) [
      | inl less ↦
          apart q (λ same. omega (arith, same, less, low)) _ ∙ below_first first id q (fin.get d.live q) less ∙ sym (below_first first (id + 1) q (fin.get d.live q) less)
      | inr more ↦ behind q more (cases_lt q id) (cases_lt id q)
    ]

-- all ids from one on
pub all_between : (d : Constraints) (first : ℕ) → AreNumbered d.live d.next → without_between first d.next d ≡ record { live = up_to first d.live; next = d.next }
all_between d first h =
    ap (λ (live : Live). record { live = live; next = d.next })
    (fin.same_map nat_cmp_total fin.nat_cmp-IsAntisymmetric _ _ (λ q. found_between d.live first d.next q ∙ by q ∙ sym (get_up_to d.live first q)))
  where
    behind : (q : ℕ) → first ≤ q → (q < d.next) ⊎ (d.next ≤ q) → cond (nat_lt q first || nat_le d.next q) (fin.get d.live q) None ≡ cond (nat_lt q first) (fin.get d.live q) None
    behind q more (inl less) = between_both first d.next q (fin.get d.live q) more less ∙ sym (ap (λ b. cond b (fin.get d.live q) None) (less_false q first more))
    behind q more (inr most) =
        behind_end first d.next q (fin.get d.live q) more most ∙ next_free d.live d.next q h most ∙ sym (ap (λ b. cond b (fin.get d.live q) None) (less_false q first more))

    by : (q : ℕ) → cond (nat_lt q first || nat_le d.next q) (fin.get d.live q) None ≡ cond (nat_lt q first) (fin.get d.live q) None
    by q = elim (cases_lt q first) as (λ _. cond (nat_lt q first || nat_le d.next q) (fin.get d.live q) None ≡ cond (nat_lt q first) (fin.get d.live q) None) [
      | inl less ↦ below_first first d.next q (fin.get d.live q) less ∙ sym (ap (λ b. cond b (fin.get d.live q) None) (less_true q first less))
      | inr more ↦ behind q more (cases_lt q d.next)
    ]

-- all ids from one on but the newest
pub between_pushed : (d : Constraints) (first : ℕ) (n : NormalConstraint) → first ≤ d.next → AreNumbered d.live d.next
    → without_between first d.next (pushed n d) ≡ record { live = fin.insert (up_to first d.live) d.next n; next = d.next + 1 }
between_pushed d first n low h =
    ap (λ (live : Live). record { live = live; next = d.next + 1 })
    (fin.same_map nat_cmp_total fin.nat_cmp-IsAntisymmetric _ _ (λ q.
    found_between (fin.insert d.live d.next n) first d.next q ∙ ap (λ o. cond (nat_lt q first || nat_le d.next q) o None) (fin.get-insert nat_cmp_total d.live d.next n q) ∙ by q
    ∙ sym (fin.get-insert nat_cmp_total (up_to first d.live) d.next n q ∙ ap (λ o. cond (eq_by_cmp nat_cmp q d.next) (Some n) o) (get_up_to d.live first q))))
  where
    other : (q : ℕ) → (q ≡ d.next → ⊥) → (o : Found) → cond (eq_by_cmp nat_cmp q d.next) (Some n) o ≡ o
    other q apart o = ap (λ b. cond b (Some n) o) (other_key q d.next apart)

    Same : ℕ → Type 0
    Same q =
        cond (nat_lt q first || nat_le d.next q) (cond (eq_by_cmp nat_cmp q d.next) (Some n) (fin.get d.live q)) None
        ≡ cond (eq_by_cmp nat_cmp q d.next) (Some n) (cond (nat_lt q first) (fin.get d.live q) None)

    newest : (q : ℕ) → q ≡ d.next → Same q
    newest q same =
        let key = same_key q d.next same in
        behind_end first d.next q _ (omega (arith, low, same)) (omega (arith, same)) ∙ ap (λ b. cond b (Some n) (fin.get d.live q)) key
        ∙ sym (ap (λ b. cond b (Some n) (cond (nat_lt q first) (fin.get d.live q) None)) key)

    behind : (q : ℕ) → first ≤ q → (q < d.next) ⊎ (d.next ≤ q) → (d.next < q) ⊎ (q ≤ d.next) → Same q
    behind q more (inl less) few =
        between_both first d.next q _ more less
        ∙ sym (other q (λ same. omega (arith, same, less)) _ ∙ ap (λ b. cond b (fin.get d.live q) None) (less_false q first more))
    behind q more (inr most) (inl greater) =
        behind_end first d.next q _ more most ∙ other q (λ same. omega (arith, same, greater)) _ ∙ next_free d.live d.next q h most
        ∙ sym (other q (λ same. omega (arith, same, greater)) _ ∙ ap (λ b. cond b (fin.get d.live q) None) (less_false q first more))
    behind q more (inr most) (inr few) = newest q (omega (arith, most, few))

    by : (q : ℕ) → Same q
    by q = elim (cases_lt q first) as (λ _. Same q) [
      | inl less ↦
          below_first first d.next q _ less
          ∙ ap (λ o. cond (eq_by_cmp nat_cmp q d.next) (Some n) o) (sym (ap (λ b. cond b (fin.get d.live q) None) (less_true q first less)))
      | inr more ↦ behind q more (cases_lt q d.next) (cases_lt d.next q)
    ]
