-- The clause of negated literals: its normal form, and that it is shown where the literals lead to a conflict.
use Rattle.std.proofs.Common.{◌≡◌, ℕ, ◌+◌, ◌<◌, ◌≤◌, ℤ, pos, negsuc, ◌+ℤ◌, ◌-ℤ◌, neg_ℤ, ◌≤ℤ◌, inr, Bool, true, false, cond, not, ◌==◌, ◌&&◌, ◌||◌, List, [], ◌∷◌, map, length, refl, sym, ap, subst, ◌∙◌, arith}
use Rattle.std.proofs.lemmas.Bool.{false≢true}
use Rattle.std.proofs.lemmas.Bool.Decides.{nat_tests}
use Rattle.std.proofs.lemmas.Int.{ints}
use Rattle.linear.specs.Sum.{sum_of}
use Rattle.linear.specs.Valuation.{Valuation, literal_true}
use Rattle.linear.specs.declared.term.Lit.{Lit}
use Rattle.normal_form.specs.declared.term.NormalTerm.{NormalTerm}
use Rattle.normal_form.specs.Normal.{Literals, NormalConstraint, sum_over, only, coefficient, total, largest_sum}
use Rattle.normal_form.specs.NormalOf.{IsNormalOf, at_least_zero, net, negated_sum, negated_total, size_sum}
use Rattle.normal_form.proofs.FromBalance.{sum_is, weight_is}
use Rattle.normal_form.proofs.Negations.{flipped_total, negation, negation_is, negation_terms}
use Rattle.normal_form.proofs.NormalForm.{form, form_is, form_balances, form_fits}
use Rattle.normal_form.proofs.SetSums.{only_itself}
use Rattle.propagate.specs.Chain.{LeadsToConflict}
use Rattle.propagate.specs.Literals.{coefficient_of, among, lists, IsConsistent}
use Rattle.propagate.proofs.KeptChains.{asked_refutes}
use Rattle.propagate.proofs.Assignments.{among_head, among_tail}
use Rattle.proof_rules.specs.Legal.{LegalRup}
use Rattle.proof_rules.specs.Shown.{IsShown}
use Rattle.proof_rules.specs.State.{State, HasRoom, constraints, with_constraint}
use Rattle.search.specs.Clause.{opposite_term, negated_clause}

-- how often a literal is listed
count : List Lit → ℕ → Bool → ℕ
count [] v s = 0
count (l ∷ ls) v s = cond (only (l.var.0) l.negated v s) 1 0 + count ls v s

count_none : (ls : List Lit) (v : ℕ) (s : Bool) → among ls v s ≡ false → count ls v s ≡ 0
unfolding count
count_none [] v s h = refl
count_none (l ∷ ls) v s h = by (only (l.var.0) l.negated v s) refl (count_none ls v s)
  where
    by : (b : Bool) → only (l.var.0) l.negated v s ≡ b → (among ls v s ≡ false → count ls v s ≡ 0) → cond (only (l.var.0) l.negated v s) 1 0 + count ls v s ≡ 0
    by true e rest = absurd (false≢true (sym h ∙ ap (λ b. b || among ls v s) e))
    by false e rest =
        let later = rest (sym (ap (λ b. b || among ls v s) e) ∙ h) in
        let one : cond (only (l.var.0) l.negated v s) 1 0 ≡ 0 = ap {B = ℕ} (λ b. cond b 1 0) e in
        omega (arith, one, later)

count_some : (ls : List Lit) (v : ℕ) (s : Bool) → among ls v s ≡ true → 0 < count ls v s
unfolding count
count_some [] v s h = absurd (false≢true h)
count_some (l ∷ ls) v s h = by (only (l.var.0) l.negated v s) refl (count_some ls v s)
  where
    by : (b : Bool) → only (l.var.0) l.negated v s ≡ b → (among ls v s ≡ true → 0 < count ls v s) → 0 < cond (only (l.var.0) l.negated v s) 1 0 + count ls v s
    by true e rest =
        let one : cond (only (l.var.0) l.negated v s) 1 0 ≡ 1 = ap {B = ℕ} (λ b. cond b 1 0) e in
        omega (arith, one)
    by false e rest =
        let later = rest (sym (ap (λ b. b || among ls v s) e) ∙ h) in
        let one : cond (only (l.var.0) l.negated v s) 1 0 ≡ 0 = ap {B = ℕ} (λ b. cond b 1 0) e in
        omega (arith, one, later)

-- what one literal gives a variable
one_net : (v w : ℕ) (n : Bool) → cond (w == v) (cond (not n) (neg_ℤ (pos 1)) (pos 1)) (pos 0) ≡ pos (cond (only w n v true) 1 0) -ℤ pos (cond (only w n v false) 1 0)
one_net v w true = by (w == v) refl
  where
    by : (b : Bool) → (w == v) ≡ b → cond (w == v) (pos 1) (pos 0) ≡ pos (cond ((v == w) && true) 1 0) -ℤ pos (cond ((v == w) && false) 1 0)
    by true e = let f : (v == w) ≡ true = grind (arith, nat_tests) in rw (e, f) refl
    by false e = let f : (v == w) ≡ false = grind (arith, nat_tests) in rw (e, f) refl
one_net v w false = by (w == v) refl
  where
    by : (b : Bool) → (w == v) ≡ b → cond (w == v) (neg_ℤ (pos 1)) (pos 0) ≡ pos (cond ((v == w) && false) 1 0) -ℤ pos (cond ((v == w) && true) 1 0)
    by true e = let f : (v == w) ≡ true = grind (arith, nat_tests) in rw (e, f) refl
    by false e = let f : (v == w) ≡ false = grind (arith, nat_tests) in rw (e, f) refl

net_counts : (ls : List Lit) (v : ℕ) → net (map opposite_term ls) v ≡ pos (count ls v true) -ℤ pos (count ls v false)
unfolding count
net_counts [] v = refl
net_counts (l ∷ ls) v = omega (arith, ints, one_net v (l.var.0) l.negated, net_counts ls v)

floor_zero : (z : ℤ) → z ≤ℤ pos 0 → at_least_zero z ≡ 0
floor_zero (pos n) h = omega (arith, ints, h)
floor_zero (negsuc n) h = refl

-- the opposite is not listed
apart : (ls : List Lit) (v : ℕ) (s : Bool) → IsConsistent ls → among ls v s ≡ true → among ls v (not s) ≡ false
apart ls v s consistent h = by (among ls v (not s)) refl
  where
    by : (b : Bool) → among ls v (not s) ≡ b → among ls v (not s) ≡ false
    by true e = absurd (consistent (record { var = record { 0 = v }; negated = s }, h, e))
    by false e = e

-- each listed literal's opposite stands in the clause
pub clause_has : (ls : List Lit) (n : NormalConstraint) (v : ℕ) (s : Bool) → IsConsistent ls → IsNormalOf (negated_clause ls) n → among ls v s ≡ true → 0 < coefficient n v (not s)
clause_has ls n v true consistent form h =
    let some = count_some ls v true h in
    let none = count_none ls v false (apart ls v true consistent h) in
    let given : net (map opposite_term ls) v ≡ pos (count ls v true) = omega (arith, ints, net_counts ls v, none) in
    omega (arith, form.plain v, ap at_least_zero given, some)
clause_has ls n v false consistent form h =
    let some = count_some ls v false h in
    let none = count_none ls v true (apart ls v false consistent h) in
    let given : neg_ℤ (net (map opposite_term ls) v) ≡ pos (count ls v false) = omega (arith, ints, net_counts ls v, none) in
    omega (arith, form.negated v, ap at_least_zero given, some)

-- and no other literal does
pub clause_lacks : (ls : List Lit) (n : NormalConstraint) (v : ℕ) (s : Bool) → IsNormalOf (negated_clause ls) n → among ls v (not s) ≡ false → coefficient n v s ≡ 0
clause_lacks ls n v false form h =
    let none = count_none ls v true h in
    form.plain v ∙ floor_zero (net (map opposite_term ls) v) (omega (arith, ints, net_counts ls v, none))
clause_lacks ls n v true form h =
    let none = count_none ls v false h in
    form.negated v ∙ floor_zero (neg_ℤ (net (map opposite_term ls) v)) (omega (arith, ints, net_counts ls v, none))

-- what makes all of the listed literals true
listed_true : List Lit → Valuation
listed_true ls v = among ls v false

-- the clause has no true literal then
clause_false : (ls : List Lit) (n : NormalConstraint) (v : ℕ) (s : Bool) → IsConsistent ls → IsNormalOf (negated_clause ls) n → literal_true (listed_true ls) v s ≡ true → coefficient n v s ≡ 0
unfolding listed_true
clause_false ls n v false consistent form h =
    let none = count_none ls v true (apart ls v false consistent h) in
    form.plain v ∙ floor_zero (net (map opposite_term ls) v) (omega (arith, ints, net_counts ls v, none))
clause_false ls n v true consistent form h =
    let none = count_none ls v false (turned (among ls v false) h) in
    form.negated v ∙ floor_zero (neg_ℤ (net (map opposite_term ls) v)) (omega (arith, ints, net_counts ls v, none))
  where
    turned : (b : Bool) → not b ≡ true → b ≡ false
    turned true e = absurd (false≢true e)
    turned false e = refl

-- a set without any of the terms' literals has no sum
part_own : (b : Bool) (c : ℕ) → b ≡ true → c ≤ cond b c 0
part_own true c h = omega arith
part_own false c h = absurd (false≢true h)

sum_nothing : (set : Literals) (ts : List NormalTerm) → ((v : ℕ) (s : Bool) → set v s ≡ true → sum_over (only v s) ts ≡ 0) → sum_over set ts ≡ 0
sum_nothing set [] h = refl
sum_nothing set (t ∷ ts) h = by (set (t.var.0) t.negated) refl (sum_nothing set ts (λ v s e. omega (arith, h v s e)))
  where
    by : (b : Bool) → set (t.var.0) t.negated ≡ b → sum_over set ts ≡ 0 → cond (set (t.var.0) t.negated) t.coef 0 + sum_over set ts ≡ 0
    by true e rest =
        let own = part_own (only (t.var.0) t.negated (t.var.0) t.negated) t.coef (only_itself (t.var.0) t.negated) in
        let zero = h (t.var.0) t.negated e in
        omega (arith, own, zero, rest, ap (λ b. cond b t.coef 0) e)
    by false e rest = omega (arith, rest, ap (λ b. cond b t.coef 0) e)

-- no literal of the written clause is true then
written_false : (all : List Lit) (l : Lit) → IsConsistent all → lists all l ≡ true → literal_true (listed_true all) (l.var.0) (not l.negated) ≡ false
unfolding listed_true
written_false all l consistent h = by l.negated refl
  where
    by : (b : Bool) → l.negated ≡ b → literal_true (listed_true all) (l.var.0) (not l.negated) ≡ false
    by true e = ap (λ b. literal_true (listed_true all) (l.var.0) (not b)) e ∙ apart all (l.var.0) true consistent (sym (ap (among all (l.var.0)) e) ∙ h)
    by false e = ap (λ b. literal_true (listed_true all) (l.var.0) (not b)) e ∙ ap not (sym (ap (among all (l.var.0)) e) ∙ h)

written_sum : (all ls : List Lit) → IsConsistent all → ((v : ℕ) (s : Bool) → among ls v s ≡ true → among all v s ≡ true) → sum_of (listed_true all) (map opposite_term ls) ≡ pos 0
written_sum all [] consistent h = refl
written_sum all (l ∷ ls) consistent h =
    let here = written_false all l consistent (h (l.var.0) l.negated (among_head l ls)) in
    let rest = written_sum all ls consistent (λ v s e. h v s (among_tail l ls v s e)) in
    omega (arith, ints, ap (λ (b : Bool). cond b (pos 1) (pos 0)) here, rest)

-- the degree is 1
pub clause_degree : (ls : List Lit) (n : NormalConstraint) → IsConsistent ls → IsNormalOf (negated_clause ls) n → n.degree ≡ 1
clause_degree ls n consistent f =
    let a : Valuation = listed_true ls in
    let weight = sum_nothing (literal_true a) n.terms (λ v s e. clause_false ls n v s consistent f e) in
    let written = written_sum ls ls consistent (λ v s e. e) in
    let same = form_balances (negated_clause ls) n f a in
    let raised : ((pos 1 -ℤ negated_sum (map opposite_term ls)) +ℤ pos (negated_total n)) ≡ pos 1 =
    omega (arith, ints, weight, written, same, weight_is a n.terms, sum_is a (map opposite_term ls)) in
    f.degree ∙ ap at_least_zero raised

pub clause_shown : (live : List NormalConstraint) (ls : List Lit) (n : NormalConstraint) → IsConsistent ls → IsNormalOf (negated_clause ls) n → LeadsToConflict live ls → IsShown live n
clause_shown live ls n consistent f conflict =
    let is = negation_is n f.rises in
    let all : (negation n).degree ≡ total (negation n).terms = omega (arith, is.degree, clause_degree ls n consistent f, ap total (negation_terms n (negation n) f.rises is), flipped_total n.terms) in
    let has : (l : Lit) → lists ls l ≡ true → 0 < coefficient_of (negation n) l =
    λ l h. subst (λ k. 0 < k) (sym (is.coefficients (l.var.0) l.negated)) (clause_has ls n (l.var.0) l.negated consistent f h) in
    inr (negation n, is, asked_refutes live ls (negation n) all has conflict)

sizes : (ls : List Lit) → size_sum (map opposite_term ls) ≡ length ls
sizes [] = refl
sizes (l ∷ ls) = omega (arith, sizes ls)

pub clause_legal : (s : State) (ls : List Lit) → IsConsistent ls → length ls < largest_sum → LeadsToConflict (constraints s) ls → HasRoom s
    → (t : State) × LegalRup s (negated_clause ls) t
clause_legal s ls consistent few conflict room =
    let c = negated_clause ls in
    let n : NormalConstraint = form c in
    let size = sizes ls in (
      with_constraint n s,
      (
        n,
        record { relation = refl; sizes = omega (arith, size, few); form = form_is c; fits = form_fits c n (form_is c) (omega (arith, size, few)) },
        clause_shown (constraints s) ls n consistent (form_is c) conflict,
        (room, refl),
      ),
    )
