-- One literal more that is true: what stays open, and what stays quiet.
use Rattle.std.proofs.Common.{◌≡◌, ℕ, ◌+◌, ◌≤◌, Bool, true, false, not, cond, ◌||◌, ◌&&◌, ◌==◌, List, [], ◌∷◌, ◌++◌, refl, ap, sym, arith}
use Rattle.std.proofs.lemmas.Bool.{false≢true}
use Rattle.std.proofs.lemmas.Int.{ints}
use Rattle.linear.specs.declared.term.Lit.{Lit}
use Rattle.normal_form.specs.declared.term.NormalTerm.{NormalTerm}
use Rattle.normal_form.specs.Normal.{Literals, NormalConstraint, sum_over, only, same_sign}
use Rattle.normal_form.proofs.SetSums.{only_is}
use Rattle.linear.specs.Literal.{opposite}
use Rattle.propagate.specs.Literals.{coefficient_of, among, lists}
use Rattle.propagate.specs.Slack.{not_false}
use Rattle.propagate.specs.Walk.{IsQuiet}
use Rattle.propagate.proofs.Assignments.{among_append}
use Rattle.ledger.specs.Ledgers.{open_sum}
use Rattle.trail.proofs.AssignedLiterals.{fewer}

-- a sum over a set is that over two parts of it
sum_parts : (p o q : Literals) → ((v : ℕ) (s : Bool) (c : ℕ) → cond (p v s) c 0 + cond (o v s) c 0 ≡ cond (q v s) c 0) → (ts : List NormalTerm) → sum_over p ts + sum_over o ts ≡ sum_over q ts
sum_parts p o q h [] = omega arith
sum_parts p o q h (t ∷ ts) = omega (arith, h (t.var.0) t.negated t.coef, sum_parts p o q h ts)

split_cases : (b o : Bool) (c : ℕ) → (o ≡ true → b ≡ false) → cond (not (b || (o || false))) c 0 + cond o c 0 ≡ cond (not b) c 0
split_cases true true c h = absurd (false≢true (sym (h refl)))
split_cases true false c h = omega arith
split_cases false true c h = omega arith
split_cases false false c h = omega arith

turned : (s t : Bool) → same_sign (not s) t ≡ same_sign s (not t)
turned true true = refl
turned true false = refl
turned false true = refl
turned false false = refl

only_turned : (x v : ℕ) (n s : Bool) → only x (not n) v s ≡ only x n v (not s)
only_turned x v n s = ap (λ (b : Bool). (v == x) && b) (turned n s)

-- what stays open, and what the new literal makes false, is what was open
pub open_less : (assigned : List Lit) (l : Lit) (n : NormalConstraint) → lists assigned l ≡ false → open_sum (assigned ++ l ∷ []) n + coefficient_of n (opposite l) ≡ open_sum assigned n
open_less assigned l n unset = sum_parts (not_false (assigned ++ l ∷ [])) (only (l.var.0) (not l.negated)) (not_false assigned)
    (λ v s c.
    let b = among assigned v (not s) in
    let o = only (l.var.0) l.negated v (not s) in
    let out : o ≡ true → b ≡ false = λ e. let same = only_is (l.var.0) v l.negated (not s) e in (cc) in
    let one : cond (not (among (assigned ++ l ∷ []) v (not s))) c 0 ≡ cond (not (b || (o || false))) c 0 = ap {B = ℕ} (λ (x : Bool). cond (not x) c 0) (among_append assigned (l ∷ []) v (not s)) in
    let two : cond (only (l.var.0) (not l.negated) v s) c 0 ≡ cond o c 0 = ap {B = ℕ} (λ (x : Bool). cond x c 0) (only_turned (l.var.0) v l.negated s) in
    omega (arith, one, two, split_cases b o c out))
    n.terms

-- a constraint without the opposite of a new literal stays quiet
pub still_quiet : (assigned : List Lit) (l : Lit) (n : NormalConstraint) → lists assigned l ≡ false → coefficient_of n (opposite l) ≡ 0 → IsQuiet assigned n → IsQuiet (assigned ++ l ∷ []) n
still_quiet assigned l n unset absent q =
    let same : open_sum (assigned ++ l ∷ []) n ≡ open_sum assigned n = omega (arith, absent, open_less assigned l n unset) in (
      λ b. q.0 (omega (arith, ints, b, same)),
      λ m f. q.1 m (record {
        unset = fewer assigned (l ∷ []) (m.var.0) m.negated (lists assigned m) refl f.unset;
        opposite_unset = fewer assigned (l ∷ []) (m.var.0) (not m.negated) (lists assigned (opposite m)) refl f.opposite_unset;
        occurs = f.occurs;
        above = omega (arith, ints, f.above, same);
      }),
    )

-- a constraint whose counter has not fallen below its limit is quiet
pub quiet_at_limit : (assigned : List Lit) (n : NormalConstraint) (counter limit : ℕ) → counter ≡ open_sum assigned n → ((l : Lit) → n.degree + coefficient_of n l ≤ limit) → limit ≤ counter → IsQuiet assigned n
quiet_at_limit assigned n counter limit e enough h = (
  λ b. omega (arith, ints, b, e, h, enough (record { var = record { 0 = 0 }; negated = false })),
  λ m f. omega (arith, ints, f.above, e, h, enough m),
)
