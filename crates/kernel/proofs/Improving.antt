-- Improving solutions: what they are worth, and what they ask for.
use Rattle.std.proofs.Common.{◌≡◌, ◌≢◌, ◌≤◌, ℤ, pos, ◌<ℤ◌, ◌≤ℤ◌, ◌-ℤ◌, inl, inr, Bool, true, false, cond, List, [], ◌∷◌, Option, None, Some, IfSome, length, unsigned_abs, to_z, of_z, refl, sym, ap, subst, ◌∙◌, arith}
use Rattle.std.proofs.lemmas.Int.{ints}
use mir.Syntax.{w128}
use Rattle.linear.specs.declared.term.Lit.{Lit}
use Rattle.linear.specs.declared.term.Term.{Term}
use Rattle.linear.specs.Limits.{IsWithin}
use Rattle.linear.specs.Opb.{Opb, objective_value}
use Rattle.linear.specs.Sum.{sum_of}
use Rattle.linear.specs.Valuation.{Valuation, literal_true, valuation_of}
use Rattle.normal_form.specs.Normal.{NormalConstraint}
use Rattle.normal_form.specs.NormalOf.{IsNormalOf, size_sum}
use Rattle.linear.specs.Largest.{largest_objective}
use Rattle.substitution.proofs.Difference.{objective_read}
use Rattle.proof_rules.specs.Legal.{Improves, Logs, worth_of}
use Rattle.proof_rules.specs.Solution.{at_most}
use Rattle.proof_rules.specs.State.{State, HasRoom}
use Rattle.proof_rules.proofs.Deciding.{less_or_not}
use Rattle.kernel.specs.Held.{Held}

-- a sum is no larger than its sizes
one_worth : (b : Bool) (c : ℤ) → unsigned_abs (cond b c (pos 0)) ≤ unsigned_abs c
one_worth true c = omega arith
one_worth false c = omega (arith, ints)

sum_small : (a : Valuation) (ts : List Term) → unsigned_abs (sum_of a ts) ≤ size_sum ts
sum_small a [] = omega (arith, ints)
sum_small a (t ∷ ts) = omega (arith, ints, one_worth (literal_true a (t.var.0) t.negated) t.coef, sum_small a ts)

-- what a solution is worth is within the limits of an objective
pub worth_small : (p : Opb) (g : List Bool) (ts : List Term) → Some ts ≡ p.objective → IsWithin p → unsigned_abs (worth_of p g) ≤ largest_objective
worth_small p g ts is within =
    let value : worth_of p g ≡ sum_of (valuation_of g) ts = ap (objective_value (valuation_of g)) (sym is) in
    let size = sum_small (valuation_of g) ts in
    let small = objective_read (length p.names) p.objective ts ts is refl within.objective in
    let same = ap unsigned_abs value in
    omega (arith, same, size, small)

-- a number of that size is what is kept of it
pub number_kept : (z : ℤ) → unsigned_abs z ≤ largest_objective → to_z w128 (of_z w128 z) ≡ z
number_kept z h = omega (arith, ints, h)

pub is_there : (p : Opb) (ts : List Term) → Some ts ≡ p.objective → p.objective ≢ None
is_there p ts is none = let same : Some ts ≡ None = is ∙ none in absurd (cc)

-- not below the least one
pub not_below : (o : Option ℤ) (v : ℤ) → (IfSome o (λ least. v <ℤ least) → ⊥) → (least : ℤ) × (o ≡ Some least) × (least ≤ℤ v)
not_below None v fails = absurd (fails tt)
not_below (Some least) v fails = (least, refl, elim (less_or_not v least) as (λ _. least ≤ℤ v) [ inl less ↦ absurd (fails less) | inr h ↦ h ])

pub assembled : (k : Held) (p : Opb) (s : State) (assigned : List Lit) (g : List Bool) (ts us : List Term) (n : NormalConstraint) (v w : ℤ)
    → p ≡ k.problem → s ≡ k.state → Some ts ≡ p.objective → us ≡ ts → Logs k.problem k.state assigned g → v ≡ worth_of p g → w ≡ v
    → IfSome s.least (λ least. w <ℤ least) → IsNormalOf (at_most us (w -ℤ pos 1)) n → HasRoom s → Improves k.problem k.state ts assigned g n
assembled k p s assigned g ts us n v w problem state is same logs value kept less form room =
    let worth : w ≡ worth_of k.problem g = kept ∙ value ∙ ap (λ q. worth_of q g) problem in record {
      minimises = sym (is ∙ ap (λ (q : Opb). q.objective) problem);
      logs = logs;
      better = subst (λ (t : State). IfSome t.least (λ least. worth_of k.problem g <ℤ least)) state (subst (λ z. IfSome s.least (λ least. z <ℤ least)) worth less);
      form = subst (λ z. IsNormalOf (at_most ts (z -ℤ pos 1)) n) worth (subst (λ xs. IsNormalOf (at_most xs (w -ℤ pos 1)) n) same form);
      room = subst HasRoom state room;
    }
