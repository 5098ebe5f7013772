-- One cell becomes 0.
use Rattle.std.proofs.Common.{◌≡◌, ℕ, ◌<◌, ◌≤◌, ◌-◌, List, ℤ, ap, subst, ◌∙◌, arith, length, slice_index_or, slice_set, to_z, of_z}
use mir.Syntax.{w128}
use Rattle.std.specs.Prelude.{pos, unsigned_abs}
use Rattle.std.proofs.lemmas.Int.{ints}
use Rattle.normal_form.specs.Normal.{NormalConstraint, largest_sum}
use Rattle.cut_rules.specs.Rules.{IsWeakening}
use Rattle.cut_rules.proofs.Meaning.{weakening_law}
use Rattle.accumulate.specs.Nets.{constraint_of, sizes, IsKept}
use Rattle.accumulate.proofs.Coefficients.{gone_at, weakened_none, weakened_cell, marked_zero}
use Rattle.accumulate.proofs.accumulator.Accumulator.weaken.Goals as goal

back : (z : ℤ) → unsigned_abs z ≤ largest_sum → to_z w128 (of_z w128 z) ≡ z
back z h = omega (arith, ints, h)

size_is : (ns : List ℤ) (marks : List ℕ) (sum degree i r : ℕ) (net : ℤ) → IsKept ns marks sum degree → i < length ns → net ≡ slice_index_or ns i net → r ≡ unsigned_abs (to_z w128 (of_z w128 net)) → (r ≡ unsigned_abs net) × (r ≤ sum)
size_is ns marks sum degree i r net k h e s =
    let small : (unsigned_abs net ≤ sum) × (sum - unsigned_abs net ≡ sizes (slice_set ns i (pos 0))) = gone_at sum ns i net h e k.summed in
    let same : r ≡ unsigned_abs net = s ∙ ap unsigned_abs (back net (omega (arith, small.0, k.small))) in
    (same, omega (arith, same, small.0))

kept_without : (ns : List ℤ) (marks : List ℕ) (sum degree i r low : ℕ) (net : ℤ) → IsKept ns marks sum degree → i < length ns → net ≡ slice_index_or ns i net → r ≡ unsigned_abs net → low ≡ degree - r → IsKept (slice_set ns i (pos 0)) marks (sum - r) low
kept_without ns marks sum degree i r low net k h e s d =
    let both : (unsigned_abs net ≤ sum) × (sum - unsigned_abs net ≡ sizes (slice_set ns i (pos 0))) = gone_at sum ns i net h e k.summed in
    record {
      marked = marked_zero 0 marks ns i h k.marked;
      summed = ap (λ (x : ℕ). sum - x) s ∙ both.1;
      small = omega (arith, k.small);
      low = omega (arith, k.low, d);
    }

pub returns-then-place-len-clause-weakening : goal.returns-then-place-len-clause-weakening
returns-then-place-len-clause-weakening c = subst (λ (d : NormalConstraint). IsWeakening (c.args.var.0) d d) c.self.view_is (weakened_none c.self.inside.nets.items (c.args.var.0) c.self.inside.degree (omega (arith, c.if-place-len.true, c.len.ensures)))

pub overflow_sub-self : goal.overflow_sub-self
overflow_sub-self c = (size_is c.self.inside.nets.items c.self.inside.touched.items c.self.inside.sum c.self.inside.degree (c.args.var.0) c.unsigned_abs-size.result c.index.result.now c.self.invariant.0 (omega (arith, c.if-place-len.false, c.len.ensures)) c.index.ensures c.unsigned_abs-size.ensures.value).1

pub invariant_of-self : goal.invariant_of-self
invariant_of-self c = (
  kept_without c.self.inside.nets.items c.self.inside.touched.items c.self.inside.sum c.self.inside.degree (c.args.var.0) c.unsigned_abs-size.result c.saturating_sub-self-inside.result c.index.result.now c.self.invariant.0 (omega (arith, c.if-place-len.false, c.len.ensures)) c.index.ensures (size_is c.self.inside.nets.items c.self.inside.touched.items c.self.inside.sum c.self.inside.degree (c.args.var.0) c.unsigned_abs-size.result c.index.result.now c.self.invariant.0 (omega (arith, c.if-place-len.false, c.len.ensures)) c.index.ensures c.unsigned_abs-size.ensures.value).0 (omega (arith, c.saturating_sub-self-inside.ensures)),
  marked_zero c.self.inside.level c.self.inside.recent.items c.self.inside.nets.items (c.args.var.0) (omega (arith, c.if-place-len.false, c.len.ensures)) c.self.invariant.1,
)

pub returns-clause-weakening : goal.returns-clause-weakening
returns-clause-weakening c = subst (λ (d : NormalConstraint). IsWeakening (c.args.var.0) d (constraint_of (slice_set c.self.inside.nets.items (c.args.var.0) (pos 0)) c.saturating_sub-self-inside.result)) c.self.view_is (weakened_cell c.self.inside.nets.items (c.args.var.0) c.self.inside.degree c.saturating_sub-self-inside.result c.index.result.now (omega (arith, c.if-place-len.false, c.len.ensures)) c.index.ensures (omega (arith, c.saturating_sub-self-inside.ensures, (size_is c.self.inside.nets.items c.self.inside.touched.items c.self.inside.sum c.self.inside.degree (c.args.var.0) c.unsigned_abs-size.result c.index.result.now c.self.invariant.0 (omega (arith, c.if-place-len.false, c.len.ensures)) c.index.ensures c.unsigned_abs-size.ensures.value).0)))

pub returns-clause-keeps : goal.returns-clause-keeps
returns-clause-keeps c = weakening_law (c.args.var.0) c.args.self.now (constraint_of (slice_set c.self.inside.nets.items (c.args.var.0) (pos 0)) c.saturating_sub-self-inside.result) (returns-clause-weakening c)
