-- The sum so far is in size at most the sum of all sizes, which is within the limit.
use Rattle.std.proofs.Common.{rules, ◌≡◌, ℕ, ◌+◌, ◌<◌, ◌≤◌, ℤ, pos, ◌+ℤ◌, false, unsigned_abs, length, take, get_or, cond, ◌∙◌, List, FitsSigned, to_z, of_z, arith}
use mir.Syntax.{w128}
use Rattle.std.proofs.lemmas.Int.{ints, to_z-of_z, fits_signed_from_abs}
use Rattle.linear.specs.declared.term.Term.{Term}
use Rattle.normal_form.specs.Normal.{largest_sum}
use Rattle.normal_form.specs.NormalOf.{negated_sum, size_sum}
use Rattle.normal_form.proofs.Runs.{negated_more, negated_size_take}
use Rattle.normal_form.proofs.degrees.negated_sum.Goals as goal

-- the term that the code reads past the end
abbrev none : Term
none = record { coef = pos 0; var = record { 0 = 0 }; negated = false }

one_more : (ts : List Term) (i : ℕ) (sum more : ℤ) → i < length ts → sum ≡ negated_sum (take i ts) → more ≡ cond (get_or ts i none).negated (get_or ts i none).coef (pos 0) → sum +ℤ more ≡ negated_sum (take (i + 1) ts)
one_more ts i sum more h s m = omega (arith, ints, negated_more ts i none h, s, m)

bounded : (ts : List Term) (i : ℕ) (sum : ℤ) → sum ≡ negated_sum (take i ts) → size_sum ts ≤ largest_sum → unsigned_abs sum ≤ largest_sum
bounded ts i sum s h = omega (arith, ints, negated_size_take i ts, s, h)

fits : (sum : ℤ) → unsigned_abs sum ≤ largest_sum → FitsSigned w128 sum
fits sum h = fits_signed_from_abs w128 sum (omega (arith, h))

added : (c : goal.After-when_negated-sum) → to_z w128 c.loop-term.sum-bits +ℤ to_z w128 (of_z w128 c.when_negated-sum.result) ≡ negated_sum (take (c.loop-term.term-index + 1) c.args.terms.now)
added c = one_more c.args.terms.now c.loop-term.term-index (to_z w128 c.loop-term.sum-bits) _ c.loop-term-test.true c.loop-term.invariant (to_z-of_z w128 c.when_negated-sum.result (search rules) ∙ c.when_negated-sum.ensures)

pub overflow_add-sum : goal.overflow_add-sum
overflow_add-sum c = fits _ (bounded c.args.terms.now (c.loop-term.term-index + 1) _ (added c) c.requires)

pub loop-term-preserved : goal.loop-term-preserved
loop-term-preserved c = to_z-of_z w128 _ (overflow_add-sum c) ∙ added c

pub returns-clause-size : goal.returns-clause-size
returns-clause-size c = bounded c.args.terms.now c.loop-term.term-index (to_z w128 c.loop-term.sum-bits) c.loop-term.invariant c.requires
