-- One more size, added without wrapping.
use Rattle.std.proofs.Common.{◌≡◌, ℕ, ◌+◌, ◌-◌, ◌^◌, ◌<◌, min, List, length, take, get_or, arith, pos, unsigned_abs, false}
use Rattle.std.proofs.lemmas.Int.{ints}
use Rattle.linear.specs.declared.term.Term.{Term}
use Rattle.normal_form.specs.NormalOf.{size_sum}
use Rattle.normal_form.proofs.Runs.{size_more}
use Rattle.normal_form.proofs.merging.sizes_fit.Goals as goal

-- the term that the code reads past the end
abbrev none : Term
none = record { coef = pos 0; var = record { 0 = 0 }; negated = false }

one_more : (ts : List Term) (i : ℕ) (d : Term) (before size after : ℕ) → i < length ts → before ≡ min (size_sum (take i ts)) (2 ^ 128 - 1) → size ≡ unsigned_abs (get_or ts i d).coef → after ≡ min (before + size) (2 ^ 128 - 1) → after ≡ min (size_sum (take (i + 1) ts)) (2 ^ 128 - 1)
one_more ts i d before size after h b s a = omega (arith, size_more ts i d h, b, s, a)

pub loop-term-preserved : goal.loop-term-preserved
loop-term-preserved c =
    let size : c.unsigned_abs.result ≡ unsigned_abs (get_or c.args.terms.now c.loop-term.term-index none).coef = grind (arith, ints, c.unsigned_abs.ensures.value) in
    one_more c.args.terms.now c.loop-term.term-index none c.loop-term.sum c.unsigned_abs.result c.saturating_add-sum.result c.loop-term-test.true c.loop-term.invariant size c.saturating_add-sum.ensures
