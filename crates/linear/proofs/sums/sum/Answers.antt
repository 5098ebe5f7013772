use Rattle.std.proofs.Common.{◌≡◌, ◌+◌, ◌*◌, ◌<◌, false, length, ℤ, pos, neg_ℤ, ◌+ℤ◌, ◌≤ℤ◌, get_or, FitsSigned, to_z, of_z, ap, ◌∙◌, arith, rules}
use Rattle.std.proofs.lemmas.Int.{ints, to_z-of_z}
use mir.Syntax.{w128}
use Rattle.linear.specs.Sum.{worth}
use Rattle.linear.specs.Valuation.{valuation_of}
use Rattle.linear.specs.Limits.{largest_integer, most_terms}
use Rattle.linear.proofs.SumsOnTheWay.{more}
use Rattle.linear.proofs.sums.sum.Goals as goal

pub loop-term-preserved : goal.loop-term-preserved
loop-term-preserved c =
    let s : ℤ = to_z w128 c.loop-term.sum-bits in
    let w : ℤ = c.worth-sum.result in
    let next = more (valuation_of c.args.assignment.now) (length c.args.assignment.now) c.args.terms.now c.loop-term.term-index (record { coef = pos 0; var = record { 0 = 0 }; negated = false }) s
    c.requires c.loop-term-test.true c.loop-term.invariant.so_far c.loop-term.invariant.low c.loop-term.invariant.high in
    let few : c.loop-term.term-index < most_terms = omega (arith, c.requires.count, c.loop-term-test.true) in
    let is : w ≡ worth (valuation_of c.args.assignment.now) (get_or c.args.terms.now c.loop-term.term-index (record { coef = pos 0; var = record { 0 = 0 }; negated = false })) = c.worth-sum.ensures in
    let fits : FitsSigned w128 w = search rules in
    let low : neg_ℤ (pos ((c.loop-term.term-index + 1) * largest_integer)) ≤ℤ (s +ℤ w) = rw is next.low in
    let high : (s +ℤ w) ≤ℤ pos ((c.loop-term.term-index + 1) * largest_integer) = rw is next.high in
    let fits_sum : FitsSigned w128 (s +ℤ w) = omega (arith, ints) in
    let e : to_z w128 (of_z w128 (s +ℤ to_z w128 (of_z w128 w))) ≡ s +ℤ w = ap (λ x. to_z w128 (of_z w128 (s +ℤ x))) (to_z-of_z w128 w fits) ∙ to_z-of_z w128 (s +ℤ w) fits_sum in
    rw e (record { so_far = rw is next.whole; low = low; high = high })
