use Rattle.std.proofs.Common.{◌≡◌, ◌+◌, ◌*◌, ◌<◌, length, ℤ, pos, neg_ℤ, ◌+ℤ◌, ◌≤ℤ◌, get_or, FitsSigned, to_z, of_z, ap, ◌∙◌, arith, rules}
use Rattle.std.proofs.lemmas.Int.{ints, to_z-of_z}
use mir.Syntax.{w128}
use Rattle.linear.specs.Sum.{worth}
use Rattle.linear.specs.Valuation.{valuation_of}
use Rattle.linear.specs.Limits.{largest_integer, most_terms}
use Rattle.linear.proofs.SumsOnTheWay.{more}
use Rattle.linear.proofs.sums.constraint_sum.Goals as goal

pub loop-place-preserved : goal.loop-place-preserved
loop-place-preserved c =
    let s : ℤ = to_z w128 c.loop-place.sum-bits in
    let w : ℤ = c.worth-sum.result in
    let inside : c.loop-place.place < length c.args.constraint.now.terms = omega (arith, c.loop-place-test.true, c.len-place-end.ensures) in
    let next = more (valuation_of c.args.assignment.now) (length c.args.assignment.now) c.args.constraint.now.terms c.loop-place.place c.term.result s
    c.requires inside c.loop-place.invariant.so_far c.loop-place.invariant.low c.loop-place.invariant.high in
    let few : c.loop-place.place < most_terms = omega (arith, c.requires.count, inside) in
    let is : w ≡ worth (valuation_of c.args.assignment.now) (get_or c.args.constraint.now.terms c.loop-place.place c.term.result) = c.worth-sum.ensures ∙ ap (worth (valuation_of c.args.assignment.now)) c.term.ensures in
    let fits : FitsSigned w128 w = search rules in
    let low : neg_ℤ (pos ((c.loop-place.place + 1) * largest_integer)) ≤ℤ (s +ℤ w) = rw is next.low in
    let high : (s +ℤ w) ≤ℤ pos ((c.loop-place.place + 1) * largest_integer) = rw is next.high in
    let fits_sum : FitsSigned w128 (s +ℤ w) = omega (arith, ints) in
    let e : to_z w128 (of_z w128 (s +ℤ to_z w128 (of_z w128 w))) ≡ s +ℤ w = ap (λ x. to_z w128 (of_z w128 (s +ℤ x))) (to_z-of_z w128 w fits) ∙ to_z-of_z w128 (s +ℤ w) fits_sum in
    rw e (record { so_far = rw is next.whole; low = low; high = high })
