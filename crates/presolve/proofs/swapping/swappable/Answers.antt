use Rattle.std.proofs.Common.{rules, ◌≡◌, ◌+◌, length, subst, ◌∙◌, arith}
use Rattle.linear.specs.Opb.{Opb}
use Rattle.presolve.specs.Pairs.{IsChosen}
use Rattle.presolve.proofs.Pairing.{all_used, pairs_next}
use Rattle.presolve.proofs.swapping.swappable.Goals as goal

pub loop-number-preserved : goal.loop-number-preserved
loop-number-preserved c =
    let p : Opb = c.args.problem.now in
    let x = c.loop-number.number in
    let same = c.in_ok-symmetries.ensures.problem in
    let step = c.in_ok-pair.ensures.used c.args.fixed.now in
    let count : c.len-count.result ≡ length p.names = search rules in
    let chosen = subst (λ q. IsChosen q c.args.fixed.now x c.loop-number.chosen.swaps.items c.loop-number.chosen.taken.items → IsChosen q c.args.fixed.now (x + 1) c.pair.new.self.swaps.items c.pair.new.self.taken.items) same step
    c.loop-number.invariant.2 in (
      c.in_ok-pair.ensures.count ∙ c.loop-number.invariant.0,
      omega (arith, c.saturating_sub-left.ensures, c.loop-number.invariant.1, pairs_next (length p.names) x, count),
      chosen,
    )

pub returns : goal.returns
returns c =
    let p : Opb = c.args.problem.now in
    let count : c.len-count.result ≡ length p.names = search rules in
    all_used p c.args.fixed.now c.loop-number.number c.loop-number.chosen.swaps.items (omega (arith, c.loop-number-test.false, count)) c.loop-number.invariant.2.pairs
