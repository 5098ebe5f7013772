use Rattle.std.proofs.Common.{subst, List, arith}
use Rattle.linear.specs.declared.term.Lit.{Lit}
use Rattle.propagate.specs.Walk.{CanForce}
use Rattle.propagate.specs.Passes.{literal_of}
use Rattle.propagate.proofs.Occurrences.{forced_at}
use Rattle.bounding.proofs.judgement.forces.Goals as goal

pub returns-then-is_forced : goal.returns-then-is_forced
returns-then-is_forced c =
    let standing : List Lit = c.args.standing.now in
    let t = c.term-term.result in
    let can : CanForce standing c.args.slack t.coef (literal_of t) = subst (CanForce standing c.args.slack t.coef) c.literal.ensures (c.is_forced.ensures c.if-is_forced.true) in
    λ _. (literal_of t, forced_at standing c.args.constraint.now c.args.slack c.loop-place.place t c.len-place-end.ensures.normal.rises (omega arith) c.term-term.ensures.value c.requires can)
