-- Each literal raises the number to the one above its variable.
use Rattle.std.proofs.Common.{rules, ◌<◌, false, get_or, ap, ◌∙◌, arith}
use Rattle.std.proofs.lemmas.List.{take_all}
use Rattle.linear.specs.declared.term.Lit.{Lit}
use Rattle.propagate.specs.Literals.{literal_bound}
use Rattle.propagate.proofs.LiteralBounds.{bound_more, each_below}
use Rattle.propagate.proofs.assigned.literal_count.Goals as goal

abbrev first : Lit
first = record { var = record { 0 = 0 }; negated = false }

pub loop-literal-preserved : goal.loop-literal-preserved
loop-literal-preserved c =
    let ls = c.args.literals.now in
    let i = c.loop-literal.literal-index in
    let more = bound_more ls i first (omega (arith, c.loop-literal-test.true)) in
    let low : (get_or ls i first).var.0 < 4294967296 = search rules in
    (omega (arith, more, c.max-count.ensures, c.loop-literal.invariant.0), omega (arith, c.max-count.ensures, low, c.loop-literal.invariant.1))

pub returns-clause-each : goal.returns-clause-each
returns-clause-each c =
    let all = take_all c.loop-literal.literal-index c.args.literals.now (omega (arith, c.loop-literal-test.false)) in
    each_below c.args.literals.now c.loop-literal.count (c.loop-literal.invariant.0 ∙ ap literal_bound all)
