-- Each term is listed or passed over, and the slack stays.
use Rattle.std.proofs.Common.{◌≡◌, ap, ◌∙◌, arith}
use Rattle.std.proofs.lemmas.Int.{ints}
use Rattle.linear.specs.declared.term.Lit.{Lit}
use Rattle.normal_form.proofs.Sums.{bound_at}
use Rattle.propagate.proofs.Occurrences.{nothing_forced}
use Rattle.propagate.proofs.Visits.{turn}
use Rattle.propagate.proofs.pass.list_all.Goals as goal

pub list_if_forced-requires : goal.list_if_forced-requires
list_if_forced-requires c =
    let same : c.literal.result.var.0 ≡ c.term-term.result.var.0 = ap (λ (l : Lit). l.var.0) c.literal.ensures in
    let count = c.loop-index.invariant.0 in
    grind (arith, bound_at c.args.constraint.now.terms c.loop-index.index c.term-term.result, c.term-term.ensures.value, c.requires.variables)

pub loop-index-preserved : goal.loop-index-preserved
loop-index-preserved c = (
  c.in_ok-list_if_forced.ensures.count ∙ c.loop-index.invariant.0,
  turn c.args.constraint.now c.args.place c.args.slack c.args.trail.now.0 c.args.steps.now.items c.loop-index.index c.loop-index.trail.0 c.list_if_forced.new.trail.0 c.loop-index.steps.items c.list_if_forced.new.steps.items c.term-term.result c.literal.result
      c.len-index-end.ensures.normal.rises (omega arith) c.term-term.ensures.value c.literal.ensures c.loop-index.invariant.1 c.in_ok-list_if_forced.ensures.listed c.in_ok-list_if_forced.ensures.passed,
)

pub returns-clause-quiet : goal.returns-clause-quiet
returns-clause-quiet c =
    let v = c.loop-index.invariant.1 in (
      λ b. omega (arith, ints, b, v.slack_is),
      nothing_forced c.loop-index.trail.0 c.args.constraint.now c.args.slack c.len-index-end.ensures.normal.rises v.slack_is (λ k d h. v.done k d (omega arith)),
    )
