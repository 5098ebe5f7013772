-- At first nothing is merged.
use Rattle.cut_rules.proofs.MergeSteps.{begun}
use Rattle.cut_rules.proofs.merging.merge.Goals as goal

pub loop-at-init : goal.loop-at-init
loop-at-init c =
    begun c.args.left.now.terms c.args.right.now.terms c.in_ok-terms.terms c.front_at.result.place c.front_at-2.result.place c.front_at.result.variable c.front_at-2.result.variable c.in_ok-terms.ensures c.front_at.ensures.place c.front_at-2.ensures.place
    c.len.ensures.normal.rises c.len-2.ensures.normal.rises c.front_at.ensures.variable c.front_at-2.ensures.variable
