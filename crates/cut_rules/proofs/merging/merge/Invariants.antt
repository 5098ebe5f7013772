-- What is merged and what is left give each set of variables what both constraints do.
use Rattle.std.proofs.Common.{◌-◌, drop, min}
use Rattle.linear.specs.Largest.{most_names}
use Rattle.cut_rules.proofs.MergeSteps.{IsMerging}
use Rattle.cut_rules.proofs.merging.merge.Given as goal

abbrev pub invariant-loop-at : goal.invariant-loop-at
invariant-loop-at l = IsMerging l.left.terms l.right.terms l.terms (drop l.at.left.place l.left.terms) (drop l.at.right.place l.right.terms) l.at.left.variable l.at.right.variable

abbrev pub decreases-loop-at : goal.decreases-loop-at
decreases-loop-at l = most_names - min l.at.left.variable l.at.right.variable
