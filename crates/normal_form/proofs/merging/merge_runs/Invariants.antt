-- What is merged balances the terms before the start, whose variables are below that of the start.
use Rattle.std.proofs.Common.{length, take, get_or, ◌-◌, ◌<◌, ◌≤◌}
use Rattle.linear.specs.declared.term.Term.{Term}
use Rattle.normal_form.specs.Normal.{variable_bound}
use Rattle.normal_form.specs.Balance.{Balances}
use Rattle.normal_form.proofs.merging.merge_runs.Given as goal

abbrev pub invariant-loop-start : goal.invariant-loop-start
invariant-loop-start l = record {
  within : l.start ≤ length l.sorted;
  balance : Balances (take l.start l.sorted) l.merged;
  below : (d : Term) → l.start < length l.sorted → variable_bound l.merged ≤ (get_or l.sorted l.start d).var.0;
}

abbrev pub decreases-loop-start : goal.decreases-loop-start
decreases-loop-start l = length l.sorted - l.start
