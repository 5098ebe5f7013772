-- The sum so far is that of the terms before this place.
use Rattle.std.proofs.Common.{◌≡◌, take}
use Rattle.normal_form.specs.Normal.{sum_over}
use Rattle.propagate.specs.Slack.{not_false}
use Rattle.analysis.specs.Biting.{literals_up_to}
use Rattle.analysis.proofs.slack.open_sum.Given as goal

abbrev pub invariant-loop-place : goal.invariant-loop-place
invariant-loop-place l = l.sum ≡ sum_over (not_false (literals_up_to l.level l.trail.entries)) (take l.place l.constraint.terms)
