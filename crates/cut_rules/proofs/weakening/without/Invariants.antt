-- What is made so far is made of the terms before this place, and so is what has gone.
use Rattle.std.proofs.Common.{◌≡◌, ◌+◌, false, true, take}
use Rattle.normal_form.specs.Normal.{sum_over, only}
use Rattle.cut_rules.specs.Steps.{changed, less}
use Rattle.cut_rules.proofs.weakening.without.Given as goal

abbrev pub invariant-loop-place : goal.invariant-loop-place
invariant-loop-place l = record {
  terms : l.terms ≡ changed (less (l.var.0)) (take l.place l.constraint.terms);
  gone : l.gone ≡ sum_over (only (l.var.0) false) (take l.place l.constraint.terms) + sum_over (only (l.var.0) true) (take l.place l.constraint.terms);
}
