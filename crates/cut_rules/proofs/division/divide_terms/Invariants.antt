-- The coefficients before this place are divided.
use Rattle.std.proofs.Common.{◌≡◌}
use Rattle.cut_rules.specs.Steps.{partly_changed, parts}
use Rattle.cut_rules.proofs.division.divide_terms.Given as goal

abbrev pub invariant-loop-place : goal.invariant-loop-place
invariant-loop-place l = record {
  terms : l.constraint.terms ≡ partly_changed (parts l.divisor) l.place l.fn.constraint.terms;
  degree : l.constraint.degree ≡ l.fn.constraint.degree;
}
