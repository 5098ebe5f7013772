-- The coefficients before this place are capped.
use Rattle.std.proofs.Common.{◌≡◌, min}
use Rattle.cut_rules.specs.Steps.{partly_changed}
use Rattle.cut_rules.proofs.saturation.cap_terms.Given as goal

abbrev pub invariant-loop-place : goal.invariant-loop-place
invariant-loop-place l = record {
  terms : l.constraint.terms ≡ partly_changed (λ _ c. min c l.cap) l.place l.fn.constraint.terms;
  degree : l.constraint.degree ≡ l.fn.constraint.degree;
}
