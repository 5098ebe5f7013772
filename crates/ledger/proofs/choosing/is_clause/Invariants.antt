-- The coefficients so far are not below the degree.
use Rattle.std.proofs.Common.{ℕ, ◌<◌, ◌≤◌, get_or}
use Rattle.normal_form.specs.declared.term.NormalTerm.{NormalTerm}
use Rattle.ledger.proofs.choosing.is_clause.Given as goal

abbrev pub invariant-loop-index : goal.invariant-loop-index
invariant-loop-index l = (k : ℕ) (d : NormalTerm) → k < l.index → l.constraint.degree ≤ (get_or l.constraint.terms k d).coef
