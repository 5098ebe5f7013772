-- No coefficient so far is larger.
use Rattle.std.proofs.Common.{ℕ, ◌<◌, ◌≤◌, get_or}
use Rattle.normal_form.specs.declared.term.NormalTerm.{NormalTerm}
use Rattle.normal_form.specs.Normal.{largest_sum}
use Rattle.ledger.proofs.measures.largest.Given as goal

abbrev pub invariant-loop-place : goal.invariant-loop-place
invariant-loop-place l = record {
  each : (k : ℕ) (d : NormalTerm) → k < l.place → (get_or l.constraint.terms k d).coef ≤ l.largest;
  limit : l.largest ≤ largest_sum;
}
