-- The items so far derive the sum, which has the same of a variable that does not go.
use Rattle.std.proofs.Common.{◌≡◌, ◌≢◌, ℕ, Bool, All}
use Rattle.normal_form.specs.Normal.{coefficient}
use Rattle.proof_rules.specs.Expression.{Given, IsPostfixOf}
use Rattle.analysis.proofs.derivation.Derivation.without.Given as goal

abbrev pub invariant-loop-variable : goal.invariant-loop-variable
invariant-loop-variable l = record {
  derived : (given : Given) → IsPostfixOf given l.fn.self.items.items l.fn.self.constraint → IsPostfixOf given l.items.items l.sum;
  others : (v : ℕ) (s : Bool) → All (λ x. x.0 ≢ v) l.variables → coefficient l.sum v s ≡ coefficient l.fn.self.constraint v s;
}
