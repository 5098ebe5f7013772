-- No term before this one is of the literal.
use Rattle.std.proofs.Common.{◌≡◌, ℕ, ◌<◌, get_or}
use Rattle.normal_form.specs.declared.term.NormalTerm.{NormalTerm}
use Rattle.propagate.specs.Passes.{literal_of}
use Rattle.propagate.proofs.scan_propagator.has_literal.Given as goal

abbrev pub invariant-loop-place : goal.invariant-loop-place
invariant-loop-place l = (k : ℕ) (d : NormalTerm) → k < l.place → literal_of (get_or l.constraint.terms k d) ≡ l.literal → ⊥
