-- A beginning of what is consistent.
use Rattle.std.proofs.Common.{ℕ, List, subst}
use Rattle.linear.specs.declared.term.Lit.{Lit}
use Rattle.propagate.specs.Literals.{IsConsistent}
use Rattle.trail.proofs.AssignedLiterals.{consistent_before}
use Rattle.trail.proofs.assignment.Assignment.reveal.Goals as goal

pub returns-clause-consistent : goal.returns-clause-consistent
returns-clause-consistent c = subst (λ (w : List Lit × ℕ × List Lit). IsConsistent w.0) c.self.view_is (consistent_before c.self.inside.trail.0 c.self.inside.propagated c.reveal.ensures.consistent)
