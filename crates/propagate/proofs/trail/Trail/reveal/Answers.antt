-- Each literal is free in what stands before it.
use Rattle.std.proofs.Common.{List, ℕ, subst}
use Rattle.linear.specs.declared.term.Lit.{Lit}
use Rattle.propagate.specs.Literals.{IsConsistent, IsOnce}
use Rattle.propagate.proofs.TrailLiterals.{apart}
use Rattle.propagate.proofs.trail.Trail.reveal.Goals as goal

pub returns-clause-once : goal.returns-clause-once
returns-clause-once c = subst (λ (p : List Lit × ℕ). IsOnce p.0) c.self.view_is (apart c.self.inside.assigned.items c.self.inside.values.items c.self.invariant.0).0

pub returns-clause-consistent : goal.returns-clause-consistent
returns-clause-consistent c = subst (λ (p : List Lit × ℕ). IsConsistent p.0) c.self.view_is (apart c.self.inside.assigned.items c.self.inside.values.items c.self.invariant.0).1
