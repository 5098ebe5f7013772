-- Each literal is free in what stands before it.
use Rattle.std.proofs.Common.{◌<◌, List, ℕ, length, get_or, take, subst}
use Rattle.linear.specs.declared.term.Lit.{Lit}
use Rattle.propagate.specs.Literals.{IsConsistent, IsOnce}
use Rattle.propagate.specs.Trails.{IsFree}
use Rattle.propagate.proofs.TrailLiterals.{apart}
use Rattle.propagate.proofs.trail.Trail.assigned.Goals as goal

pub returns-clause-once : goal.returns-clause-once
returns-clause-once c = subst (λ (p : List Lit × ℕ). IsOnce p.0) c.self.view_is (apart c.self.inside.assigned.items c.self.inside.values.items c.self.invariant.0).0

pub returns-clause-consistent : goal.returns-clause-consistent
returns-clause-consistent c = subst (λ (p : List Lit × ℕ). IsConsistent p.0) c.self.view_is (apart c.self.inside.assigned.items c.self.inside.values.items c.self.invariant.0).1

pub returns-clause-fresh : goal.returns-clause-fresh
returns-clause-fresh c = subst (λ (p : List Lit × ℕ). (k : ℕ) (d : Lit) → k < length p.0 → IsFree (take k p.0) (get_or p.0 k d)) c.self.view_is c.self.invariant.0.fresh
