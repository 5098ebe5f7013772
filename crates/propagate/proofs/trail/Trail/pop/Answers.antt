-- The last literal's variable has no value any more.
use Rattle.std.proofs.Common.{ℕ, List, ap, arith, subst}
use Rattle.std.proofs.lemmas.List.{length-set}
use Rattle.linear.specs.declared.term.Lit.{Lit}
use Rattle.propagate.specs.declared.value.Value.TheVariants.{Free}
use Rattle.propagate.specs.Trails.{ArePositions, IsTrail}
use Rattle.propagate.proofs.TrailChanges.{last_below, popped}
use Rattle.propagate.proofs.Positions.{positions_popped}
use Rattle.propagate.proofs.trail.Trail.pop.Goals as goal

pub index_mut-requires : goal.index_mut-requires
index_mut-requires c =
    let t = c.self.inside in
    let it = subst (λ (xs : List Lit). IsTrail xs t.values.items) c.in_ok-literal.ensures.items c.self.invariant.0 in
    omega (arith, last_below c.pop.new.self.items c.in_ok-literal.literal t.values.items it, t.values.ok)

pub invariant_of-self-2 : goal.invariant_of-self-2
invariant_of-self-2 c =
    let t = c.self.inside in
    let it = subst (λ (xs : List Lit). IsTrail xs t.values.items) c.in_ok-literal.ensures.items c.self.invariant.0 in
    let at = subst (λ (xs : List Lit). ArePositions xs t.positions.items) c.in_ok-literal.ensures.items c.self.invariant.3 in (
      popped c.pop.new.self.items c.in_ok-literal.literal t.values.items it,
      omega (arith, length-set t.values.items (c.in_ok-literal.literal.var.0) Free),
      omega (arith, c.self.invariant.2, length-set t.values.items (c.in_ok-literal.literal.var.0) Free),
      positions_popped c.pop.new.self.items t.positions.items c.in_ok-literal.literal at,
    )

pub returns-clause-variable : goal.returns-clause-variable
returns-clause-variable c =
    let t = c.self.inside in
    let it = subst (λ (xs : List Lit). IsTrail xs t.values.items) c.in_ok-literal.ensures.items c.self.invariant.0 in
    omega (arith, last_below c.pop.new.self.items c.in_ok-literal.literal t.values.items it, ap (λ (p : List Lit × ℕ). p.1) c.self.view_is)
