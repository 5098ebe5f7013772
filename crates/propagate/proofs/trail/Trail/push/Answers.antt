-- The literal's variable gets the value that makes it true.
use Rattle.std.proofs.Common.{◌≡◌, ℕ, ◌<◌, List, length, ap, arith}
use Rattle.std.proofs.lemmas.List.{length-set}
use Rattle.linear.specs.declared.term.Lit.{Lit}
use Rattle.propagate.specs.Trails.{IsFree}
use Rattle.propagate.proofs.TrailChanges.{room, pushed}
use Rattle.propagate.proofs.Positions.{positions_pushed}
use Rattle.propagate.proofs.trail.Trail.push.Goals as goal

pub push_reserved-requires : goal.push_reserved-requires
push_reserved-requires c =
    let t = c.self.inside in
    let same = ap (λ (p : List Lit × ℕ). p.0) c.self.view_is in
    let low : c.args.literal.var.0 < length t.values.items = omega (arith, c.requires.variable, ap (λ (p : List Lit × ℕ). p.1) c.self.view_is) in
    let free : IsFree t.assigned.items c.args.literal = rw same (c.requires.unset, c.requires.opposite_unset) in
    omega (arith, room t.assigned.items t.values.items c.args.literal c.self.invariant.0 low free, t.assigned.ok)

pub invariant_of-self : goal.invariant_of-self
invariant_of-self c =
    let t = c.self.inside in
    let v = c.args.literal.var.0 in
    let same = ap (λ (p : List Lit × ℕ). p.0) c.self.view_is in
    let low : v < length t.values.items = omega (arith, c.requires.variable, ap (λ (p : List Lit × ℕ). p.1) c.self.view_is) in
    let free : IsFree t.assigned.items c.args.literal = rw same (c.requires.unset, c.requires.opposite_unset) in
    let end : c.len.result ≡ length t.assigned.items = omega (arith, c.len.ensures, t.assigned.ok) in
    let values = length-set t.values.items v c.given_by.result in
    let there = positions_pushed t.assigned.items t.positions.items c.args.literal c.self.invariant.3 (omega (arith, low, c.self.invariant.2)) free in (
      rw (c.push_reserved.ensures.items, c.given_by.ensures) (pushed t.assigned.items t.values.items c.args.literal c.self.invariant.0 low free),
      omega (arith, values),
      omega (arith, values, c.self.invariant.2, length-set t.positions.items v c.len.result),
      rw (c.push_reserved.ensures.items, end) there,
    )

pub returns-clause-room : goal.returns-clause-room
returns-clause-room c =
    let t = c.self.inside in
    let same = ap (λ (p : List Lit × ℕ). p.0) c.self.view_is in
    let count = ap (λ (p : List Lit × ℕ). p.1) c.self.view_is in
    let low : c.args.literal.var.0 < length t.values.items = omega (arith, c.requires.variable, count) in
    let free : IsFree t.assigned.items c.args.literal = rw same (c.requires.unset, c.requires.opposite_unset) in
    omega (arith, room t.assigned.items t.values.items c.args.literal c.self.invariant.0 low free, ap (length {A = Lit}) same, count)
