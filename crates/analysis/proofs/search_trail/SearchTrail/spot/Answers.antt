-- A variable that is listed has one place, and the entry there tells its sign and its level.
use Rattle.std.proofs.Common.{◌≡◌, List, ap, length, arith}
use Rattle.linear.specs.declared.term.Lit.{Lit}
use Rattle.analysis.specs.declared.entry.Entry.{Entry}
use Rattle.analysis.specs.Trails.{TrailState, literals_of}
use Rattle.analysis.proofs.Trails.{as_many, fewer_listed, spotted, standing, told_there}
use Rattle.analysis.proofs.search_trail.SearchTrail.spot.Goals as goal

pub returns-then-not-has : goal.returns-then-not-has
returns-then-not-has c level s = fewer_listed level c.args.self.now.entries (c.args.variable.0) s (c.has.ensures.stands.0 c.if-not-has.true s)

pub position-place-requires : goal.position-place-requires
position-place-requires c = omega (arith, c.has.ensures.inside c.if-not-has.false, ap (λ (s : TrailState). s.variables) c.self.view_is)

pub entry-level-requires : goal.entry-level-requires
entry-level-requires c =
    let t = c.self.inside in
    let v = c.args.variable.0 in
    let entries = ap (λ (s : TrailState). s.entries) c.self.view_is in
    let same : literals_of c.args.self.now.entries ≡ t.trail.0 = standing t.trail.0 t.notes.items c.args.self.now.entries c.self.invariant.0 entries in
    let there = spotted t.trail.0 c.args.self.now.entries v c.position-place.result c.has.result same c.if-not-has.false c.has.ensures.stands.1 c.position-place.ensures in
    omega (arith, there.low, as_many t.trail.0 t.notes.items c.self.invariant.0, ap (λ (xs : List Entry). length xs) entries)

pub returns : goal.returns
returns c level s =
    let t = c.self.inside in
    let v = c.args.variable.0 in
    let entries = ap (λ (s : TrailState). s.entries) c.self.view_is in
    let same : literals_of c.args.self.now.entries ≡ t.trail.0 = standing t.trail.0 t.notes.items c.args.self.now.entries c.self.invariant.0 entries in
    let there = spotted t.trail.0 c.args.self.now.entries v c.position-place.result c.has.result same c.if-not-has.false c.has.ensures.stands.1 c.position-place.ensures in
    told_there t.trail.0 t.notes.items c.args.self.now.entries v c.position-place.result level s c.entry-level.result c.self.invariant.0 entries there c.position-place.ensures c.entry-level.ensures
