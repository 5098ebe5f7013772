-- A literal stands at each place of the trail, with what is noted of it.
use Rattle.std.proofs.Common.{rules, ◌≡◌, ◌<◌, ◌∙◌, List, ap, get_or, false, length, sym, arith}
use Rattle.linear.specs.declared.term.Lit.{Lit}
use Rattle.analysis.specs.declared.entry.Entry.{Entry}
use Rattle.analysis.specs.Trails.{TrailState, entries_of}
use Rattle.analysis.proofs.Trails.{as_many, entries_at, entry_of}
use Rattle.analysis.proofs.search_trail.SearchTrail.entry.Goals as goal

pub bounds-assigned-place : goal.bounds-assigned-place
bounds-assigned-place c =
    let t = c.self.inside in
    let entries : entries_of t.trail.0 t.notes.items ≡ c.args.self.now.entries = ap (λ (s : TrailState). s.entries) c.self.view_is in
    omega (arith, c.requires, ap (λ (xs : List Entry). length xs) entries, as_many t.trail.0 t.notes.items c.self.invariant.0, ap (λ (xs : List Lit). length xs) c.assigned.ensures.assigned)

pub offset_bounds-assigned-place : goal.offset_bounds-assigned-place
offset_bounds-assigned-place c =
    let low = bounds-assigned-place c in
    search (rules, low)

pub index-requires : goal.index-requires
index-requires c =
    let t = c.self.inside in
    let entries : entries_of t.trail.0 t.notes.items ≡ c.args.self.now.entries = ap (λ (s : TrailState). s.entries) c.self.view_is in
    omega (arith, c.requires, ap (λ (xs : List Entry). length xs) entries, as_many t.trail.0 t.notes.items c.self.invariant.0, c.self.invariant.0, t.notes.ok)

pub returns : goal.returns
returns c =
    let t = c.self.inside in
    let k = c.args.place in
    let n = c.index.result.now in
    let none : Lit = record { var = record { 0 = 0 }; negated = false } in
    let there : Entry = entry_of (get_or c.assigned.result.now k none) n in
    let entries : entries_of t.trail.0 t.notes.items ≡ c.args.self.now.entries = ap (λ (s : TrailState). s.entries) c.self.view_is in
    let listed = c.assigned.ensures.assigned in
    let low : k < length t.trail.0 = omega (arith, c.requires, ap (λ (xs : List Entry). length xs) entries, as_many t.trail.0 t.notes.items c.self.invariant.0) in
    ap (λ (xs : List Lit). entry_of (get_or xs k none) n) listed ∙ ap (entry_of (get_or t.trail.0 k none)) c.index.ensures
    ∙ sym (entries_at t.trail.0 t.notes.items k there none n c.self.invariant.0 low) ∙ ap (λ (es : List Entry). get_or es k there) entries
