-- Levels rise, so the last one is the greatest.
use Rattle.std.proofs.Common.{◌≡◌, ◌-◌, ◌∙◌, ℕ, false, List, ap, get_or, length, sym, arith}
use Rattle.linear.specs.declared.term.Lit.{Lit}
use Rattle.analysis.specs.declared.entry.Entry.{Entry}
use Rattle.analysis.specs.declared.note.Note.{Note}
use Rattle.analysis.specs.Biting.{greatest_level}
use Rattle.analysis.specs.Trails.{TrailState, entries_of}
use Rattle.analysis.proofs.Trails.{as_many, entries_at, entry_of, level_at_end}
use Rattle.analysis.proofs.search_trail.SearchTrail.open_decisions.Goals as goal

pub returns : goal.returns
returns c =
    let t = c.self.inside in
    let count : ℕ = c.len-count.result in
    let n : Note = c.index.result.now in
    let none : Lit = record { var = record { 0 = 0 }; negated = false } in
    let last : Entry = entry_of none n in
    let es : List Entry = entries_of t.trail.0 t.notes.items in
    let long : count ≡ length t.notes.items = omega (arith, c.len-count.ensures, t.notes.ok) in
    let there : get_or es (count - 1) last ≡ entry_of (get_or t.trail.0 (count - 1) none) (get_or t.notes.items (count - 1) n) =
    entries_at t.trail.0 t.notes.items (count - 1) last none n c.self.invariant.0 (omega (arith, long, c.self.invariant.0, c.if-count-eq0.false)) in
    ap (λ (m : Note). m.level) c.index.ensures ∙ sym (ap (λ (e : Entry). e.level) there)
    ∙ level_at_end es count last c.self.invariant.1 (omega (arith, long, c.self.invariant.0, as_many t.trail.0 t.notes.items c.self.invariant.0)) c.if-count-eq0.false
    ∙ ap (λ (s : TrailState). greatest_level s.entries) c.self.view_is
