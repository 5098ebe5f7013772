-- The last literal goes with what was noted of it.
use Rattle.std.proofs.Common.{◌≡◌, ◌∙◌, ◌++◌, ◌∷◌, [], List, length, length-append, ap, subst, sym, arith}
use Rattle.linear.specs.declared.term.Lit.{Lit}
use Rattle.analysis.specs.declared.note.Note.{Note}
use Rattle.analysis.specs.Trails.{IsTrail, TrailState, entries_of}
use Rattle.analysis.proofs.Trails.{entry_of, split, trail_less}
use Rattle.analysis.proofs.search_trail.SearchTrail.pop.Goals as goal

as_long : (c : goal.In_ok-reason) → length c.pop-2.new.self.items ≡ length c.pop.new.self.0
as_long c =
    let l = c.in_ok-literal.literal in
    let n : Note = c.in_ok-reason.field-0 in
    omega (arith, c.self.invariant.0, ap (λ (xs : List Lit). length xs) c.in_ok-literal.ensures.value, ap (λ (ns : List Note). length ns) c.in_ok-reason.ensures.items, length-append c.pop.new.self.0 (l ∷ []), length-append c.pop-2.new.self.items (n ∷ []))

one_fewer : (c : goal.In_ok-reason) → entries_of c.self.inside.trail.0 c.self.inside.notes.items ≡ entries_of c.pop.new.self.0 c.pop-2.new.self.items ++ entry_of c.in_ok-literal.literal c.in_ok-reason.field-0 ∷ []
one_fewer c = split c.self.inside.trail.0 c.pop.new.self.0 c.self.inside.notes.items c.pop-2.new.self.items c.in_ok-literal.literal c.in_ok-reason.field-0 c.in_ok-literal.ensures.value c.in_ok-reason.ensures.items (as_long c)

pub invariant_of-self-2 : goal.invariant_of-self-2
invariant_of-self-2 c = (as_long c, trail_less (entries_of c.pop.new.self.0 c.pop-2.new.self.items) (entry_of c.in_ok-literal.literal c.in_ok-reason.field-0) (subst IsTrail (one_fewer c) c.self.invariant.1))

pub returns-clause-last : goal.returns-clause-last
returns-clause-last c = sym (ap (λ (s : TrailState). s.entries) c.self.view_is) ∙ one_fewer c
