-- The literal of a variable that does not stand is put behind the others, at a level that is no lower than theirs.
use Rattle.std.proofs.Common.{◌≡◌, ◌∙◌, ◌++◌, ◌∷◌, [], ℕ, Bool, false, not, List, length, length-append, max, ap, subst, sym, arith}
use Rattle.linear.specs.declared.term.Lit.{Lit}
use Rattle.propagate.specs.Literals.{among}
use Rattle.analysis.specs.declared.entry.Entry.{Entry}
use Rattle.analysis.specs.declared.note.Note.{Note}
use Rattle.analysis.specs.Biting.{greatest_level}
use Rattle.analysis.specs.Trails.{IsTrail, StandsBehind, TrailState, entries_of, literals_of}
use Rattle.analysis.proofs.Trails.{entry_of, split, standing, trail_more}
use Rattle.analysis.proofs.search_trail.SearchTrail.push.Goals as goal

free : (c : goal.After-push-arg-2-1) (s : Bool) → among c.self.inside.trail.0 (c.args.entry.literal.var.0) s ≡ false
free c s =
    let t = c.self.inside in
    let same : literals_of c.args.self.now.entries ≡ t.trail.0 =
    standing t.trail.0 t.notes.items c.args.self.now.entries c.self.invariant.0 (ap (λ (x : TrailState). x.entries) c.self.view_is ∙ c.widen.ensures.entries) in
    ap (λ (xs : List Lit). among xs (c.args.entry.literal.var.0) s) (sym same) ∙ c.has.ensures.stands.0 c.if-has.false s

pub push-requires-2-clause-unset : goal.push-requires-2-clause-unset
push-requires-2-clause-unset c = free c c.args.entry.literal.negated

pub push-requires-2-clause-opposite_unset : goal.push-requires-2-clause-opposite_unset
push-requires-2-clause-opposite_unset c = free c (not c.args.entry.literal.negated)

-- the entries so far are those before room was made
before : (c : goal.After-push-2) → entries_of c.self.inside.trail.0 c.self.inside.notes.items ≡ c.args.self.now.entries
before c = ap (λ (x : TrailState). x.entries) c.self.view_is ∙ c.widen.ensures.entries

abbrev noted : goal.After-push-2 → Note
noted c = record { reason = c.args.entry.reason; level = c.max-level.result }

one_more : (c : goal.After-push-2) → entries_of c.push-2.new.self.0 c.push.new.self.items ≡ entries_of c.self.inside.trail.0 c.self.inside.notes.items ++ entry_of c.args.entry.literal (noted c) ∷ []
one_more c =
    let t = c.self.inside in
    split c.push-2.new.self.0 t.trail.0 c.push.new.self.items t.notes.items c.args.entry.literal (noted c) (ap (λ (p : List Lit × ℕ). p.0) c.push-2.ensures.value) c.in_ok-push.ensures.items c.self.invariant.0

level_is : (c : goal.After-push-2) → c.max-level.result ≡ max c.args.entry.level (greatest_level c.args.self.now.entries)
level_is c = c.max-level.ensures ∙ ap (max c.args.entry.level) c.open_decisions.ensures

behind : (c : goal.After-push-2) → StandsBehind (entries_of c.self.inside.trail.0 c.self.inside.notes.items) (entry_of c.args.entry.literal (noted c))
behind c =
    let v = c.args.entry.literal.var.0 in
    subst (λ (es : List Entry). StandsBehind es (entry_of c.args.entry.literal (noted c))) (sym (before c)) (
      c.has.ensures.stands.0 c.if-has.false,
      omega (arith, level_is c),
    )

pub invariant_of-self-2 : goal.invariant_of-self-2
invariant_of-self-2 c =
    let t = c.self.inside in
    let l = c.args.entry.literal in (
      omega (arith, c.self.invariant.0, ap (λ (p : List Lit × ℕ). length p.0) c.push-2.ensures.value, ap (λ (ns : List Note). length ns) c.in_ok-push.ensures.items, length-append t.trail.0 (l ∷ []), length-append t.notes.items (noted c ∷ [])),
      subst IsTrail (sym (one_more c)) (trail_more (entries_of t.trail.0 t.notes.items) (entry_of l (noted c)) c.self.invariant.1 (behind c)),
    )

pub returns-clause-pushed : goal.returns-clause-pushed
returns-clause-pushed c _ =
    one_more c ∙ ap (λ (es : List Entry). es ++ entry_of c.args.entry.literal (noted c) ∷ []) (before c)
    ∙ ap (λ (level : ℕ). c.args.self.now.entries ++ record { literal = c.args.entry.literal; reason = c.args.entry.reason; level = level } ∷ []) (level_is c)
