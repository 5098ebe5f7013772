-- The literals stand in a span of their own behind all others.
use Rattle.std.proofs.Common.{◌≡◌, ◌≤◌, List, [], ◌∷◌, ◌++◌, length, length-append, map, ap, sym, subst, ◌∙◌, arith}
use Rattle.std.proofs.lemmas.List.{map_push}
use Rattle.linear.specs.declared.term.Lit.{Lit}
use Rattle.ledger.specs.declared.arena.Span.{Span}
use Rattle.ledger.specs.Spans.{AreSpans, piece}
use Rattle.ledger.proofs.RowPlaces.{on_err_anyway}
use Rattle.ledger.proofs.Spans.{piece_last, pieces_longer, spans_pushed}
use Rattle.ledger.proofs.arena.Arena.push.Goals as goal

-- the lists are the same where more literals stand behind those of the spans
longer_array : (xs new : List Lit) (ss held : List Span) → (ls : List Lit) × (new ≡ xs ++ ls) → held ≡ ss → AreSpans (length xs) ss → map (piece new) held ≡ map (piece xs) ss
longer_array xs new ss held more same spans = ap (λ (ls : List Lit). map (piece ls) held) more.1 ∙ ap (map (piece (xs ++ more.0))) same ∙ pieces_longer xs more.0 ss spans

pub returns-in_err-append_literals-clause-err : goal.returns-in_err-append_literals-clause-err
returns-in_err-append_literals-clause-err c =
    on_err_anyway c.from_residual-in_err-append_literals.result
    (longer_array c.self.inside.literals.items c.append_literals.new.literals.items c.self.inside.spans.items c.reserve.new.self.items c.in_err-append_literals.ensures.more c.reserve.ensures.items c.self.invariant ∙ c.self.view_is)

pub returns-in_err-len-clause-err : goal.returns-in_err-len-clause-err
returns-in_err-len-clause-err c =
    on_err_anyway c.from_residual-in_err-len.result
    (longer_array c.self.inside.literals.items c.append_literals.new.literals.items c.self.inside.spans.items c.reserve.new.self.items c.in_ok-append_literals.ensures.more c.reserve.ensures.items c.self.invariant ∙ c.self.view_is)

pub invariant_of-self-2 : goal.invariant_of-self-2
invariant_of-self-2 c =
    let xs : List Lit = c.self.inside.literals.items in
    let new : List Lit = c.append_literals.new.literals.items in
    let ss : List Span = c.self.inside.spans.items in
    let more = c.in_ok-append_literals.ensures.more in
    let longer : length xs ≤ length new = omega (arith, ap (λ (ls : List Lit). length ls) more.1, length-append xs more.0) in
    let s : Span = record { start = c.in_ok-start.start; len = c.in_ok-len.len } in
    let spans : c.push_reserved.new.self.items ≡ ss ++ s ∷ [] = c.push_reserved.ensures.items ∙ ap (λ (os : List Span). os ++ s ∷ []) c.reserve.ensures.items in
    subst (AreSpans (length new)) (sym spans) (spans_pushed (length xs) (length new) ss s c.self.invariant (omega (arith, c.in_ok-start.ensures, c.len-before.ensures, c.self.inside.literals.ok)) (omega (arith, longer, c.in_ok-start.ensures, c.in_ok-len.ensures, c.len-before.ensures, c.self.inside.literals.ok, c.len.ensures, c.append_literals.new.literals.ok)) longer)

pub returns-clause-ok : goal.returns-clause-ok
returns-clause-ok c =
    let xs : List Lit = c.self.inside.literals.items in
    let new : List Lit = c.append_literals.new.literals.items in
    let ss : List Span = c.self.inside.spans.items in
    let it = c.in_ok-append_literals.ensures.ok in
    let ls : List Lit = it.0 in
    let s : Span = record { start = c.in_ok-start.start; len = c.in_ok-len.len } in
    let begins : s.start ≡ length xs = omega (arith, c.in_ok-start.ensures, c.len-before.ensures, c.self.inside.literals.ok) in
    let long : s.len ≡ length ls = omega (arith, c.in_ok-start.ensures, c.in_ok-len.ensures, c.len-before.ensures, c.self.inside.literals.ok, c.len.ensures, c.append_literals.new.literals.ok, ap (λ (os : List Lit). length os) it.1, length-append xs ls) in
    let spans : c.push_reserved.new.self.items ≡ ss ++ s ∷ [] = c.push_reserved.ensures.items ∙ ap (λ (os : List Span). os ++ s ∷ []) c.reserve.ensures.items in
    let here : piece (xs ++ ls) s ≡ ls = ap (λ k. piece (xs ++ ls) (record { start = k; len = s.len })) begins ∙ ap (λ k. piece (xs ++ ls) (record { start = length xs; len = k })) long ∙ piece_last xs ls in (
      ls,
      ap (λ (os : List Lit). map (piece os) c.push_reserved.new.self.items) it.1 ∙ ap (map (piece (xs ++ ls))) spans ∙ map_push (piece (xs ++ ls)) ss s
          ∙ ap (λ (os : List (List Lit)). os ++ piece (xs ++ ls) s ∷ []) (pieces_longer xs ls ss c.self.invariant ∙ c.self.view_is) ∙ ap (λ (os : List Lit). c.args.self.now ++ os ∷ []) here,
      it.2,
      it.3,
    )
