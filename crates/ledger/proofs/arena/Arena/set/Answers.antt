-- One literal of the array is another one.
use Rattle.std.proofs.Common.{◌<◌, ◌≤◌, List, [], length, get_or, set, ap, ◌∙◌, arith}
use Rattle.std.proofs.lemmas.List.{length-map}
use Rattle.linear.specs.declared.term.Lit.{Lit}
use Rattle.ledger.specs.declared.arena.Span.{Span}
use Rattle.ledger.specs.Spans.{end_of, piece}
use Rattle.ledger.proofs.Spans.{length_piece, piece_at, pieces_set}
use Rattle.ledger.proofs.arena.Arena.set.Goals as goal

pub returns : goal.returns
returns c =
    let xs : List Lit = c.self.inside.literals.items in
    let ss : List Span = c.self.inside.spans.items in
    let s : Span = c.index.result.now in
    let low : c.args.place < length ss = omega (arith, c.requires.place, ap (λ (ls : List (List Lit)). length ls) c.self.view_is, length-map ss (piece xs)) in
    let within : end_of s ≤ length xs = omega (arith, c.self.invariant.within c.args.place s low, ap (λ (t : Span). end_of t) c.index.ensures) in
    let h : c.args.index < s.len = omega (arith, c.requires.index, ap (λ (ls : List (List Lit)). length (get_or ls c.args.place [])) c.self.view_is, ap (λ (ls : List Lit). length ls) (piece_at xs ss c.args.place s low c.index.ensures), length_piece xs s within) in
    pieces_set xs ss c.args.place c.args.index c.args.literal s c.self.invariant low c.index.ensures h ∙ ap (λ (ls : List (List Lit)). set ls c.args.place (set (get_or ls c.args.place []) c.args.index c.args.literal)) c.self.view_is
