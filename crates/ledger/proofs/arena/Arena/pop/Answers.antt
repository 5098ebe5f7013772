-- The last span is taken off, with what stands in it.
use Rattle.std.proofs.Common.{◌-◌, List, length, map, take, ap, ◌∙◌}
use Rattle.linear.specs.declared.term.Lit.{Lit}
use Rattle.ledger.specs.Spans.{piece}
use Rattle.ledger.proofs.Spans.{pieces_fewer}
use Rattle.ledger.proofs.arena.Arena.pop.Goals as goal

pub returns-in-Some : goal.returns-in-Some
returns-in-Some c =
    ap (λ (ls : List Lit). map (piece ls) c.pop.new.self.items) c.truncate.ensures.items ∙ pieces_fewer c.self.inside.literals.items (length c.self.inside.literals.items) c.self.inside.spans.items c.pop.new.self.items c.in-Some.span c.in-Some.ensures.items c.self.invariant
    ∙ ap (λ (ls : List (List Lit)). take (length ls - 1) ls) c.self.view_is
