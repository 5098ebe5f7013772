-- The span is empty.
use Rattle.std.proofs.Common.{List, [], set, ap, ◌∙◌}
use Rattle.std.proofs.lemmas.List.{map-set}
use Rattle.linear.specs.declared.term.Lit.{Lit}
use Rattle.ledger.specs.Spans.{piece}
use Rattle.ledger.proofs.arena.Arena.clear.Goals as goal

pub returns : goal.returns
returns c = map-set (piece c.self.inside.literals.items) c.self.inside.spans.items c.args.place (record { start = c.index_mut.result.now.start; len = 0 }) ∙ ap (λ (ls : List (List Lit)). set ls c.args.place []) c.self.view_is
