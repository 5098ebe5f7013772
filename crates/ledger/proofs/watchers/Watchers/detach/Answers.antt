-- The last list is taken off, and its pair.
use Rattle.std.proofs.Common.{◌-◌, length, map, take, ap, ◌∙◌}
use Rattle.ledger.specs.Watched.{Watching, pair_of}
use Rattle.ledger.proofs.ClauseLists.{pairs_taken}
use Rattle.ledger.proofs.watchers.Watchers.detach.Goals as goal

pub returns-clause-pairs : goal.returns-clause-pairs
returns-clause-pairs c = ap (map pair_of) c.pop.ensures ∙ pairs_taken c.self.inside.literals ∙ ap (λ (w : Watching). take (length w.pairs - 1) w.pairs) c.self.view_is
