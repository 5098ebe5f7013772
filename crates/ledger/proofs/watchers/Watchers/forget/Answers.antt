-- The list is empty, which has no pair.
use Rattle.std.proofs.Common.{None, [], map, set, refl, ap, ◌∙◌}
use Rattle.ledger.specs.Watched.{Watching, pair_of}
use Rattle.ledger.proofs.ClauseLists.{pairs_set}
use Rattle.ledger.proofs.watchers.Watchers.forget.Goals as goal

pub returns-clause-pairs : goal.returns-clause-pairs
returns-clause-pairs c = ap (map pair_of) c.clear.ensures ∙ pairs_set c.self.inside.literals c.args.place [] None refl ∙ ap (λ (w : Watching). set w.pairs c.args.place None) c.self.view_is
