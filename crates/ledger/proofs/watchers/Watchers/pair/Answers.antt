-- The pair is that of the list.
use Rattle.std.proofs.Common.{None, get_or, ap, sym, ◌∙◌}
use Rattle.ledger.specs.Watched.{Watching, pair_of}
use Rattle.ledger.proofs.ClauseLists.{pair_at}
use Rattle.ledger.proofs.watchers.Watchers.pair.Goals as goal

pub returns : goal.returns
returns c = c.of.ensures ∙ ap pair_of c.row.ensures ∙ sym (pair_at c.self.inside.literals c.args.place) ∙ ap (λ (w : Watching). get_or w.pairs c.args.place None) c.self.view_is
