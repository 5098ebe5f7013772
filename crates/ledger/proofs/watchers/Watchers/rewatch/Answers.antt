-- Three literals of the list are set.
use Rattle.std.proofs.Common.{◌≡◌, ◌<◌, ◌≤◌, Some, List, [], length, get_or, map, set, ap, ◌∙◌, arith}
use Rattle.linear.specs.declared.term.Lit.{Lit}
use Rattle.ledger.specs.Watched.{Watching, exchanged, pair_of}
use Rattle.ledger.proofs.ClauseLists.{pair_of_exchanged, pairs_set, three_set}
use Rattle.ledger.proofs.watchers.Watchers.rewatch.Goals as goal

here : (c : goal.After-set-3) → c.set-3.new.self ≡ set c.self.inside.literals c.args.place (exchanged (get_or c.self.inside.literals c.args.place []) c.args.to.index c.args.fallen c.args.to.pair)
here c =
    let low : c.args.place < length c.self.inside.literals = omega (arith, c.requires.place, ap (λ (w : Watching). length w.literals) c.self.view_is) in
    three_set c.self.inside.literals c.set.new.self c.set-2.new.self c.set-3.new.self c.args.place c.args.to.index c.args.fallen c.args.to.pair low c.set.ensures c.set-2.ensures c.set-3.ensures

pub returns-clause-literals : goal.returns-clause-literals
returns-clause-literals c = here c ∙ ap (λ (w : Watching). set w.literals c.args.place (exchanged (get_or w.literals c.args.place []) c.args.to.index c.args.fallen c.args.to.pair)) c.self.view_is

pub returns-clause-pairs : goal.returns-clause-pairs
returns-clause-pairs c =
    let ls : List Lit = get_or c.self.inside.literals c.args.place [] in
    let long : 2 ≤ length ls = omega (arith, c.requires.rest, c.requires.below, ap (λ (w : Watching). length (get_or w.literals c.args.place [])) c.self.view_is) in
    ap (map pair_of) (here c) ∙ pairs_set c.self.inside.literals c.args.place (exchanged ls c.args.to.index c.args.fallen c.args.to.pair) (Some c.args.to.pair) (pair_of_exchanged ls c.args.to.index c.args.fallen c.args.to.pair long)
    ∙ ap (λ (w : Watching). set w.pairs c.args.place (Some c.args.to.pair)) c.self.view_is
