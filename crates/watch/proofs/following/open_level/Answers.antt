-- One literal more, with where it begins; or none, where memory ends.
use Rattle.std.proofs.Common.{List, refl, subst, sym}
use Rattle.linear.specs.declared.term.Lit.{Lit}
use Rattle.ledger.specs.Ledgers.{shown}
use Rattle.watch.specs.Looking.{AreLookedAt}
use Rattle.watch.proofs.KeptLevels.{kept_opened}
use Rattle.watch.proofs.following.open_level.Goals as goal

pub returns-clause-kept : goal.returns-clause-kept
returns-clause-kept c =
    let old = c.args.ledger.now in
    let new = c.give.new.ledger in
    let queue = c.args.queue.now in
    let g = c.give.ensures in
    let kept = c.requires.kept in
    let looked : AreLookedAt (shown old.slots) new.propagated queue.0 = subst (λ (xs : List Lit). AreLookedAt (shown old.slots) xs queue.0) (sym g.propagated) kept.looked_at in
    kept_opened old new c.args.levels.now c.push.new.self c.args.literal c.len.result c.settled_count-settled.result queue.0 queue.0 queue.1 queue.1 c.len.ensures.reasons.as_many c.reveal.ensures.reasons.as_many g.given g.there refl looked c.in_ok-push.ensures.ok c.len.ensures.value g.propagated c.settled_count-settled.ensures kept
