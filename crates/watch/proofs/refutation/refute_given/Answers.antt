-- By where the walk from the cubes' literals ends.
use Rattle.std.proofs.Common.{refl}
use Rattle.ledger.specs.Ledgers.{shown}
use Rattle.watch.proofs.Deciding.{reached}
use Rattle.watch.proofs.GivenCubes.{decided_beside, falsified_beside}
use Rattle.watch.proofs.refutation.refute_given.Goals as goal

pub returns-then-branch-clause-value : goal.returns-then-branch-clause-value
returns-then-branch-clause-value c =
    let old = c.args.ledger.now in
    let root = reached (shown old.slots) old.assigned old.reasons c.requires.root.forced.0 c.reveal.ensures.reasons c.requires.root.forced.1 in (
      λ _. falsified_beside (shown old.slots) c.args.cubes.now old c.give_cubes.new.ledger c.in_ok-give_cubes.field-0 c.if-branch.true root c.give_cubes.ensures.given c.in_ok-give_cubes.ensures.end,
      λ _. refl,
    )

pub returns-clause-value : goal.returns-clause-value
returns-clause-value c =
    let old = c.args.ledger.now in
    let root = reached (shown old.slots) old.assigned old.reasons c.requires.root.forced.0 c.reveal.ensures.reasons c.requires.root.forced.1 in
    decided_beside c.args.cubes.now old c.give_cubes.new.ledger c.propagate_all.new.ledger c.propagate_all.new.queue.0 c.in_ok-falsified.falsified c.is_some.result c.in_ok-give_cubes.field-0 c.is_some.ensures c.if-branch.false c.requires.cubes root
    c.give_cubes.ensures.given c.in_ok-give_cubes.ensures.end c.propagate_all.ensures.goes_on c.reveal-2.ensures.consistent c.in_ok-falsified.ensures.end
