-- What is refuted by itself is refuted beside others.
use Rattle.std.proofs.Common.{refl}
use Rattle.watch.proofs.Deciding.{refuted_beside}
use Rattle.watch.proofs.Resting.{rest_on}
use Rattle.watch.proofs.refutation.refute_from_root.Goals as goal

pub returns-then-branch-clause-value : goal.returns-then-branch-clause-value
returns-then-branch-clause-value c = (
  λ _. refuted_beside c.args.ledger.now.slots c.args.ledger.now.slots c.args.extras.now refl (c.in_ok-propagate_root.ensures.value.0 c.if-branch.true),
  λ _. refl,
)

pub returns-in_err-propagate_root-clause-rest : goal.returns-in_err-propagate_root-clause-rest
returns-in_err-propagate_root-clause-rest c = rest_on c.args.ledger.now c.propagate_root.new.ledger c.args.rest.now c.propagate_root.ensures.goes_on.slots c.propagate_root.ensures.first c.requires.rest

pub returns-then-branch-clause-rest : goal.returns-then-branch-clause-rest
returns-then-branch-clause-rest c = rest_on c.args.ledger.now c.propagate_root.new.ledger c.args.rest.now c.propagate_root.ensures.goes_on.slots c.propagate_root.ensures.first c.requires.rest

pub note-requires-clause-rest : goal.note-requires-clause-rest
note-requires-clause-rest c = rest_on c.args.ledger.now c.propagate_root.new.ledger c.args.rest.now c.propagate_root.ensures.goes_on.slots c.propagate_root.ensures.first c.requires.rest
