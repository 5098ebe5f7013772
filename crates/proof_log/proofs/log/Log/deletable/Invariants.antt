use Rattle.proof_log.specs.Deleting.{AreNoted}
use Rattle.proof_log.proofs.log.Log.deletable.Given as goal

-- what is noted so far may be deleted
abbrev pub invariant-loop-id : goal.invariant-loop-id
invariant-loop-id g l = AreNoted l.self l.numbers.items l.seen
