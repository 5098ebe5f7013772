-- A legal step has no fault.
use Rattle.proof_log.specs.Log.{Logbook}
use Rattle.proof_log.proofs.Refusals.{legal_by_memory}
use Rattle.proof_log.proofs.log.Log.take.Goals as goal

pub want_of_memory-requires : goal.want_of_memory-requires
want_of_memory-requires g c =
    let l : Logbook = c.args.self.now in
    legal_by_memory l.problem l.state c.requires.legal.0 c.args.step c.in-Err.fault c.requires.legal.1 c.in-Err.ensures.fault
