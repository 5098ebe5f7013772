-- A legal step has no fault.
use Rattle.proof_log.proofs.Refusals.{legal_by_memory}
use Rattle.proof_log.proofs.log.keep_legal.Goals as goal

pub want_of_memory-requires : goal.want_of_memory-requires
want_of_memory-requires g c =
    legal_by_memory c.args.kernel.now.problem c.args.kernel.now.state c.requires.legal.0 c.args.step.now c.in-Err.fault c.requires.legal.1 c.in-Err.ensures.fault
