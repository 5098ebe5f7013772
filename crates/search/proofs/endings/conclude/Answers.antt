-- What the state entitles to has no fault.
use Rattle.proof_rules.specs.Fault.{IsConclusionFault}
use Rattle.proof_rules.proofs.NotLegal.{conclusion_never}
use Rattle.proof_log.specs.Log.{Logbook}
use Rattle.proof_log.proofs.Refusals.{only_memory}
use Rattle.search.proofs.endings.conclude.Goals as goal

pub want_of_memory-requires : goal.want_of_memory-requires
want_of_memory-requires g c =
    let l : Logbook = c.args.log.now in
    let f = c.in-Err.fault in
    only_memory f (IsConclusionFault l.problem l.state c.args.conclusion f) c.in-Err.ensures.fault (λ i. conclusion_never l.problem l.state c.args.conclusion f c.requires.0 i c.requires.1)
