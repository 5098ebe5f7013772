use Rattle.proof_log.specs.Log.{Logbook}
use Rattle.search.proofs.Ending.{solved}
use Rattle.search.proofs.endings.end_solved.Goals as goal

pub conclude-requires : goal.conclude-requires
conclude-requires g c =
    let l : Logbook = c.args.log.now in solved l.problem l.state c.reveal.ensures.proof.entitled.1.0 c.requires.logged
