use Rattle.checker.specs.WalkOf.{position_of}
use Rattle.checker.proofs.ProofOfWalk.{concluded_at_end, none_concluded}
use Rattle.checker.proofs.walk.Walk.finish.Goals as goal

pub unreachable-requires : goal.unreachable-requires
unreachable-requires g c =
    let reached = c.requires.reached in
    let concluded = concluded_at_end c.args.self.kernel.problem reached.0 (position_of c.args.self) reached.1 c.in-After.is in
    none_concluded c.args.self.concluded concluded.0 c.in-None.is concluded.1
