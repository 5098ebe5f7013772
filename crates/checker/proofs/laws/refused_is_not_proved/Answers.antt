use Rattle.checker.proofs.OneWalk.{stopped_never}
use Rattle.checker.proofs.WalkOfProof.{walk_of}
use Rattle.checker.proofs.laws.refused_is_not_proved.Goals as goal

pub returns : goal.returns
returns c p proof line code stopped a proved =
    let walk = walk_of p proof a proved in
    stopped_never p proof walk.0 line code walk.1 walk.2 stopped
