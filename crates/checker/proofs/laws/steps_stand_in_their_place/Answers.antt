use Rattle.checker.proofs.Placed.{no_misplaced}
use Rattle.checker.proofs.laws.steps_stand_in_their_place.Goals as goal

pub returns : goal.returns
returns c p proof line fault misplaced stopped = no_misplaced p proof line fault misplaced stopped
