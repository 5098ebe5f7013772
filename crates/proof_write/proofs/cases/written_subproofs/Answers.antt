use Rattle.std.proofs.Common.{refl}
use Rattle.std.specs.Fmt.{digits}
use Rattle.proof_write.proofs.cases.written_subproofs.Goals as goal

pub returns-clause-block : goal.returns-clause-block
unfolding digits
returns-clause-block c = refl

pub returns-clause-block_without_images : goal.returns-clause-block_without_images
unfolding digits
returns-clause-block_without_images c = refl

pub returns-clause-goal_of_id : goal.returns-clause-goal_of_id
unfolding digits
returns-clause-goal_of_id c = refl

pub returns-clause-goal_of_newest : goal.returns-clause-goal_of_newest
unfolding digits
returns-clause-goal_of_newest c = refl

pub returns-clause-goal_of_itself : goal.returns-clause-goal_of_itself
unfolding digits
returns-clause-goal_of_itself c = refl

pub returns-clause-goal_of_objective : goal.returns-clause-goal_of_objective
unfolding digits
returns-clause-goal_of_objective c = refl

pub returns-clause-ending : goal.returns-clause-ending
unfolding digits
returns-clause-ending c = refl
