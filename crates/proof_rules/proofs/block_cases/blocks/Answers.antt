use Rattle.std.proofs.Common.{[], ◌∷◌, None, refl}
use Rattle.proof_rules.specs.BlockCases.{begun, own_goal, own_closed, ended, block_state}
use Rattle.proof_rules.specs.Cases.{cover, not_second_alone}
use Rattle.proof_rules.proofs.BlockSteps.{begins, own_opens, own_closes, own_ends, none_ends}
use Rattle.proof_rules.proofs.block_cases.blocks.Goals as goal

pub returns-clause-with_goal : goal.returns-clause-with_goal
returns-clause-with_goal c = (begun, begins, (own_goal, own_opens, (own_closed, own_closes, (ended, own_ends, refl))))

pub returns-clause-without_goals : goal.returns-clause-without_goals
returns-clause-without_goals c = (begun, begins, (block_state ((1, cover) ∷ (3, not_second_alone) ∷ []) 4 None, none_ends, refl))
