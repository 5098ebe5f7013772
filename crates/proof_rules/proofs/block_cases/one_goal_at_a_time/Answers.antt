use Rattle.std.proofs.Common.{◌≢◌, ℕ, true, Option, Some, None, refl}
use Rattle.proof_rules.specs.BlockCases.{exchange_block}
use Rattle.proof_rules.proofs.block_cases.one_goal_at_a_time.Goals as goal

some_goal : ◌≢◌ {A = Option ℕ} (Some 3) None
some_goal same = absurd (cc)

pub returns-clause-other : goal.returns-clause-other
returns-clause-other c = (exchange_block true (Some 3), refl, some_goal)

pub returns-clause-again : goal.returns-clause-again
returns-clause-again c = (exchange_block true (Some 3), refl, some_goal)
