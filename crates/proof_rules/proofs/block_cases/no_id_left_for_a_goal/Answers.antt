use Rattle.std.proofs.Common.{false, None, refl, arith}
use Rattle.proof_rules.specs.BlockCases.{exchange_block, not_exchanged, not_become}
use Rattle.proof_rules.specs.Cases.{not_second_alone}
use Rattle.proof_rules.proofs.BlockSteps.{become, own_under, own_negated, exchanged_admitted, exchanged_negated, not_exchanged_fits}
use Rattle.proof_rules.proofs.SmallStates.{none_left}
use Rattle.proof_rules.proofs.block_cases.no_id_left_for_a_goal.Goals as goal

pub returns-clause-unknown : goal.returns-clause-unknown
returns-clause-unknown c = (exchange_block false None, refl, (refl, λ r ((less, apart), asks). absurd (omega (arith, less))))

pub returns-clause-full : goal.returns-clause-full
returns-clause-full c = (
  exchange_block false None,
  refl,
  (refl, (become, not_become, (refl, own_under), own_negated, record { sum = omega arith; degree = omega arith }), λ room. omega (arith, room)),
)

pub returns-clause-begin : goal.returns-clause-begin
returns-clause-begin c = (refl, ((not_second_alone, not_exchanged, exchanged_admitted, exchanged_negated, not_exchanged_fits), none_left None))
