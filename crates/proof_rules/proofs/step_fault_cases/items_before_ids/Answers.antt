use Rattle.std.proofs.Common.{◌≡◌, inr, pos, [], ◌∷◌, None, refl, arith}
use Rattle.proof_steps.specs.declared.step.Item.TheVariants.{Id}
use Rattle.proof_rules.specs.declared.fault.StepFault.TheVariants.{StackShape, TooManyIds, DeadId}
use Rattle.proof_rules.specs.Cases.{cover, full_state}
use Rattle.proof_rules.specs.Fault.{IsPolFault}
use Rattle.proof_rules.proofs.OnePolFault.{one_pol_fault}
use Rattle.proof_rules.proofs.SmallStates.{found_in}
use Rattle.proof_rules.proofs.step_fault_cases.items_before_ids.Goals as goal

two : IsPolFault (full_state None) (Id (pos 1) ∷ Id (pos 1) ∷ []) StackShape
two = inr (
  cover ∷ cover ∷ [],
  (cover ∷ [], (cover, found_in (cover ∷ []) 1, refl), (cover ∷ cover ∷ [], (cover, found_in (cover ∷ []) 1, refl), refl)),
  λ same. omega (arith, same),
)

pub returns-clause-two : goal.returns-clause-two
returns-clause-two c = two

pub returns-clause-two_not_ids : goal.returns-clause-two_not_ids
returns-clause-two_not_ids c h =
    let same : StackShape ≡ TooManyIds = one_pol_fault (full_state None) (Id (pos 1) ∷ Id (pos 1) ∷ []) StackShape TooManyIds two h in
    absurd (cc)

dead : IsPolFault (full_state None) (Id (pos 9) ∷ []) DeadId
dead = ([], Id (pos 9), [], [], refl, refl, found_in (cover ∷ []) 9)

pub returns-clause-dead : goal.returns-clause-dead
returns-clause-dead c = dead

pub returns-clause-dead_not_ids : goal.returns-clause-dead_not_ids
returns-clause-dead_not_ids c h = let same : DeadId ≡ TooManyIds = one_pol_fault (full_state None) (Id (pos 9) ∷ []) DeadId TooManyIds dead h in absurd (cc)
