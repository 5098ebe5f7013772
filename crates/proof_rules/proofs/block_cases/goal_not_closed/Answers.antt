use Rattle.std.proofs.Common.{[], ◌∷◌, refl, sym, subst}
use Rattle.normal_form.specs.Cases.{normal}
use Rattle.proof_steps.specs.declared.step.Step.TheVariants.{End}
use Rattle.proof_rules.specs.BlockCases.{absurd_block, absurd_goal}
use Rattle.proof_rules.specs.Cases.{cover_file, cover}
use Rattle.proof_rules.specs.Fault.{IsStepFault}
use Rattle.proof_rules.specs.Shown.{IsShown, absurdity}
use Rattle.proof_rules.specs.State.{constraints}
use Rattle.proof_rules.specs.declared.fault.StepFault.TheVariants.{GoalNotClosed}
use Rattle.proof_rules.proofs.NotLegal.{step_never}
use Rattle.proof_rules.proofs.ShownBySearch.{not_shown}
use Rattle.proof_rules.proofs.SmallBlocks.{live_in}
use Rattle.proof_rules.proofs.block_cases.goal_not_closed.Goals as goal

open_there : IsShown (constraints absurd_goal) absurdity → ⊥
open_there =
    subst (λ live. IsShown live absurdity → ⊥) (sym (live_in ((1, cover) ∷ (2, normal [] 0) ∷ (3, normal [] 0) ∷ [])))
    (not_shown 2 (cover ∷ normal [] 0 ∷ normal [] 0 ∷ []) absurdity (normal [] 0) [] (record { rises = tt; terms = refl; degree = refl }) refl refl)

fault : IsStepFault cover_file absurd_goal End GoalNotClosed
fault = (absurd_block, refl, open_there)

pub returns-clause-open : goal.returns-clause-open
returns-clause-open c = fault

pub returns-clause-full : goal.returns-clause-full
returns-clause-full c = (absurd_block, refl, open_there)

pub returns-clause-never : goal.returns-clause-never
returns-clause-never c t legal = step_never cover_file absurd_goal End GoalNotClosed t fault legal
