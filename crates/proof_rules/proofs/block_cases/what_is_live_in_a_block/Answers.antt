use Rattle.std.proofs.Common.{pos, [], ◌∷◌, refl, sym, subst, arith}
use Rattle.normal_form.specs.Cases.{normal}
use Rattle.normal_form.proofs.NormalForm.{is_form, one_form}
use Rattle.propagate.specs.Cases.{x, not_x, unit, unit_not}
use Rattle.proof_steps.specs.declared.step.Item.TheVariants.{Id}
use Rattle.proof_steps.specs.declared.step.Step.TheVariants.{Pol}
use Rattle.proof_rules.specs.BlockCases.{not_exchanged, not_become, absurd_written, begun, own_goal, own_closed}
use Rattle.proof_rules.specs.Cases.{cover_file, cover, not_second_alone, cover_start}
use Rattle.proof_rules.specs.Expression.{cited}
use Rattle.proof_rules.specs.Shown.{IsShown, IsAdmitted, absurdity}
use Rattle.proof_rules.specs.State.{constraints, with_constraint}
use Rattle.proof_rules.specs.declared.fault.StepFault.TheVariants.{DeadId}
use Rattle.proof_rules.proofs.BlockSteps.{own_shown}
use Rattle.proof_rules.proofs.NotLegal.{step_never}
use Rattle.proof_rules.proofs.ShownBySearch.{shown_by_search, not_shown}
use Rattle.proof_rules.proofs.SmallBlocks.{live_in, found_at}
use Rattle.proof_rules.proofs.SmallConstraints.{not_first_admitted}
use Rattle.proof_rules.proofs.block_cases.what_is_live_in_a_block.Goals as goal

absurd_admitted : IsAdmitted absurd_written absurdity
absurd_admitted = record {
  relation = refl;
  sizes = omega arith;
  form = is_form absurd_written absurdity tt (λ set. refl) refl;
  fits = record { sum = omega arith; degree = omega arith };
}

not_before : IsShown (constraints cover_start) (unit_not 0) → ⊥
not_before =
    subst (λ ns. IsShown ns (unit_not 0) → ⊥) (sym (live_in ((1, cover) ∷ [])))
    (not_shown 3 (cover ∷ []) (unit_not 0) (unit 0) (x 0 ∷ []) (record { rises = (omega arith, omega arith, tt); terms = refl; degree = refl }) refl refl)

pub returns-clause-before : goal.returns-clause-before
returns-clause-before c = (unit_not 0, not_first_admitted, omega arith, not_before)

shown_there : IsShown (constraints begun) (unit_not 0)
shown_there =
    subst (λ ns. IsShown ns (unit_not 0)) (sym (live_in ((1, cover) ∷ (2, not_exchanged) ∷ [])))
    (shown_by_search 3 (cover ∷ not_exchanged ∷ []) (unit_not 0) (unit 0) (record { rises = (omega arith, omega arith, tt); terms = refl; degree = refl }) refl)

pub returns-clause-in_block : goal.returns-clause-in_block
returns-clause-in_block c = (unit_not 0, not_first_admitted, shown_there, (omega arith, refl))

pub returns-clause-in_goal : goal.returns-clause-in_goal
returns-clause-in_goal c (n, admitted, room, not) =
    not (subst (IsShown (constraints own_goal)) (one_form absurd_written absurdity n absurd_admitted.form admitted.form) own_shown)

pub returns-clause-cited_in_goal : goal.returns-clause-cited_in_goal
returns-clause-cited_in_goal c h =
    step_never cover_file own_goal (Pol (Id (pos 3) ∷ [])) DeadId (with_constraint not_become own_goal) h
    (not_become, (cited (pos 3), refl, found_at ((1, cover) ∷ (2, not_exchanged) ∷ (3, not_become) ∷ []) 3), (omega arith, refl))

not_behind : IsShown (constraints own_closed) absurdity → ⊥
not_behind =
    subst (λ ns. IsShown ns absurdity → ⊥) (sym (live_in ((1, cover) ∷ (2, not_exchanged) ∷ [])))
    (not_shown 3 (cover ∷ not_exchanged ∷ []) absurdity (normal [] 0) (not_x 0 ∷ x 1 ∷ []) (record { rises = tt; terms = refl; degree = refl }) refl refl)

pub returns-clause-behind_goal : goal.returns-clause-behind_goal
returns-clause-behind_goal c = (absurdity, absurd_admitted, omega arith, not_behind)

pub returns-clause-cited_behind_goal : goal.returns-clause-cited_behind_goal
returns-clause-cited_behind_goal c = ([], Id (pos 3), [], [], refl, refl, found_at ((1, cover) ∷ (2, not_exchanged) ∷ []) 3)

pub returns-clause-cited_behind_block : goal.returns-clause-cited_behind_block
returns-clause-cited_behind_block c = ([], Id (pos 2), [], [], refl, refl, found_at ((1, cover) ∷ (4, not_second_alone) ∷ []) 2)
