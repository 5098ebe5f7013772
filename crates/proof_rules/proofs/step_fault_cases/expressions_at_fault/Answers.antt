use Rattle.std.proofs.Common.{◌≡◌, ◌≢◌, inl, inr, pos, [], ◌∷◌, None, refl, arith}
use Rattle.std.proofs.lemmas.Int.{ints}
use Rattle.proof_steps.specs.declared.step.Item.TheVariants.{Id, Add, Divide}
use Rattle.proof_rules.specs.declared.fault.StepFault.TheVariants.{StackShape, BadFactor, DeadId}
use Rattle.proof_rules.specs.Cases.{cover, cover_state}
use Rattle.proof_rules.specs.Fault.{IsPolFault}
use Rattle.proof_rules.specs.State.{State}
use Rattle.proof_rules.proofs.OnePolFault.{one_pol_fault}
use Rattle.proof_rules.proofs.SmallStates.{found_in}
use Rattle.proof_rules.proofs.step_fault_cases.expressions_at_fault.Goals as goal

abbrev start : State
start = cover_state None []

pub returns-clause-nothing : goal.returns-clause-nothing
returns-clause-nothing c = inr ([], refl, λ same. omega (arith, same))

pub returns-clause-two : goal.returns-clause-two
returns-clause-two c =
    inr (cover ∷ cover ∷ [], (cover ∷ [], (cover, found_in (cover ∷ []) 1, refl), (cover ∷ cover ∷ [], (cover, found_in (cover ∷ []) 1, refl), refl)), λ same. omega (arith, same))

pub returns-clause-dead : goal.returns-clause-dead
returns-clause-dead c = ([], Id (pos 9), [], [], refl, refl, found_in (cover ∷ []) 9)

some_left : cover ∷ [] ≢ []
some_left none = absurd (cc)

pub returns-clause-factor : goal.returns-clause-factor
returns-clause-factor c =
    (Id (pos 1) ∷ [], Divide (pos 0), [], cover ∷ [], refl, (cover ∷ [], (cover, found_in (cover ∷ []) 1, refl), refl), (some_left, omega (arith, ints)))

shape : IsPolFault start (Divide (pos 0) ∷ []) StackShape
shape = inl ([], Divide (pos 0), [], [], refl, refl, refl)

pub returns-clause-shape_before_factor : goal.returns-clause-shape_before_factor
returns-clause-shape_before_factor c = shape

pub returns-clause-not_factor : goal.returns-clause-not_factor
returns-clause-not_factor c h = let same : StackShape ≡ BadFactor = one_pol_fault start (Divide (pos 0) ∷ []) StackShape BadFactor shape h in absurd (cc)

first : IsPolFault start (Id (pos 1) ∷ Add ∷ Id (pos 9) ∷ []) StackShape
first = inl (Id (pos 1) ∷ [], Add, Id (pos 9) ∷ [], cover ∷ [], refl, (cover ∷ [], (cover, found_in (cover ∷ []) 1, refl), refl), omega arith)

pub returns-clause-first_item : goal.returns-clause-first_item
returns-clause-first_item c = first

pub returns-clause-not_dead : goal.returns-clause-not_dead
returns-clause-not_dead c h = let same : StackShape ≡ DeadId = one_pol_fault start (Id (pos 1) ∷ Add ∷ Id (pos 9) ∷ []) StackShape DeadId first h in absurd (cc)
