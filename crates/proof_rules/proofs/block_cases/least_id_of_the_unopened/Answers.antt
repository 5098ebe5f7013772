use Rattle.std.proofs.Common.{◌≡◌, ℕ, zero, suc, ◌<◌, List, [], ◌∷◌, Some, None, refl, sym, subst, ◌∙◌, ◌||◌, arith}
use Rattle.std.specs.FinMap as fin
use Rattle.std.specs.FinSet as set
use Rattle.std.specs.Ordering.{nat_cmp, eq_by_cmp}
use Rattle.std.proofs.lemmas.Bool.{false≢true}
use Rattle.std.proofs.lemmas.Cmp.{nat_cmp_total}
use Rattle.std.proofs.lemmas.Int.{ints}
use Rattle.normal_form.specs.Normal.{NormalConstraint}
use Rattle.normal_form.proofs.NormalForm.{is_form}
use Rattle.propagate.specs.Cases.{x, not_x, unit, unit_not}
use Rattle.proof_steps.specs.declared.step.Step.TheVariants.{End}
use Rattle.substitution.specs.Cases.{single}
use Rattle.substitution.specs.Under.{substituted}
use Rattle.substitution.specs.declared.image.Image.TheVariants.{Zero}
use Rattle.proof_rules.specs.Block.{IsUnopened}
use Rattle.proof_rules.specs.BlockCases.{falling_block, falling}
use Rattle.proof_rules.specs.Cases.{cover_file, cover, not_second_alone}
use Rattle.proof_rules.specs.Fault.{IsStepFault}
use Rattle.proof_rules.specs.Redundant.{IsShownUnder}
use Rattle.proof_rules.specs.State.{constraints}
use Rattle.proof_rules.specs.declared.fault.StepFault.TheVariants.{GoalOpen}
use Rattle.proof_rules.proofs.OneStepFault.{one_step_fault}
use Rattle.proof_rules.proofs.ShownBySearch.{not_shown_under}
use Rattle.proof_rules.proofs.SmallBlocks.{live_in, found_at}
use Rattle.proof_rules.proofs.block_cases.least_id_of_the_unopened.Goals as goal

abbrev live : List (ℕ × NormalConstraint)
live = (1, cover) ∷ (2, not_second_alone) ∷ (3, unit 0) ∷ []

abbrev from : List NormalConstraint
from = cover ∷ not_second_alone ∷ unit 0 ∷ []

-- they become `1 x1 >= 1` and `1 ~x1 >= 1`
first_open : IsShownUnder (constraints (falling set.empty)) (single 0 Zero) cover → ⊥
first_open =
    subst (λ ns. IsShownUnder ns (single 0 Zero) cover → ⊥) (sym (live_in live))
    (not_shown_under 4 from (single 0 Zero) cover (unit 1) (unit_not 1) (x 0 ∷ not_x 1 ∷ [])
    (is_form (substituted cover (single 0 Zero)) (unit 1) (omega arith, omega arith, tt) (λ set. refl) refl)
    (record { rises = (omega arith, omega arith, tt); terms = refl; degree = refl }) refl refl)

second_open : IsShownUnder (constraints (falling set.empty)) (single 0 Zero) not_second_alone → ⊥
second_open =
    subst (λ ns. IsShownUnder ns (single 0 Zero) not_second_alone → ⊥) (sym (live_in live))
    (not_shown_under 4 from (single 0 Zero) not_second_alone (unit_not 1) (unit 1) (x 0 ∷ x 1 ∷ [])
    (is_form (substituted not_second_alone (single 0 Zero)) (unit_not 1) (omega arith, omega arith, tt) (λ set. omega (arith, ints)) refl)
    (record { rises = (omega arith, omega arith, tt); terms = refl; degree = refl }) refl refl)

none_at_zero : (d : NormalConstraint) → fin.get (falling set.empty).live 0 ≡ Some d → ⊥
none_at_zero d is = let same : None ≡ Some d = sym (found_at live 0) ∙ is in absurd (cc)

abbrev Shown : NormalConstraint → Type 0
Shown d = IsShownUnder (constraints (falling set.empty)) (single 0 Zero) d

before_first : (j : ℕ) (d : NormalConstraint) → j < 1 → IsUnopened (falling_block set.empty) j → fin.get (falling set.empty).live j ≡ Some d → Shown d
before_first zero d less unopened is = absurd (none_at_zero d is)
before_first (suc j) d less unopened is = absurd (omega (arith, less))

first : IsStepFault cover_file (falling set.empty) End (GoalOpen 1)
first = (
  falling_block set.empty,
  refl,
  (omega arith, (cover, (omega arith, set.contains-empty nat_cmp 1), found_at live 1, first_open, before_first)),
)

pub returns-clause-first : goal.returns-clause-first
returns-clause-first c = first

pub returns-clause-not_second : goal.returns-clause-not_second
returns-clause-not_second c h =
    let same : GoalOpen 1 ≡ GoalOpen 2 = one_step_fault cover_file (falling set.empty) End (GoalOpen 1) (GoalOpen 2) first h in
    let ids : ◌≡◌ {A = ℕ} 1 2 = cc in absurd (omega (arith, ids))

abbrev one : set.FinSet nat_cmp
one = set.insert set.empty 1

holds : (q : ℕ) → (set.contains one q ≡ (eq_by_cmp nat_cmp q 1 || set.contains (set.empty {R = nat_cmp}) q))
holds q = set.contains-insert nat_cmp_total set.empty 1 q

before_second : (j : ℕ) (d : NormalConstraint) → j < 2 → IsUnopened (falling_block one) j → fin.get (falling one).live j ≡ Some d → Shown d
before_second zero d less unopened is = absurd (none_at_zero d is)
before_second (suc zero) d less unopened is = absurd (false≢true (sym unopened.1 ∙ holds 1))
before_second (suc (suc j)) d less unopened is = absurd (omega (arith, less))

second : IsStepFault cover_file (falling one) End (GoalOpen 2)
second = (
  falling_block one,
  refl,
  (omega arith, (not_second_alone, (omega arith, holds 2 ∙ set.contains-empty nat_cmp 2), found_at live 2, second_open, before_second)),
)

pub returns-clause-second : goal.returns-clause-second
returns-clause-second c = second

pub returns-clause-not_first : goal.returns-clause-not_first
returns-clause-not_first c h =
    let same : GoalOpen 2 ≡ GoalOpen 1 = one_step_fault cover_file (falling one) End (GoalOpen 2) (GoalOpen 1) second h in
    let ids : ◌≡◌ {A = ℕ} 2 1 = cc in absurd (omega (arith, ids))

pub returns-clause-full : goal.returns-clause-full
returns-clause-full c = (falling_block set.empty, refl, λ room. omega (arith, room))
