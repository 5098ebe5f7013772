use Rattle.std.proofs.Common.{◌≡◌, Bool, true, false, if◌then◌else◌, pos, negsuc, ◌+ℤ◌, List, [], ◌∷◌, Some, None, refl, sym, subst, ◌∙◌, arith}
use Rattle.std.specs.FinMap as fin
use Rattle.std.specs.FinSet as set
use Rattle.std.proofs.lemmas.Bool.{false≢true}
use Rattle.std.proofs.lemmas.Cmp.{nat_cmp_total}
use Rattle.std.proofs.lemmas.Int.{ints}
use Rattle.linear.specs.declared.term.Term.{Term}
use Rattle.linear.specs.Opb.{Opb}
use Rattle.normal_form.specs.Cases.{normal}
use Rattle.normal_form.specs.Normal.{NormalConstraint}
use Rattle.normal_form.proofs.NormalForm.{is_form}
use Rattle.proof_steps.specs.declared.step.GoalName.{GoalName}
use Rattle.proof_steps.specs.declared.step.GoalName.TheVariants.{Itself, Objective}
use Rattle.proof_steps.specs.declared.step.Step.TheVariants.{Goal}
use Rattle.substitution.specs.Objective.{not_raised}
use Rattle.proof_rules.specs.Block.{Asks}
use Rattle.proof_rules.specs.BlockCases.{exchange, rising_block, not_exchanged, exchange_block, first_opened, begun, own_goal, begun_later, live_closed}
use Rattle.proof_rules.specs.Cases.{cover_file, least_cover, min_both, cover}
use Rattle.proof_rules.specs.State.{State, Block}
use Rattle.proof_rules.specs.declared.fault.StepFault.TheVariants.{GoalUnknown}
use Rattle.proof_rules.proofs.BlockSteps.{become, own_under, own_opens}
use Rattle.proof_rules.proofs.NotLegal.{step_never}
use Rattle.proof_rules.proofs.SmallBlocks.{found_at}
use Rattle.proof_rules.proofs.block_cases.goals_unknown.Goals as goal

pub returns-clause-never_given : goal.returns-clause-never_given
returns-clause-never_given c = (exchange_block false None, refl, (refl, λ r ((less, apart), asks). absurd (omega (arith, less))))

pub returns-clause-of_the_block : goal.returns-clause-of_the_block
returns-clause-of_the_block c = (exchange_block false None, refl, (refl, λ r ((less, apart), asks). absurd (omega (arith, less))))

pub returns-clause-from_the_end : goal.returns-clause-from_the_end
returns-clause-from_the_end c = (exchange_block false None, refl, (refl, λ r ((less, apart), asks). absurd (omega (arith, less))))

gone : (e : NormalConstraint) → fin.get begun_later.live 1 ≡ Some e → ⊥
gone e is = let same : None ≡ Some e = sym (found_at ((2, cover) ∷ (3, not_exchanged) ∷ []) 1) ∙ is in absurd (cc)

pub returns-clause-deleted : goal.returns-clause-deleted
returns-clause-deleted c = (record (exchange_block false None) { first = 3 }, refl, (refl, λ r (unopened, (e, is, under)). gone e is))

no_objective : (terms : List Term) → cover_file.objective ≡ Some terms → ⊥
no_objective terms is = absurd (cc)

pub returns-clause-objective : goal.returns-clause-objective
returns-clause-objective c = (exchange_block false None, refl, (refl, λ r (unopened, (terms, is, under)). no_objective terms is))

pub returns-clause-own_again : goal.returns-clause-own_again
returns-clause-own_again c = (exchange_block true None, refl, (refl, λ r (unopened, under). false≢true (sym unopened)))

opened_before : set.contains (first_opened None).opened 1 ≡ true
opened_before = set.contains-insert nat_cmp_total set.empty 1 1

pub returns-clause-live_again : goal.returns-clause-live_again
returns-clause-live_again c = (first_opened None, refl, (refl, λ r ((less, apart), asks). false≢true (sym apart ∙ opened_before)))

pub returns-clause-own : goal.returns-clause-own
returns-clause-own c h = step_never cover_file begun (Goal Itself) GoalUnknown own_goal h own_opens

pub returns-clause-objective_again : goal.returns-clause-objective_again
returns-clause-objective_again c = (rising_block true true, refl, (refl, λ r (unopened, asks). false≢true (sym unopened)))

-- of the block that is open, a goal may be opened
known : (k j : Block) → Some k ≡ Some j → k ≡ j
known k j is = cc

may_open : (p : Opb) (s : State) (name : GoalName) (k j : Block) (r : NormalConstraint) → Some k ≡ Some j → Asks p s k name r → ((q : NormalConstraint) → Asks p s j name q → ⊥) → ⊥
may_open p s name k j r is asks unknown = unknown r (subst (λ i. Asks p s i name r) (known k j is) asks)

pub returns-clause-own_after_live : goal.returns-clause-own_after_live
returns-clause-own_after_live c (k, is, (none, unknown)) = may_open cover_file live_closed Itself (first_opened None) k become is (refl, own_under) unknown

-- a variable that stays adds nothing to a set, whether it is in it or not
stays : (b : Bool) → (if b then pos 1 else pos 0) +ℤ (if b then negsuc 0 else pos 0) ≡ pos 0
stays true = refl
stays false = refl

pub returns-clause-objective_there : goal.returns-clause-objective_there
returns-clause-objective_there c (k, is, (none, unknown)) =
    may_open least_cover begun Objective (exchange_block false None) k (normal [] 0) is
    (refl, (min_both, refl, is_form (not_raised min_both exchange) (normal [] 0) tt (λ set. omega (arith, ints, stays (set 0), stays (set 1))) refl)) unknown
