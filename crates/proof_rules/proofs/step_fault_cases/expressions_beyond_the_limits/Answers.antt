use Rattle.std.proofs.Common.{◌≡◌, ℕ, ◌+◌, ◌^◌, Bool, true, false, if◌then◌else◌, ℤ, pos, ◌+ℤ◌, List, [], ◌∷◌, refl, arith}
use Rattle.std.proofs.lemmas.Int.{ints}
use Rattle.normal_form.specs.Cases.{plain, normal}
use Rattle.normal_form.specs.Normal.{NormalConstraint}
use Rattle.cut_rules.specs.Rules.{IsSum, IsMultiple}
use Rattle.cut_rules.proofs.OneOperand.{multiple_from}
use Rattle.cut_rules.proofs.Sum.{sum_from}
use Rattle.proof_steps.specs.declared.step.Item.{Item}
use Rattle.proof_steps.specs.declared.step.Item.TheVariants.{Id, Add, Multiply}
use Rattle.proof_steps.specs.declared.step.Step.TheVariants.{Pol}
use Rattle.proof_rules.specs.declared.fault.StepFault.TheVariants.{TooLarge, DeadId}
use Rattle.proof_rules.specs.Cases.{cover_file, cover, cover_start}
use Rattle.proof_rules.specs.Expression as expressions
use Rattle.proof_rules.specs.Fault.{IsPolFault}
use Rattle.proof_rules.specs.Legal.{LegalPol}
use Rattle.proof_rules.specs.Running.{Runs}
use Rattle.proof_rules.specs.State.{constraint_of, with_constraint}
use Rattle.proof_rules.proofs.NotLegal.{step_never}
use Rattle.proof_rules.proofs.OnePolFault.{one_pol_fault}
use Rattle.proof_rules.proofs.SmallStates.{found_in}
use Rattle.proof_rules.proofs.step_fault_cases.expressions_beyond_the_limits.Goals as goal

-- `1 x0 1 x1 >= 1` times a factor, and that with itself added
abbrev times : ℕ → NormalConstraint
times k = normal (plain k 0 ∷ plain k 1 ∷ []) k

is_double_limit : IsMultiple (2 ^ 120) cover (times (2 ^ 120))
is_double_limit =
    multiple_from (2 ^ 120) cover (times (2 ^ 120)) (times (2 ^ 120)).terms (2 ^ 120) (omega arith, omega arith, (omega arith, omega arith, tt)) refl refl refl refl

is_limit : IsMultiple (2 ^ 119) cover (times (2 ^ 119))
is_limit =
    multiple_from (2 ^ 119) cover (times (2 ^ 119)) (times (2 ^ 119)).terms (2 ^ 119) (omega arith, omega arith, (omega arith, omega arith, tt)) refl refl refl refl

abbrev part : Bool → ℕ → ℤ
part b k = if b then pos k else pos 0

-- whether x0 is in a set, and x1
adds : (b d : Bool) → part b (2 ^ 119 + 1) +ℤ (part d (2 ^ 119 + 1) +ℤ pos 0) ≡ (part b (2 ^ 119) +ℤ (part d (2 ^ 119) +ℤ pos 0)) +ℤ (part b 1 +ℤ (part d 1 +ℤ pos 0))
adds true true = refl
adds true false = refl
adds false true = refl
adds false false = refl

is_above : IsSum (times (2 ^ 119)) cover (times (2 ^ 119 + 1))
is_above =
    sum_from (times (2 ^ 119)) cover (times (2 ^ 119 + 1)) (times (2 ^ 119 + 1)).terms (2 ^ 119 + 1) (omega arith, omega arith, (omega arith, omega arith, tt))
    (λ set. adds (set 0) (set 1)) refl refl refl

cites : Runs (constraint_of cover_start) (Id (pos 1) ∷ []) [] (cover ∷ [])
cites = (cover ∷ [], (cover, found_in (cover ∷ []) 1, refl), refl)

too_large : (behind : List Item) → IsPolFault cover_start (Id (pos 1) ∷ Multiply (pos (2 ^ 120)) ∷ behind) TooLarge
too_large behind = (
  Id (pos 1) ∷ [],
  Multiply (pos (2 ^ 120)),
  behind,
  cover ∷ [],
  refl,
  cites,
  (cover, [], times (2 ^ 120), refl, omega (arith, ints), record { given = is_double_limit; breaks = λ fits. omega (arith, fits.sum) }),
)

pub returns-clause-multiple : goal.returns-clause-multiple
returns-clause-multiple c = too_large []

legal : LegalPol cover_start (Id (pos 1) ∷ Multiply (pos (2 ^ 119)) ∷ []) (with_constraint (times (2 ^ 119)) cover_start)
legal = (
  times (2 ^ 119),
  (
    expressions.multiple (pos (2 ^ 119)) (expressions.cited (pos 1)),
    refl,
    (cover, omega (arith, ints), found_in (cover ∷ []) 1, is_limit, record { sum = omega arith; degree = omega arith }),
  ),
  (omega arith, refl),
)

pub returns-clause-at_the_limit : goal.returns-clause-at_the_limit
returns-clause-at_the_limit c h =
    step_never cover_file cover_start (Pol (Id (pos 1) ∷ Multiply (pos (2 ^ 119)) ∷ [])) TooLarge (with_constraint (times (2 ^ 119)) cover_start) h legal

pub returns-clause-sum : goal.returns-clause-sum
returns-clause-sum c = (
  Id (pos 1) ∷ Multiply (pos (2 ^ 119)) ∷ Id (pos 1) ∷ [],
  Add,
  [],
  cover ∷ times (2 ^ 119) ∷ [],
  refl,
  (
    cover ∷ [],
    (cover, found_in (cover ∷ []) 1, refl),
    (
      times (2 ^ 119) ∷ [],
      (cover, times (2 ^ 119), [], refl, omega (arith, ints), is_limit, record { sum = omega arith; degree = omega arith }, refl),
      (cover ∷ times (2 ^ 119) ∷ [], (cover, found_in (cover ∷ []) 1, refl), refl),
    ),
  ),
  (times (2 ^ 119), cover, [], times (2 ^ 119 + 1), refl, record { given = is_above; breaks = λ fits. omega (arith, fits.sum) }),
)

pub returns-clause-first_item : goal.returns-clause-first_item
returns-clause-first_item c = too_large (Id (pos 9) ∷ [])

pub returns-clause-not_dead : goal.returns-clause-not_dead
returns-clause-not_dead c h =
    let same : TooLarge ≡ DeadId = one_pol_fault cover_start (Id (pos 1) ∷ Multiply (pos (2 ^ 120)) ∷ Id (pos 9) ∷ []) TooLarge DeadId (too_large (Id (pos 9) ∷ [])) h in
    absurd (cc)
