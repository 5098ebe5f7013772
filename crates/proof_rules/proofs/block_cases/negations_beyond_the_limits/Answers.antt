use Rattle.std.proofs.Common.{◌≡◌, ℕ, ◌+◌, ◌^◌, pos, inl, List, [], ◌∷◌, None, refl, sym, subst, arith}
use Rattle.std.specs.FinSet as set
use Rattle.std.specs.Ordering.{nat_cmp}
use Rattle.std.proofs.lemmas.Int.{ints}
use Rattle.std.proofs.lemmas.List.Elements.{All-nil, All-cons}
use Rattle.normal_form.specs.Cases.{negated, normal}
use Rattle.normal_form.specs.Negation.{IsNegation}
use Rattle.normal_form.specs.Normal.{NormalConstraint, Fits}
use Rattle.normal_form.proofs.Negations.{negation_from}
use Rattle.normal_form.proofs.NormalForm.{is_form, one_form}
use Rattle.propagate.specs.Cases.{unit_not}
use Rattle.propagate.proofs.AnyOf.{any_here}
use Rattle.proof_steps.specs.declared.step.GoalName.TheVariants.{Live}
use Rattle.proof_steps.specs.declared.step.Step.TheVariants.{Goal}
use Rattle.substitution.specs.Covering.{Covers}
use Rattle.substitution.specs.Under.{substituted, IsUnder}
use Rattle.substitution.proofs.Covered.{covers_itself}
use Rattle.proof_rules.specs.Block.{Asks}
use Rattle.proof_rules.specs.BlockCases.{full, heavy_written, heavy, heavy_block, beside_heavy}
use Rattle.proof_rules.specs.Cases.{cover_file, cover, cover_start, full_state}
use Rattle.proof_rules.specs.Fault.{IsStepFault, IsRedBeginFault}
use Rattle.proof_rules.specs.Redundant.{IsShownUnder, Redundant}
use Rattle.proof_rules.specs.Shown.{IsAdmitted}
use Rattle.proof_rules.specs.State.{State, id_limit}
use Rattle.proof_rules.specs.declared.fault.StepFault.TheVariants.{TooLarge, TooManyIds}
use Rattle.proof_rules.proofs.OneStepFault.{one_step_fault}
use Rattle.proof_rules.proofs.ShownHolds.{zero_shown}
use Rattle.proof_rules.proofs.SmallBlocks.{found_at}
use Rattle.proof_rules.proofs.SmallStates.{live_of}
use Rattle.proof_rules.proofs.block_cases.negations_beyond_the_limits.Goals as goal

-- 2^120 ~x0 >= 2^120 + 1
abbrev above : NormalConstraint
above = normal (negated (2 ^ 120) 0 ∷ []) (2 ^ 120 + 1)

heavy_negated : IsNegation heavy above
heavy_negated = negation_from heavy above (omega arith, omega arith, tt) refl refl

heavy_admitted : IsAdmitted heavy_written heavy
heavy_admitted = record {
  relation = refl;
  sizes = omega arith;
  form = is_form heavy_written heavy (omega arith, omega arith, tt) (λ set. omega (arith, ints)) refl;
  fits = record { sum = omega arith; degree = omega arith };
}

unfit : (m : NormalConstraint) → IsNegation heavy m → Fits m → ⊥
unfit m negated fits = let degree = negated.degree in let within = fits.degree in omega (arith, degree, within)

cover_same : (from : List NormalConstraint) → IsShownUnder (cover ∷ from) [] cover
cover_same from = (
  cover,
  is_form (substituted cover []) cover (omega arith, omega arith, (omega arith, omega arith, tt)) (λ set. omega (arith, ints)) refl,
  inl (any_here (λ e. Covers e cover) cover from (covers_itself cover)),
)

heavy_under : IsUnder heavy [] heavy
heavy_under = is_form (substituted heavy []) heavy (omega arith, omega arith, tt) (λ set. omega (arith, ints)) refl

redundant : Redundant cover_file (cover ∷ []) [] heavy above
redundant = record {
  negation = heavy_negated;
  each_live = All-cons (IsShownUnder (cover ∷ above ∷ []) []) cover [] (cover_same (above ∷ [])) (All-nil (IsShownUnder (cover ∷ above ∷ []) []));
  itself = (heavy, heavy_under, zero_shown (cover ∷ above ∷ []) heavy (omega arith, omega arith, tt) refl);
  objective = tt;
}

pub returns-clause-red : goal.returns-clause-red
returns-clause-red c = (
  refl,
  (heavy, above, heavy_admitted, subst (λ live. Redundant cover_file live [] heavy above) (sym (live_of (cover ∷ []))) redundant, (omega arith, refl)),
)

too_large : (s : State) → IsRedBeginFault s heavy_written TooLarge
too_large s n m admitted negated fits =
    unfit m (subst (λ x. IsNegation x m) (one_form heavy_written n heavy admitted.form heavy_admitted.form) negated) fits

pub returns-clause-begin : goal.returns-clause-begin
returns-clause-begin c = (refl, too_large cover_start)

pub returns-clause-begin_full : goal.returns-clause-begin_full
returns-clause-begin_full c = (refl, too_large (full_state None))

pub returns-clause-begin_not_ids : goal.returns-clause-begin_not_ids
returns-clause-begin_not_ids c (outside, ((n, m, admitted, negated, fits), room)) = too_large (full_state None) n m admitted negated fits

asks : (next : ℕ) → Asks cover_file (record beside_heavy { next = next }) heavy_block (Live (pos 1)) heavy
asks next = ((omega arith, set.contains-empty nat_cmp 1), (heavy, found_at ((1, heavy) ∷ (2, unit_not 0) ∷ []) 1, heavy_under))

pub returns-clause-goal : goal.returns-clause-goal
returns-clause-goal c = (heavy_block, refl, (refl, (heavy, asks 3, unfit)))

goal_large : IsStepFault cover_file (full beside_heavy) (Goal (Live (pos 1))) TooLarge
goal_large = (heavy_block, refl, (refl, (heavy, asks id_limit, unfit)))

pub returns-clause-goal_full : goal.returns-clause-goal_full
returns-clause-goal_full c = goal_large

pub returns-clause-goal_not_ids : goal.returns-clause-goal_not_ids
returns-clause-goal_not_ids c h =
    let same : TooLarge ≡ TooManyIds = one_step_fault cover_file (full beside_heavy) (Goal (Live (pos 1))) TooLarge TooManyIds goal_large h in
    absurd (cc)
