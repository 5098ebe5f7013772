-- The steps of the worked cases of blocks: what they write, what it is negated to and becomes, and that it is shown or not.
use Rattle.std.proofs.Common.{◌≡◌, ℕ, zero, suc, ◌<◌, true, false, pos, neg_ℤ, inl, List, [], ◌∷◌, Some, None, refl, sym, subst, ◌∙◌, arith}
use Rattle.std.specs.Ordering.{nat_cmp}
use Rattle.std.specs.FinMap as fin
use Rattle.std.specs.FinSet as set
use Rattle.std.proofs.lemmas.Int.{ints}
use Rattle.normal_form.specs.Cases.{plain, negated, normal}
use Rattle.normal_form.specs.Negation.{IsNegation}
use Rattle.normal_form.specs.Normal.{NormalConstraint, Fits}
use Rattle.normal_form.proofs.Negations.{negation_from}
use Rattle.normal_form.proofs.NormalForm.{is_form}
use Rattle.propagate.proofs.AnyOf.{any_here}
use Rattle.proof_steps.specs.declared.step.GoalName.TheVariants.{Live, Itself}
use Rattle.proof_steps.specs.declared.step.Step.TheVariants.{RedBegin, Goal, End}
use Rattle.substitution.specs.Covering.{Covers}
use Rattle.substitution.specs.Under.{substituted, IsUnder}
use Rattle.substitution.proofs.Covered.{covers_itself}
use Rattle.proof_rules.specs.Block as block
use Rattle.proof_rules.specs.BlockCases.{exchange, exchanged_written, not_exchanged, not_become, exchange_block, begun, own_goal, own_closed, ended, neither, first_opened, live_goal, live_closed, block_state}
use Rattle.proof_rules.specs.Cases.{cover_file, cover, not_second_alone, cover_start}
use Rattle.proof_rules.specs.Legal.{Legal}
use Rattle.proof_rules.specs.Redundant.{IsShownUnder}
use Rattle.proof_rules.specs.Shown.{IsShown, IsAdmitted, absurdity}
use Rattle.proof_rules.specs.State.{constraints}
use Rattle.proof_rules.proofs.ShownBySearch.{shown_by_search}
use Rattle.proof_rules.proofs.SmallBlocks.{live_in, found_at, pushed, left, left_with}

pub exchanged_admitted : IsAdmitted exchanged_written not_second_alone
exchanged_admitted = record {
  relation = refl;
  sizes = omega arith;
  form = is_form exchanged_written not_second_alone (omega arith, omega arith, (omega arith, omega arith, tt)) (λ set. omega (arith, ints)) refl;
  fits = record { sum = omega arith; degree = omega arith };
}

pub exchanged_negated : IsNegation not_second_alone not_exchanged
exchanged_negated = negation_from not_second_alone not_exchanged (omega arith, omega arith, (omega arith, omega arith, tt)) refl refl

pub not_exchanged_fits : Fits not_exchanged
not_exchanged_fits = record { sum = omega arith; degree = omega arith }

-- what the new constraint becomes, and its negation
abbrev pub become : NormalConstraint
become = normal (negated 1 0 ∷ plain 1 1 ∷ []) 1

pub own_under : IsUnder not_second_alone exchange become
own_under = is_form (substituted not_second_alone exchange) become (omega arith, omega arith, (omega arith, omega arith, tt)) (λ set. omega (arith, ints)) refl

pub own_negated : IsNegation become not_become
own_negated = negation_from become not_become (omega arith, omega arith, (omega arith, omega arith, tt)) refl refl

pub cover_under : IsUnder cover exchange cover
cover_under = is_form (substituted cover exchange) cover (omega arith, omega arith, (omega arith, omega arith, tt)) (λ set. omega (arith, ints)) refl

pub cover_negated : IsNegation cover neither
cover_negated = negation_from cover neither (omega arith, omega arith, (omega arith, omega arith, tt)) refl refl

-- the goals, where they are not opened
abbrev pub in_block : List NormalConstraint
in_block = cover ∷ not_exchanged ∷ []

pub cover_kept : IsShownUnder in_block exchange cover
cover_kept = (cover, cover_under, inl (any_here (λ e. Covers e cover) cover (not_exchanged ∷ []) (covers_itself cover)))

pub own_kept : IsShownUnder in_block exchange not_second_alone
own_kept = (
  become,
  own_under,
  shown_by_search 3 in_block become not_become (record { rises = (omega arith, omega arith, (omega arith, omega arith, tt)); terms = refl; degree = refl }) refl,
)

-- red .. ; begin
pub begins : Legal cover_file cover_start (RedBegin exchanged_written exchange) begun
begins = (
  refl,
  (
    not_second_alone,
    not_exchanged,
    exchanged_admitted,
    exchanged_negated,
    not_exchanged_fits,
    omega arith,
    pushed ((1, cover) ∷ []) 2 (Some (exchange_block false None)) None not_exchanged refl,
  ),
)

-- proofgoal #1, and its end
pub own_opens : Legal cover_file begun (Goal Itself) own_goal
own_opens = (
  exchange_block false None,
  become,
  not_become,
  refl,
  refl,
  (refl, own_under),
  own_negated,
  record { sum = omega arith; degree = omega arith },
  omega arith,
  pushed ((1, cover) ∷ (2, not_exchanged) ∷ []) 3 (Some (exchange_block true (Some 3))) (Some (exchange_block false None)) not_become refl,
)

pub own_shown : IsShown (constraints own_goal) absurdity
own_shown =
    subst (λ live. IsShown live absurdity) (sym (live_in ((1, cover) ∷ (2, not_exchanged) ∷ (3, not_become) ∷ [])))
    (shown_by_search 4 (cover ∷ not_exchanged ∷ not_become ∷ []) absurdity (normal [] 0) (record { rises = tt; terms = refl; degree = refl }) refl)

pub own_closes : Legal cover_file own_goal End own_closed
own_closes = (
  exchange_block true (Some 3),
  refl,
  (own_shown, left 3 4 ((1, cover) ∷ (2, not_exchanged) ∷ (3, not_become) ∷ []) (Some (exchange_block true None)) (Some (exchange_block true (Some 3)))),
)

-- the end of the block, whatever of it was opened
in_block_shown : (n : NormalConstraint) → IsShownUnder in_block exchange n → IsShownUnder (constraints begun) exchange n
in_block_shown n h = subst (λ live. IsShownUnder live exchange n) (sym (live_in ((1, cover) ∷ (2, not_exchanged) ∷ []))) h

cover_alone : (id : ℕ) (e : NormalConstraint) → id < 2 → fin.get begun.live id ≡ Some e → cover ≡ e
cover_alone zero e less is = let same : None ≡ Some e = sym (found_at ((1, cover) ∷ (2, not_exchanged) ∷ []) 0) ∙ is in absurd (cc)
cover_alone (suc zero) e less is = let same : Some cover ≡ Some e = sym (found_at ((1, cover) ∷ (2, not_exchanged) ∷ []) 1) ∙ is in cc
cover_alone (suc (suc id)) e less is = absurd (omega (arith, less))

each_shown : (id : ℕ) (e : NormalConstraint) → id < 2 → fin.get begun.live id ≡ Some e → IsShownUnder (constraints begun) exchange e
each_shown id e less is = subst (IsShownUnder (constraints begun) exchange) (cover_alone id e less is) (in_block_shown cover cover_kept)

pub own_ends : Legal cover_file own_closed End ended
own_ends = (
  exchange_block true None,
  refl,
  record {
    room = omega arith;
    each_live = λ id e unopened is. each_shown id e unopened.0 is;
    itself = λ closed. in_block_shown not_second_alone own_kept;
    objective = λ closed. tt;
    becomes = left_with 2 4 ((1, cover) ∷ (2, not_exchanged) ∷ []) (Some (exchange_block true None)) not_second_alone refl;
  },
)

pub none_ends : Legal cover_file begun End (block_state ((1, cover) ∷ (3, not_second_alone) ∷ []) 4 None)
none_ends = (
  exchange_block false None,
  refl,
  record {
    room = omega arith;
    each_live = λ id e unopened is. each_shown id e unopened.0 is;
    itself = λ closed. in_block_shown not_second_alone own_kept;
    objective = λ closed. tt;
    becomes = left_with 2 3 ((1, cover) ∷ (2, not_exchanged) ∷ []) (Some (exchange_block false None)) not_second_alone refl;
  },
)

-- proofgoal 1, by either number, and its end
pub at_one : block.Asks cover_file begun (exchange_block false None) (Live (pos 1)) cover
at_one = ((omega arith, set.contains-empty nat_cmp 1), (cover, found_at ((1, cover) ∷ (2, not_exchanged) ∷ []) 1, cover_under))

neither_fits : Fits neither
neither_fits = record { sum = omega arith; degree = omega arith }

opened : live_goal ≡ block.with_block (first_opened (Some 3)) neither begun
opened = pushed ((1, cover) ∷ (2, not_exchanged) ∷ []) 3 (Some (first_opened (Some 3))) (Some (exchange_block false None)) neither refl

pub live_opens : Legal cover_file begun (Goal (Live (pos 1))) live_goal
live_opens = (exchange_block false None, cover, neither, refl, refl, at_one, cover_negated, neither_fits, omega arith, opened)

pub live_opens_from_end : Legal cover_file begun (Goal (Live (neg_ℤ (pos 2)))) live_goal
live_opens_from_end = (exchange_block false None, cover, neither, refl, refl, at_one, cover_negated, neither_fits, omega arith, opened)

pub live_shown : IsShown (constraints live_goal) absurdity
live_shown =
    subst (λ live. IsShown live absurdity) (sym (live_in ((1, cover) ∷ (2, not_exchanged) ∷ (3, neither) ∷ [])))
    (shown_by_search 4 (cover ∷ not_exchanged ∷ neither ∷ []) absurdity (normal [] 0) (record { rises = tt; terms = refl; degree = refl }) refl)

pub live_closes : Legal cover_file live_goal End live_closed
live_closes = (
  first_opened (Some 3),
  refl,
  (live_shown, left 3 4 ((1, cover) ∷ (2, not_exchanged) ∷ (3, neither) ∷ []) (Some (first_opened None)) (Some (first_opened (Some 3)))),
)

pub live_ends : Legal cover_file live_closed End ended
live_ends = (
  first_opened None,
  refl,
  record {
    room = omega arith;
    each_live = λ id e unopened is. each_shown id e unopened.0 is;
    itself = λ closed. in_block_shown not_second_alone own_kept;
    objective = λ closed. tt;
    becomes = left_with 2 4 ((1, cover) ∷ (2, not_exchanged) ∷ []) (Some (first_opened None)) not_second_alone refl;
  },
)
