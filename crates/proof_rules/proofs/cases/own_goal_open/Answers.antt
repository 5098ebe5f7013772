use Rattle.std.proofs.Common.{◌≡◌, [], ◌∷◌, Bool, true, false, if◌then◌else◌, pos, negsuc, ◌+ℤ◌, refl, subst, arith}
use Rattle.normal_form.specs.Balance.{Balances}
use Rattle.normal_form.specs.Cases.{normal}
use Rattle.normal_form.proofs.NormalForm.{is_form, one_form}
use Rattle.propagate.specs.Cases.{x, not_x, unit, unit_not}
use Rattle.substitution.specs.Cases.{single, to_negated}
use Rattle.substitution.specs.Under.{substituted, IsUnder}
use Rattle.proof_rules.specs.Cases.{first_or_second}
use Rattle.proof_rules.specs.Shown.{IsShown}
use Rattle.proof_rules.proofs.ShownHolds.{zero_shown}
use Rattle.proof_rules.proofs.ShownBySearch.{not_shown}
use Rattle.proof_rules.proofs.cases.own_goal_open.Goals as goal

-- `1 ~x2 1 x2` adds nothing to a set of variables, whether x2 is in it or not
opposites : (b : Bool) → pos 0 ≡ (if b then negsuc 0 else pos 0) +ℤ ((if b then pos 1 else pos 0) +ℤ pos 0)
opposites true = refl
opposites false = refl

cancels : Balances (substituted first_or_second (single 1 (to_negated 2))).terms []
cancels set = opposites (set 2)

pub returns-clause-live : goal.returns-clause-live
returns-clause-live c = (
  normal [] 0,
  is_form (substituted first_or_second (single 1 (to_negated 2))) (normal [] 0) tt cancels refl,
  zero_shown (first_or_second ∷ unit_not 1 ∷ []) (normal [] 0) tt refl,
)

under : IsUnder (unit 1) (single 1 (to_negated 2)) (unit_not 2)
under = is_form (substituted (unit 1) (single 1 (to_negated 2))) (unit_not 2) (omega arith, omega arith, tt) (λ set. refl) refl

pub returns-clause-itself : goal.returns-clause-itself
returns-clause-itself c (r, form, shown) =
    let same : r ≡ unit_not 2 = one_form (substituted (unit 1) (single 1 (to_negated 2))) r (unit_not 2) form under in
    not_shown 4 (first_or_second ∷ unit_not 1 ∷ []) (unit_not 2) (unit 2) (not_x 1 ∷ x 2 ∷ []) (record { rises = (omega arith, omega arith, tt); terms = refl; degree = refl }) refl refl
    (subst (IsShown (first_or_second ∷ unit_not 1 ∷ [])) same shown)
