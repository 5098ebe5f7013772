use Rattle.std.proofs.Common.{[], ◌∷◌, refl, sym, subst, arith}
use Rattle.propagate.specs.Cases.{x, not_x, unit, unit_not}
use Rattle.proof_rules.specs.Cases.{cover, cover_written, cover_start}
use Rattle.proof_rules.specs.Shown.{IsShown}
use Rattle.proof_rules.specs.State.{constraints}
use Rattle.proof_rules.proofs.NotLegal.{one_admitted}
use Rattle.proof_rules.proofs.ShownBySearch.{not_shown}
use Rattle.proof_rules.proofs.SmallStates.{live_of, cover_shown}
use Rattle.proof_rules.proofs.SmallConstraints.{first_admitted, cover_admitted}
use Rattle.proof_rules.proofs.step_fault_cases.constraints_at_fault.Goals as goal

pub returns-clause-open : goal.returns-clause-open
returns-clause-open c = (
  unit 0,
  first_admitted,
  omega arith,
  subst (λ live. IsShown live (unit 0) → ⊥) (sym (live_of (cover ∷ [])))
      (not_shown 4 (cover ∷ []) (unit 0) (unit_not 0) (not_x 0 ∷ x 1 ∷ []) (record { rises = (omega arith, omega arith, tt); terms = refl; degree = refl }) refl refl),
)

pub returns-clause-shown : goal.returns-clause-shown
returns-clause-shown c (n, admitted, room, not) =
    not (subst (IsShown (constraints cover_start)) (one_admitted cover_written cover n cover_admitted admitted) cover_shown)
