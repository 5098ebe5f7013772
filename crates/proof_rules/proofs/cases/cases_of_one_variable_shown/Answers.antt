use Rattle.std.proofs.Common.{[], ◌∷◌, refl, arith}
use Rattle.normal_form.specs.Cases.{plain, negated, normal}
use Rattle.propagate.specs.Cases.{unit, unit_not}
use Rattle.proof_rules.specs.Cases.{first_or_second}
use Rattle.proof_rules.proofs.ShownBySearch.{shown_by_search}
use Rattle.proof_rules.proofs.cases.cases_of_one_variable_shown.Goals as goal

pub returns : goal.returns
returns c =
    shown_by_search 3 (first_or_second ∷ normal (negated 1 1 ∷ plain 1 2 ∷ []) 1 ∷ []) (unit 2) (unit_not 2)
    (record { rises = (omega arith, omega arith, tt); terms = refl; degree = refl }) refl
