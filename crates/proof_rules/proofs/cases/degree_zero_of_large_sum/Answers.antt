use Rattle.std.proofs.Common.{◌^◌, [], ◌∷◌, refl, arith}
use Rattle.normal_form.specs.Cases.{negated, normal}
use Rattle.proof_rules.specs.Cases.{first_or_second}
use Rattle.proof_rules.proofs.ShownHolds.{zero_shown}
use Rattle.proof_rules.proofs.cases.degree_zero_of_large_sum.Goals as goal

pub returns-clause-shown : goal.returns-clause-shown
returns-clause-shown c = zero_shown (first_or_second ∷ []) (normal (negated (2 ^ 120) 1 ∷ []) 0) (omega arith, omega arith, tt) refl
