use Rattle.std.proofs.Common.{pos, [], ◌∷◌, refl, arith}
use Rattle.proof_rules.specs.Cases.{cover}
use Rattle.proof_rules.specs.Expression.{cited}
use Rattle.proof_rules.proofs.SmallConstraints.{cover_admitted}
use Rattle.proof_rules.proofs.SmallStates.{found_in}
use Rattle.proof_rules.proofs.step_fault_cases.last_id.Goals as goal

pub returns-clause-legal : goal.returns-clause-legal
returns-clause-legal c = (cover, (cited (pos 1), refl, found_in (cover ∷ []) 1), (omega arith, refl))

pub returns-clause-not_full : goal.returns-clause-not_full
returns-clause-not_full c (n, value, full) = full (omega arith)

pub returns-clause-left : goal.returns-clause-left
returns-clause-left c (some, full) = full (omega arith)

pub returns-clause-none_left : goal.returns-clause-none_left
returns-clause-none_left c = ((cover, cover_admitted), λ room. omega (arith, room))
