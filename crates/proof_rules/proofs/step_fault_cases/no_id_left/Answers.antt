use Rattle.std.proofs.Common.{pos, [], ◌∷◌, None, refl, arith}
use Rattle.propagate.specs.Cases.{unit}
use Rattle.proof_rules.specs.Cases.{cover}
use Rattle.proof_rules.specs.Expression.{cited}
use Rattle.proof_rules.proofs.SmallStates.{found_in, none_left}
use Rattle.proof_rules.proofs.SmallConstraints.{first_admitted, cover_admitted}
use Rattle.proof_rules.proofs.step_fault_cases.no_id_left.Goals as goal

pub returns-clause-shown : goal.returns-clause-shown
returns-clause-shown c = ((cover, cover_admitted), none_left None)

pub returns-clause-open : goal.returns-clause-open
returns-clause-open c = ((unit 0, first_admitted), none_left None)

pub returns-clause-not_open : goal.returns-clause-not_open
returns-clause-not_open c (n, admitted, room, not) = none_left None room

pub returns-clause-expression : goal.returns-clause-expression
returns-clause-expression c = (cover, (cited (pos 1), refl, found_in (cover ∷ []) 1), none_left None)

pub returns-clause-large : goal.returns-clause-large
returns-clause-large c n admitted = omega (arith, admitted.sizes)

pub returns-clause-not_large : goal.returns-clause-not_large
returns-clause-not_large c ((n, admitted), room) = omega (arith, admitted.sizes)
