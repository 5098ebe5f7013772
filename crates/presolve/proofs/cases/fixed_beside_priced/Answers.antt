-- The form of the constraint has both variables, and neither negation.
use Rattle.std.proofs.Common.{[], true, false, arith}
use Rattle.std.proofs.lemmas.Bool.{false≢true}
use Rattle.std.proofs.lemmas.Int.{ints}
use Rattle.std.proofs.lemmas.List.Elements.{All-nil, All-cons, All-head}
use Rattle.normal_form.proofs.NormalForm.{form, form_is}
use Rattle.presolve.specs.Cases.{one_of_two}
use Rattle.presolve.specs.Standing.{IsAbsent}
use Rattle.presolve.proofs.cases.fixed_beside_priced.Goals as goal

pub returns-clause-free : goal.returns-clause-free
returns-clause-free c =
    record {
      fixable = record {
        variable = omega arith;
        opposite = All-cons (IsAbsent 0 true) one_of_two [] (λ n f. f.negated 0) (All-nil (IsAbsent 0 true));
        objective = omega (arith, ints);
      };
      first = λ e other. false≢true e;
    }

pub returns-clause-costs : goal.returns-clause-costs
returns-clause-costs c f = omega (arith, ints, f.objective)

pub returns-clause-needed : goal.returns-clause-needed
returns-clause-needed c f = omega (arith, All-head (IsAbsent 0 false) one_of_two [] f.opposite (form one_of_two) (form_is one_of_two), (form_is one_of_two).plain 0)

pub returns-clause-needed_too : goal.returns-clause-needed_too
returns-clause-needed_too c f = omega (arith, All-head (IsAbsent 1 false) one_of_two [] f.opposite (form one_of_two) (form_is one_of_two), (form_is one_of_two).plain 1)
