-- By what is found under each id.
use Rattle.std.proofs.Common.{◌≡◌, None, Some, sym, ◌∙◌, arith}
use Rattle.propagate.specs.Cases.{one_of_two, unit_not}
use Rattle.propagate.proofs.SmallContent.{found, not_found}
use Rattle.propagate.proofs.cases.least_above.Goals as goal

pub returns-clause-first : goal.returns-clause-first
returns-clause-first c =
    (omega arith, (one_of_two, found 2), λ k above below. not_found k (λ e. omega (arith, e, below)) (λ e. omega (arith, e, below)))

pub returns-clause-second : goal.returns-clause-second
returns-clause-second c =
    (omega arith, (unit_not 2, found 5), λ k above below. not_found k (λ e. omega (arith, e, above)) (λ e. omega (arith, e, below)))

pub returns-clause-last : goal.returns-clause-last
returns-clause-last c = λ k above. not_found k (λ e. omega (arith, e, above)) (λ e. omega (arith, e, above))

pub returns-clause-passed_over : goal.returns-clause-passed_over
returns-clause-passed_over c least = by (sym (found 2) ∙ least.2 2 (omega arith) (omega arith))
  where
    by : Some one_of_two ≡ None → ⊥
    by e = cc

pub returns-clause-left : goal.returns-clause-left
returns-clause-left c none = by (sym (found 5) ∙ none 5 (omega arith))
  where
    by : Some (unit_not 2) ≡ None → ⊥
    by e = cc
