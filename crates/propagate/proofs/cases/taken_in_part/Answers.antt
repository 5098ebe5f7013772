-- By looking at each place.
use Rattle.std.proofs.Common.{◌≡◌, ℕ, zero, suc, ◌<◌, [], ◌∷◌, None, get_or, arith, ap}
use Rattle.linear.specs.declared.term.Lit.{Lit}
use Rattle.propagate.specs.Cases.{x, decision}
use Rattle.propagate.proofs.cases.taken_in_part.Goals as goal

abbrev number : Lit → ℕ
number l = l.var.0

different : (j k : ℕ) → j < k → k ≡ j → ⊥
different j k low e = omega (arith, low, e)

pub returns-clause-without_first : goal.returns-clause-without_first
returns-clause-without_first c taken = different 1 3 (omega arith) (ap number taken.0)

-- x2 is at no place of a list that has x3 alone
at_no_place : (k : ℕ) → k < 1 → get_or (x 3 ∷ []) k (x 2) ≡ x 2 → ⊥
at_no_place zero low e = different 2 3 (omega arith) (ap number e)
at_no_place (suc k) low e = omega (arith, low)

pub returns-clause-not_asked : goal.returns-clause-not_asked
returns-clause-not_asked c taken =
    let there = taken.1 0 (decision (x 2) [] None) (omega arith) in
    at_no_place there.0 there.1 there.2
