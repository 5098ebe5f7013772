use Rattle.std.proofs.Common.{pos, ℤ, None, Some, Option, ap, arith}
use Rattle.std.proofs.lemmas.Int.{ints}
use Rattle.pb_main.proofs.cases.improved_to_the_worth.Goals as goal

value_or_zero : Option ℤ → ℤ
value_or_zero None = pos 0
value_or_zero (Some value) = value

pub returns-clause-rising : goal.returns-clause-rising
returns-clause-rising c improved = let less = improved.0.0 0 (pos 0) (omega arith) in omega (arith, ints, less)

pub returns-clause-not_reached : goal.returns-clause-not_reached
unfolding value_or_zero
returns-clause-not_reached c improved = omega (arith, ints, ap value_or_zero improved.1)
