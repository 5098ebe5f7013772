use Rattle.std.proofs.Common.{take, ◌∷◌}
use Rattle.linear.specs.ShortNames.{IsShort}
use Rattle.linear.proofs.short_names.number_of_digits.Given as goal

abbrev pub invariant-loop-digit : goal.invariant-loop-digit
invariant-loop-digit l = IsShort (120 ∷ take l.digit-index l.digits) l.number
