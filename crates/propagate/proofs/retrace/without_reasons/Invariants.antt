-- The literals so far are told.
use Rattle.std.proofs.Common.{◌≡◌, map, take}
use Rattle.propagate.proofs.retrace.without_reasons.Given as goal

abbrev pub invariant-loop-literal : goal.invariant-loop-literal
invariant-loop-literal l = map (λ p. p.0) l.told.items ≡ take l.literal-index l.literals
