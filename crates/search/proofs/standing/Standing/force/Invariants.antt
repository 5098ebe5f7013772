-- The literals so far stand.
use Rattle.std.proofs.Common.{◌≡◌, map, take}
use Rattle.search.specs.Standing.{HasMore}
use Rattle.search.proofs.standing.Standing.force.Given as goal

abbrev pub invariant-loop-literal : goal.invariant-loop-literal
invariant-loop-literal l = HasMore l.initial.self l.self (map (λ p. p.0) (take l.literal-index l.forced)) × (l.self.count ≡ l.initial.self.count)
