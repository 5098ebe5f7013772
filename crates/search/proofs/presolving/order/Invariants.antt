use Rattle.std.proofs.Common.{◌≡◌, map, take}
use Rattle.search.specs.Presolving.{TriesAll, swapping}
use Rattle.search.proofs.presolving.order.Given as goal

-- the pairs so far were tried
abbrev pub invariant-loop-swap : goal.invariant-loop-swap
invariant-loop-swap g l = (l.log.problem ≡ l.initial.log.problem) × TriesAll (map swapping (take l.swap-index l.swaps)) l.initial.log l.log
