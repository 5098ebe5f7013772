use Rattle.std.proofs.Common.{◌≡◌, map, take}
use Rattle.search.specs.Presolving.{TriesAll, fixing}
use Rattle.search.proofs.presolving.fix.Given as goal

-- the literals so far were tried
abbrev pub invariant-loop-literal : goal.invariant-loop-literal
invariant-loop-literal g l = (l.log.problem ≡ l.initial.log.problem) × TriesAll (map fixing (take l.literal-index l.literals)) l.initial.log l.log
