-- Nothing has changed, and what the constraints that are no more to be judged become is shown.
use Rattle.std.proofs.Common.{◌≡◌, ◌++◌}
use Rattle.std.specs.FinMap as map
use Rattle.std.specs.FinSet as set
use Rattle.kernel.proofs.TouchedJudged.{IsJudging}
use Rattle.kernel.proofs.redundance.judge_live.Given as goal

abbrev pub decreases-loop-id : goal.decreases-loop-id
decreases-loop-id g l = set.len l.touched

abbrev pub invariant-loop-id : goal.invariant-loop-id
invariant-loop-id g l =
    (l.database ≡ l.fn.database)
    × (l.beside.items ≡ l.fn.beside.items)
    × IsJudging l.fn.database.live l.fn.end l.fn.opened (map.values l.fn.database.live ++ l.fn.beside.items) l.fn.witness l.touched
