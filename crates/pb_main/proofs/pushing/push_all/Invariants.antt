use Rattle.std.proofs.Common.{length, ◌-◌, ◌≤◌, take}
use Rattle.pb_main.specs.Pushed.{HasTaken}
use Rattle.pb_main.proofs.pushing.push_all.Given as goal

-- the bytes before were taken, each once
abbrev pub invariant-loop-taken : goal.invariant-loop-taken
invariant-loop-taken g l =
    (l.taken ≤ length l.bytes) × HasTaken (take l.taken l.bytes) (g.S.Sink.state l.fn.sink) (g.S.Sink.state l.sink)

abbrev pub decreases-loop-taken : goal.decreases-loop-taken
decreases-loop-taken g l = length l.bytes - l.taken
