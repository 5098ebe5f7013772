use Rattle.std.proofs.Common.{◌≡◌, ◌++◌, take, All}
use Rattle.std.specs.List.{flat_map}
use Rattle.proof_text.specs.Steps.{IsProper}
use Rattle.proof_write.specs.Growth.{Extends}
use Rattle.proof_write.specs.Whole.{step_line}
use Rattle.proof_write.proofs.whole.step_lines.Given as goal

abbrev pub invariant-loop-step : goal.invariant-loop-step
invariant-loop-step l =
    (l.out.items ≡ l.fn.out.items ++ flat_map (step_line l.names) (take l.step-index l.steps))
    × All IsProper (take l.step-index l.steps) × Extends l.fn.out.items l.out.items
