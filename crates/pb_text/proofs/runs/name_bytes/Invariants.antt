use Rattle.std.proofs.Common.{length}
use Rattle.pb_text.specs.Name.{continues_name}
use Rattle.pb_text.specs.Scan.{IsRun}
use Rattle.pb_text.proofs.runs.name_bytes.Given as goal

abbrev pub invariant-loop-b : goal.invariant-loop-b
invariant-loop-b l = IsRun continues_name l.size l.text l.rest

abbrev pub decreases-loop-b : goal.decreases-loop-b
decreases-loop-b l = length l.rest
