use Rattle.std.proofs.Common.{◌≡◌, ◌≤◌, length, ◌+◌}
use Rattle.pb_text.specs.Devices.{line_length}
use Rattle.pb_text.proofs.mem_source.first_line.Given as goal

-- what is passed and the first line of what is left are the first line
abbrev pub invariant-loop-rest : goal.invariant-loop-rest
invariant-loop-rest l = (line_length l.rest + length l.fn.text ≡ line_length l.fn.text + length l.rest) × (length l.rest ≤ length l.fn.text)

abbrev pub decreases-loop-rest : goal.decreases-loop-rest
decreases-loop-rest l = length l.rest
