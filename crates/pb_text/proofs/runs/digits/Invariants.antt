use Rattle.std.proofs.Common.{◌≡◌, ◌<◌, ◌^◌, length, take}
use Rattle.pb_text.specs.Name.{is_digit}
use Rattle.pb_text.specs.Number.{digits_value}
use Rattle.pb_text.specs.Scan.{IsRun}
use Rattle.pb_text.proofs.runs.digits.Given as goal

abbrev pub invariant-loop-b : goal.invariant-loop-b
invariant-loop-b l = record {
  run : IsRun is_digit l.size l.text l.rest;
  value : l.value ≡ digits_value (take l.size l.text);
  small : l.value < 2 ^ 62;
}

abbrev pub decreases-loop-b : goal.decreases-loop-b
decreases-loop-b l = length l.rest
