use Rattle.std.proofs.Common.{◌≡◌, ◌+◌, ◌*◌, ◌^◌, ◌≤◌, true, length}
use Rattle.std.specs.List.{list_all}
use Rattle.pb_text.specs.Name.{is_digit}
use Rattle.pb_text.specs.Number.{digits_value, largest_number}
use Rattle.pb_text.proofs.number.long_size.Given as goal

abbrev pub invariant-loop-b : goal.invariant-loop-b
invariant-loop-b l = record {
  digits : list_all is_digit l.rest ≡ true;
  value : l.value * 10 ^ length l.rest + digits_value l.rest ≡ digits_value l.digits;
  small : l.value ≤ largest_number;
}

abbrev pub decreases-loop-b : goal.decreases-loop-b
decreases-loop-b l = length l.rest
