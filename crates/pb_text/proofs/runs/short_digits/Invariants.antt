use Rattle.std.proofs.Common.{◌∷◌, length, take}
use Rattle.pb_text.specs.Name.{is_digit}
use Rattle.pb_text.specs.Scan.{IsRun}
use Rattle.pb_text.specs.ShortName.{IsShort}
use Rattle.pb_text.proofs.runs.short_digits.Given as goal

abbrev pub invariant-loop-b : goal.invariant-loop-b
invariant-loop-b l = record {
  run : IsRun is_digit l.size l.text l.rest;
  number : IsShort (120 ∷ take l.size l.text) l.number;
}

abbrev pub decreases-loop-b : goal.decreases-loop-b
decreases-loop-b l = length l.rest
