-- So many noughts more, and room for the others.
use Rattle.std.proofs.Common.{◌≡◌, ◌+◌, ℕ, length, get_or}
use Rattle.ledger.proofs.counting.push_noughts.Given as goal

abbrev pub invariant-loop : goal.invariant-loop
invariant-loop l = record {
  same : (k : ℕ) → get_or l.numbers.items k 0 ≡ get_or l.initial.numbers.items k 0;
  count : length l.numbers.items ≡ length l.initial.numbers.items + l.counter;
  room : l.numbers.cap ≡ l.initial.numbers.cap;
}
