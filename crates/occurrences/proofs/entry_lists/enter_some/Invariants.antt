-- The entries of the terms so far are there.
use Rattle.std.proofs.Common.{◌≡◌, length, take}
use Rattle.occurrences.specs.Occurrences.{HasMore, entries_of}
use Rattle.occurrences.proofs.entry_lists.enter_some.Given as goal

abbrev pub invariant-loop-index : goal.invariant-loop-index
invariant-loop-index l = record {
  same_length : length l.table ≡ length l.initial.table;
  more : HasMore (entries_of l.initial.table) l.table l.place (take l.index l.constraint.terms);
}
