-- The entries of the terms so far are taken off.
use Rattle.std.proofs.Common.{◌≡◌, ℕ, List, length, take, drop}
use Rattle.linear.specs.declared.term.Lit.{Lit}
use Rattle.occurrences.specs.declared.occurrence.Occurrence.{Occurrence}
use Rattle.occurrences.specs.Occurrences.{HasMore}
use Rattle.occurrences.proofs.entry_lists.leave.Given as goal

abbrev pub invariant-loop-index : goal.invariant-loop-index
invariant-loop-index l = record {
  same_length : length l.table ≡ length l.initial.table;
  fewer : (before : Lit → List Occurrence) (place : ℕ) → HasMore before l.initial.table place (take l.count l.constraint.terms)
      → HasMore before l.table place (drop l.index (take l.count l.constraint.terms));
}
