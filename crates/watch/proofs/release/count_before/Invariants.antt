-- None before has the reason and a variable of the terms so far.
use Rattle.std.proofs.Common.{◌≡◌, ◌<◌, ◌≤◌, ℕ, Some, None, get_or, length}
use Rattle.linear.specs.declared.term.Lit.{Lit}
use Rattle.ledger.specs.Ledgers.{shown, term_at}
use Rattle.watch.proofs.release.count_before.Given as goal

abbrev pub invariant-loop-index : goal.invariant-loop-index
invariant-loop-index l = record {
  few : l.count ≤ length l.ledger.assigned;
  none : (k j : ℕ) (d : Lit) → k < l.count → j < l.index → get_or l.ledger.reasons k None ≡ Some l.place → (get_or l.ledger.assigned k d).var.0 ≡ (term_at (shown l.ledger.slots) l.place j).var.0 → ⊥;
}
