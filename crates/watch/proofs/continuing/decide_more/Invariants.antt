-- What was decided so far is traced, and the trail stands on it.
use Rattle.std.proofs.Common.{◌≡◌, ◌++◌, List}
use Rattle.propagate.specs.declared.trace.Decided.{Decided}
use Rattle.watch.specs.Keeping.{IsKept}
use Rattle.watch.proofs.Underlying.{Decides}
use Rattle.watch.proofs.continuing.decide_more.Given as goal

abbrev pub invariant-loop-literal : goal.invariant-loop-literal
invariant-loop-literal l = record {
  slots : l.ledger.slots ≡ l.initial.ledger.slots;
  variables : l.ledger.variables ≡ l.initial.ledger.variables;
  kept : IsKept l.ledger l.levels l.queue.0 l.queue.1;
  rest : List Decided;
  taken : l.decided.items ≡ l.initial.decided.items ++ rest;
  decides : Decides l.more l.ids l.initial.ledger l.ledger rest;
}
