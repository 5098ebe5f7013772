-- The pair comes first behind what was there, and the literals so far stand behind it.
use Rattle.std.proofs.Common.{◌≡◌, List, ◌++◌}
use Rattle.linear.specs.declared.term.Lit.{Lit}
use Rattle.ledger.proofs.ClauseLists.{IsListing}
use Rattle.ledger.proofs.watched_first.append_literals.Given as goal

abbrev pub invariant-loop-index : goal.invariant-loop-index
invariant-loop-index l = (ls : List Lit) × (l.literals.items ≡ l.fn.literals.items ++ ls) × IsListing l.clause l.pair l.index ls
