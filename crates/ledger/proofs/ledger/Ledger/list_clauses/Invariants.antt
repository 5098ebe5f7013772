-- One place more is listed in each step.
use Rattle.std.proofs.Common.{◌≡◌, ◌-◌, length}
use Rattle.ledger.proofs.ledger.Ledger.list_clauses.Given as goal

abbrev pub invariant-loop-self : goal.invariant-loop-self
invariant-loop-self l = l.self ≡ record l.fn.self { listed = l.self.listed }

abbrev pub decreases-loop-self : goal.decreases-loop-self
decreases-loop-self l = length l.self.slots - l.self.listed
