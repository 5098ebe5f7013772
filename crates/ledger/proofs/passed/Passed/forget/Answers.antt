-- What was noted in earlier rounds says nothing.
use Rattle.std.proofs.Common.{arith}
use Rattle.ledger.proofs.Notes.{forgotten}
use Rattle.ledger.proofs.passed.Passed.forget.Goals as goal

pub returns-in-Some : goal.returns-in-Some
returns-in-Some c = forgotten c.self.inside.round c.in-Some.round c.self.inside.notes.items c.self.invariant (omega (arith, c.in-Some.ensures))
