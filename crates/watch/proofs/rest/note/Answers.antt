-- Nothing was forced any more.
use Rattle.std.proofs.Common.{ℕ, [], ◌∷◌, subst, sym}
use Rattle.ledger.specs.Ledgers.{shown}
use Rattle.watch.specs.Keeping.{AreSettled}
use Rattle.watch.proofs.Resting.{rest_here}
use Rattle.watch.proofs.rest.note.Goals as goal

pub returns-then-is_empty : goal.returns-then-is_empty
returns-then-is_empty c =
    let s = c.args.ledger.now in
    subst (λ (h : ℕ). AreSettled (shown s.slots) s.propagated (h ∷ []) (c.count.result ∷ [])) (sym c.len.ensures.value)
    (rest_here s.slots s.propagated s.assigned c.count.result c.requires.propagated c.requires.fixpoint c.count.ensures)
