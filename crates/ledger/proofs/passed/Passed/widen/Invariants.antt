-- What the notes say is as before.
use Rattle.std.proofs.Common.{◌≡◌, ◌≤◌, ℕ, All, get_or}
use Rattle.ledger.specs.declared.passed.Note.{Note}
use Rattle.ledger.proofs.Notes.{read_in}
use Rattle.ledger.proofs.passed.Passed.widen.Given as goal

abbrev pub invariant-loop : goal.invariant-loop
invariant-loop l = record {
  within : All (λ (n : Note). n.round ≤ l.self-inside.round) l.self-inside.notes.items;
  kept : (k : ℕ) → get_or (read_in l.self-inside.round l.self-inside.notes.items) k 0 ≡ get_or l.fn.self k 0;
}
