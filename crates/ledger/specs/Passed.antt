-- What a note of one round says in another one.
use Rattle.std.specs.Prelude.{ℕ, ◌==◌, cond}
use Rattle.ledger.specs.declared.passed.Note.{Note}

-- the count of a note, which holds in its own round alone
abbrev pub count_in : ℕ → Note → ℕ
count_in round note = cond (note.round == round) note.count 0
