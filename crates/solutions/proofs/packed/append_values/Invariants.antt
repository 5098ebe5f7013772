use Rattle.std.proofs.Common.{◌≡◌, ◌-◌, ◌≤◌, ◌++◌}
use Rattle.solutions.specs.Packed.{word_values}
use Rattle.solutions.proofs.packed.append_values.Given as goal

-- with the values that the rest of the word stands for, those of the word
abbrev pub invariant-loop : goal.invariant-loop
invariant-loop l = (l.counter ≤ l.count) × (l.values.items ++ word_values (l.count - l.counter) l.rest ≡ l.fn.values.items ++ word_values l.count l.word)
