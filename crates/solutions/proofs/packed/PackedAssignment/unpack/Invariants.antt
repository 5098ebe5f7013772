use Rattle.std.proofs.Common.{◌≡◌, take}
use Rattle.solutions.specs.Packed.{packed_values}
use Rattle.solutions.proofs.packed.PackedAssignment.unpack.Given as goal

-- the values of the words so far
abbrev pub invariant-loop-word : goal.invariant-loop-word
invariant-loop-word l = l.values.items ≡ packed_values (take l.word-index l.self-inside.words.items) l.self-inside.length
