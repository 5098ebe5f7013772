use Rattle.std.proofs.Common.{◌≡◌, ◌++◌, length}
use Rattle.std.specs.Slice.Iter.{chunks_rest, chunks_size}
use Rattle.solutions.specs.Packed.{packed_values}
use Rattle.solutions.proofs.packed.PackedAssignment.pack.Given as goal

-- the words so far, and the values that are left
abbrev pub invariant-loop-chunk : goal.invariant-loop-chunk
invariant-loop-chunk l =
    (goal.iterator-loop-chunk).can_next l.chunk-iterator
    × (goal.iterator-loop-chunk).is_finite l.chunk-iterator
    × (chunks_size l.chunk-iterator ≡ 64)
    × (packed_values l.words.items (length l.values) ++ chunks_rest l.chunk-iterator ≡ l.values)
