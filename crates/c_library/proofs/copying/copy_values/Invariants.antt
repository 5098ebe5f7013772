use Rattle.std.proofs.Common.{◌≡◌, length, ℕ, ◌<◌, false, slice_index_or}
use Rattle.c_library.specs.Reports.{byte_of}
use Rattle.c_library.proofs.copying.copy_values.Given as goal

-- the values before this place are written
abbrev pub invariant-loop-at : goal.invariant-loop-at
invariant-loop-at l =
    (length l.buffer ≡ length l.fn.buffer)
    × ((i : ℕ) → i < l.at → slice_index_or l.buffer i 0 ≡ byte_of (slice_index_or l.values i false))
