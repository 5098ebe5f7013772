-- Lists that stand in one array, each in a span of it.
use Rattle.std.specs.Prelude.{ℕ, ◌+◌, ◌<◌, ◌≤◌, List, drop, length, slice_index_or, take}
use Rattle.linear.specs.declared.term.Lit.{Lit}
use Rattle.ledger.specs.declared.arena.Span.{Span}

-- what stands in a span
abbrev pub piece : List Lit → Span → List Lit
piece literals s = take s.len (drop s.start literals)

abbrev pub end_of : Span → ℕ
end_of s = s.start + s.len

-- spans of an array of so many: each ends within it, and before those behind it begin
pub record AreSpans (count : ℕ) (spans : List Span) : Type 0 where
  pub within : (k : ℕ) (d : Span) → k < length spans → end_of (slice_index_or spans k d) ≤ count
  pub apart : (i j : ℕ) (d e : Span) → i < j → j < length spans → end_of (slice_index_or spans i d) ≤ (slice_index_or spans j e).start
