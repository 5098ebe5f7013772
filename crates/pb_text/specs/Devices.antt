-- What has come from a source or gone to a sink, as far as it tells, and how much one over memory moves at a call.
use Rattle.std.specs.Prelude.{◌≡◌, ◌<◌, ◌≤◌, ℕ, ◌+◌, ◌-◌, ◌==◌, Bool, true, Option, Some, None, List, [], ◌∷◌, ◌++◌, if◌then◌else◌, length, max}
use Rattle.pb_text.specs.declared.mem_source.Portion.{Portion}
use Rattle.pb_text.specs.declared.mem_source.Portion.TheVariants as portions

-- more bytes behind those before; who does not tell those, does not tell these
abbrev pub followed_by : Option (List ℕ) → List ℕ → Option (List ℕ)
followed_by (Some before) more = Some (before ++ more)
followed_by None more = None

-- Where a source stands: the bytes that it has given, or none where it does not tell them, as a file; the most bytes that it still
-- gives; whether nothing is left to give, as far as it tells; and how many pulls have failed.
pub record SourceState : Type 0 where
  pub given : Option (List ℕ)
  pub left : ℕ
  pub at_end : Bool
  pub failures : ℕ

-- these bytes are given to a buffer of this length; none are only at the end, or where the buffer is empty
pub record Gives (old new : SourceState) (room : ℕ) (bytes : List ℕ) : Type 0 where
  pub given : new.given ≡ followed_by old.given bytes
  pub left : length bytes + new.left ≤ old.left
  pub none : length bytes ≡ 0 → 0 < room → new.at_end ≡ true
  pub failures : new.failures ≡ old.failures

-- a pull fails: nothing is given, and it is counted
pub record FailsToGive (old new : SourceState) : Type 0 where
  pub given : new.given ≡ old.given
  pub left : new.left ≤ old.left
  pub failures : new.failures ≡ old.failures + 1

-- Where a sink stands: the bytes that it has taken, or none where it does not tell them; and how many pushes have failed.
pub record SinkState : Type 0 where
  pub taken : Option (List ℕ)
  pub failures : ℕ

-- these bytes are taken from the front of a piece, at least one where it is not empty
pub record Takes (old new : SinkState) (piece bytes : List ℕ) : Type 0 where
  pub taken : new.taken ≡ followed_by old.taken bytes
  pub some : 0 < length piece → 0 < length bytes
  pub failures : new.failures ≡ old.failures

-- a push fails: nothing is taken, and it is counted
pub record FailsToTake (old new : SinkState) : Type 0 where
  pub taken : new.taken ≡ old.taken
  pub failures : new.failures ≡ old.failures + 1

-- how many bytes the first line of a text has, its LF included
abbrev pub line_length : List ℕ → ℕ
line_length [] = 0
line_length (b ∷ rest) = if b == 10 then 1 else 1 + line_length rest

-- how many of the bytes that are left are given at once, where there is room for all of them
abbrev pub portion_of : Portion → List ℕ → ℕ
portion_of portions.All left = length left
portion_of (portions.Bytes most) left = max most 1
portion_of portions.Line left = line_length left

-- one call fewer comes before the one that fails
abbrev pub one_less : Option ℕ → Option ℕ
one_less (Some calls) = Some (calls - 1)
one_less None = None
