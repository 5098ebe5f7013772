-- Lines that come from a source in pieces: what a buffer of them holds, and what a call does to it.
use Rattle.std.specs.Prelude.{◌≡◌, ◌+◌, ◌<◌, ◌≤◌, ◌⊎◌, ℕ, Bool, true, false, List, [], ◌∷◌, ◌++◌, length, take, drop}
use Rattle.pb_text.specs.Devices.{SourceState, followed_by}
use Rattle.proof_lines.specs.Lines.{Numbered, breaks, counting_from, has_no_break, onto}

-- The line that is lent and its number, the number of the line behind it, the bytes that came and are in no line yet, and
-- whether the source was seen to end.
pub record Buffered : Type 0 where
  pub line_number : ℕ
  pub text : List ℕ
  pub number : ℕ
  pub bytes : List ℕ
  pub ended : Bool

-- the line that is lent
abbrev pub lent : Buffered → Numbered
lent b = record { number = b.line_number; text = b.text }

-- the first line of a text has this length, without an LF; where it is shorter than the text, its LF stands there
pub record IsFirstLine (text : List ℕ) (size : ℕ) : Type 0 where
  pub inside : size ≤ length text
  pub unbroken : has_no_break (take size text) ≡ true
  pub ended : size < length text → drop size text ≡ 10 ∷ drop (size + 1) text

-- what a buffer keeps: the line that is lent begins at `start` and has this size; the next one begins at `next`, and of it, or of
-- all that came of it, the length is known
pub record IsHeld (bytes : List ℕ) (start size next known : ℕ) : Type 0 where
  pub fits : start + size ≤ length bytes
  pub inside : next ≤ length bytes
  pub first : IsFirstLine (drop next bytes) known

-- these bytes came from the source, and nothing else changes but that it may be seen to end
pub record Fills (old new : Buffered) (before after : SourceState) : Type 0 where
  pub pulled : List ℕ
  pub given : after.given ≡ followed_by before.given pulled
  pub bytes : new.bytes ≡ old.bytes ++ pulled
  pub number : new.number ≡ old.number
  pub left : length new.bytes + after.left ≤ length old.bytes + before.left
  pub still : old.ended ≡ true → (pulled ≡ []) × (new.ended ≡ true)
  pub at_end : (old.ended ≡ true → before.at_end ≡ true) → new.ended ≡ true → after.at_end ≡ true
  pub failures : after.failures ≡ before.failures

-- the next line is here as a whole, or no more of it comes
abbrev pub IsReady : Buffered → Type 0
IsReady b = has_no_break b.bytes ≡ true → b.ended ≡ true

-- the next line is here with its LF, or it is the last of the text and has none
abbrev pub IsTakenFrom : Buffered → Buffered → Type 0
IsTakenFrom old new =
    ((old.bytes ≡ new.text ++ 10 ∷ new.bytes) × (new.number ≡ old.number + 1))
    ⊎ ((old.bytes ≡ new.text) × (0 < length old.bytes) × (new.bytes ≡ []) × (old.ended ≡ true) × (new.number ≡ old.number))

-- the next line is lent
pub record TakesLine (old new : Buffered) : Type 0 where
  pub numbered : new.line_number ≡ old.number
  pub unbroken : has_no_break new.text ≡ true
  pub ended : new.ended ≡ old.ended
  pub taken : IsTakenFrom old new

-- no line is left
pub record IsEmptied (b : Buffered) : Type 0 where
  pub none : b.bytes ≡ []
  pub ended : b.ended ≡ true

-- however the text goes on behind what came: not at all, where the source was seen to end
abbrev pub GoesOn : Buffered → List ℕ → Type 0
GoesOn b more = b.ended ≡ true → more ≡ []

-- These lines that count were passed: what was here and what came is these lines and what is here now, however it goes on.
pub record PassesLines (old new : Buffered) (before after : SourceState) (passed : List Numbered) : Type 0 where
  pub pulled : List ℕ
  pub given : after.given ≡ followed_by before.given pulled
  pub lines : (more : List ℕ) → GoesOn new more → counting_from old.number ((old.bytes ++ pulled) ++ more) ≡ passed ++ counting_from new.number (new.bytes ++ more)
  pub last : (more : List ℕ) → GoesOn new more → old.number + breaks ((old.bytes ++ pulled) ++ more) ≡ new.number + breaks (new.bytes ++ more)
  pub numbered : new.number + length new.bytes + after.left ≤ old.number + length old.bytes + before.left
  pub left : length new.bytes + after.left ≤ length old.bytes + before.left
  pub still : old.ended ≡ true → (pulled ≡ []) × (new.ended ≡ true)
  pub at_end : (old.ended ≡ true → before.at_end ≡ true) → new.ended ≡ true → after.at_end ≡ true
  pub failures : after.failures ≡ before.failures

-- fewer bytes are here and still to come
abbrev pub IsNearer : Buffered → Buffered → SourceState → SourceState → Type 0
IsNearer old new before after = length new.bytes + after.left < length old.bytes + before.left

-- the next line, whether it counts or not, if there is one
abbrev pub Finds : Bool → Buffered → Buffered → SourceState → SourceState → Type 0
Finds true old new before after =
    PassesLines old new before after (onto (lent new) []) × (has_no_break new.text ≡ true) × IsNearer old new before after
Finds false old new before after = PassesLines old new before after [] × IsEmptied new

-- the next line that counts, if there is one
abbrev pub Comes : Bool → Buffered → Buffered → SourceState → SourceState → Type 0
Comes true old new before after = PassesLines old new before after (lent new ∷ []) × IsNearer old new before after
Comes false old new before after = PassesLines old new before after [] × IsEmptied new
