-- What a source over memory gives at a pull.
use Rattle.std.proofs.Common.{◌≡◌, ℕ, zero, suc, ◌+◌, ◌-◌, ◌<◌, ◌≤◌, ◌==◌, Bool, true, false, if◌then◌else◌, Some, List, [], ◌∷◌, ◌++◌, length, take, drop, min, refl, ap, sym, ◌∙◌, arith}
use Rattle.std.proofs.Math.Seq.{take-add, take-append_seam}
use Rattle.std.proofs.lemmas.List.{length-take, length-drop, take_min}
use Rattle.std.proofs.lemmas.Bool.Decides.{Decides-eqb}
use Rattle.pb_text.specs.Devices.{Gives, SourceState, line_length, portion_of}
use Rattle.pb_text.specs.declared.mem_source.Portion.{Portion}
use Rattle.pb_text.specs.declared.mem_source.Portion.TheVariants as portions

-- a first line has a byte
line_some : (b : ℕ) (rest : List ℕ) → 0 < line_length (b ∷ rest)
line_some b rest = by (b == 10)
  where
    by : (t : Bool) → 0 < (if t then 1 else 1 + line_length rest)
    by true = omega arith
    by false = omega arith

-- a portion has a byte, where one is left
portion_some : (p : Portion) (left : List ℕ) → 0 < length left → 0 < portion_of p left
portion_some portions.All left h = h
portion_some (portions.Bytes most) left h = omega arith
portion_some portions.Line [] h = absurd (omega (arith, h))
portion_some portions.Line (b ∷ rest) h = line_some b rest

-- a piece of a text behind what was given
given_next : (text piece copied rest : List ℕ) (given most : ℕ) → piece ≡ take most (drop given text) → copied ≡ piece
    → take (given + length piece) text ≡ take given text ++ take (length piece) (copied ++ rest)
given_next text piece copied rest given most is same =
    let size : length piece ≡ min most (length (drop given text)) = ap length is ∙ length-take most (drop given text) in
    let first : take (length piece) (drop given text) ≡ piece = ap (λ n. take n (drop given text)) size ∙ take_min most (drop given text) ∙ sym is in
    let copy : take (length piece) (copied ++ rest) ≡ piece = ap (λ c. take (length piece) (c ++ rest)) same ∙ take-append_seam piece rest in
    take-add given (length piece) text ∙ ap (λ p. take given text ++ p) (first ∙ sym copy)

-- nothing is given where nothing is left, or where there is no room
nothing_left : (p : Portion) (text piece : List ℕ) (given room : ℕ) → given ≤ length text → piece ≡ take (min (portion_of p (drop given text)) room) (drop given text)
    → length piece ≡ 0 → 0 < room → given + length piece ≡ length text
nothing_left p text piece given room inside is none some =
    let left : List ℕ = drop given text in
    let size : length piece ≡ min (min (portion_of p left) room) (length left) = ap length is ∙ length-take (min (portion_of p left) room) left in
    by (length left) refl (length-drop given text) (portion_some p left) size
  where
    by : (n : ℕ) → length (drop given text) ≡ n → length (drop given text) ≡ length text - given → (0 < length (drop given text) → 0 < portion_of p (drop given text))
        → length piece ≡ min (min (portion_of p (drop given text)) room) (length (drop given text)) → given + length piece ≡ length text
    by zero e long portion size = omega (arith, e, long, none, inside)
    by (suc n) e long portion size = let more = portion (omega (arith, e)) in absurd (omega (arith, e, more, size, none, some))

-- where a source over a text stands
abbrev pub standing : List ℕ → ℕ → ℕ → SourceState
standing text given failures = record {
  given = Some (take given text);
  left = length text - given;
  at_end = given == length text;
  failures = failures;
}

-- a piece of the text is given
pub gives_piece : (p : Portion) (text piece copied rest : List ℕ) (given room failures : ℕ) → given ≤ length text → piece ≡ take (min (portion_of p (drop given text)) room) (drop given text) → copied ≡ piece
    → Gives (standing text given failures) (standing text (given + length piece) failures) room (take (length piece) (copied ++ rest))
gives_piece p text piece copied rest given room failures inside is same =
    let most = min (portion_of p (drop given text)) room in
    let copy : take (length piece) (copied ++ rest) ≡ piece = ap (λ c. take (length piece) (c ++ rest)) same ∙ take-append_seam piece rest in
    let size : length piece ≡ min most (length (drop given text)) = ap length is ∙ length-take most (drop given text) in
    let long = length-drop given text in
    let taken : length (take (length piece) (copied ++ rest)) ≡ length piece = ap length copy in
    record {
      given = ap (λ (t : List ℕ). Some t) (given_next text piece copied rest given most is same);
      left = omega (arith, taken, size, long, inside);
      none = λ empty some. (Decides-eqb (given + length piece) (length text)).1 (nothing_left p text piece given room inside is (sym taken ∙ empty) some);
      failures = refl;
    }
