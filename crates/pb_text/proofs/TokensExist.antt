-- The tokens that the fold gives are tokens of the text in the words of the formats.
use Rattle.std.proofs.Common.{◌≡◌, ℕ, zero, suc, ◌+◌, ◌<◌, ◌≤◌, Bool, true, false, ◌||◌, ◌⊎◌, inl, inr, List, [], ◌∷◌, length, take, drop, refl, ap, subst, sym, ◌∙◌, arith}
use Rattle.std.proofs.lemmas.Bool.{cases_lt}
use Rattle.std.proofs.lemmas.List.{drop-drop, length-take-le, length-drop}
use Rattle.pb_text.specs.Lexeme.{Lexeme, Position, past, is_white, begins_comment, symbol_length, lexemes, lexemes_from, lexeme_at}
use Rattle.pb_text.specs.Cutting.{begins_white, begins_word, behind}
use Rattle.pb_text.specs.Span.{StandsIn}
use Rattle.pb_text.specs.TokensOf.{parts_tokens, IsGap, IsSymbolAt, IsWordAt, IsTokenOf, AreTokensFrom, AreTokensOf}
use Rattle.pb_text.proofs.Cutting.{end_empty, white_passed, symbol_first, second_byte, symbol_sizes}
use Rattle.pb_text.proofs.Positions.{IsAt, AreDense, next_at, behind_at, past_start, parts_here}
use Rattle.pb_text.proofs.FirstToken.{IsWordFront, word_token, word_size, word_front, word_dense, word_some}

-- one byte that parts tokens, before a gap
gap_grows : (text : List ℕ) (from to : ℕ) → parts_tokens text from ≡ true → IsGap text (from + 1) to → IsGap text from to
gap_grows text from to here gap position low high =
    elim (cases_lt from position) [
      | inl l ↦ gap position (omega (arith, l)) high
      | inr l ↦ let e : from ≡ position = omega (arith, l, low) in subst (λ (k : ℕ). parts_tokens text k ≡ true) e here
    ]

-- one byte that parts tokens, before tokens
pub gap_before : (text : List ℕ) (from : ℕ) (ts : List Lexeme) → parts_tokens text from ≡ true → AreTokensFrom text (from + 1) ts → AreTokensFrom text from ts
gap_before text from [] here a = gap_grows text from (length text) here a
gap_before text from (t ∷ ts) here a = let l = a.0 in (omega (arith, l), gap_grows text from t.start here a.1, a.2, a.3)

-- no byte of the token at a position parts tokens
dense_at : (n : ℕ) (text : List ℕ) (p : Position) (rest : List ℕ) → IsAt text p rest → p.comment ≡ false → n ≤ length rest → AreDense n rest →
    (k : ℕ) → k < n → parts_tokens text (p.start + k) ≡ false
dense_at n text p rest at plain l dense k h =
    let there : IsAt text (behind k p) (drop k rest) = behind_at k text p rest at (omega (arith, l, h)) (λ j lt. dense j (omega (arith, lt, h))) in
    parts_here text (behind k p) (drop k rest) there ∙ ap (λ (c : Bool). c || begins_white (drop k rest)) plain ∙ dense k h

-- a token of this size at a position, in front of the tokens behind it
token_here : (n : ℕ) (text : List ℕ) (p : Position) (rest : List ℕ) (ts : List Lexeme) → IsAt text p rest → p.comment ≡ false → 0 < n → n ≤ length rest → AreDense n rest →
    (IsSymbolAt text p.start n ⊎ IsWordAt text p.start n) → AreTokensFrom text (p.start + n) ts → AreTokensFrom text p.start (lexeme_at p (take n rest) ∷ ts)
token_here n text p rest ts at plain some l dense form after =
    let size : length (take n rest) ≡ n = length-take-le n rest l in
    let t : Lexeme = lexeme_at p (take n rest) in
    let slice : take (length t.text) (drop p.start text) ≡ t.text = ap (λ (m : ℕ). take m (drop p.start text)) size ∙ ap (take n) at.here in
    let stands : StandsIn text t = record { slice = slice; some = omega (arith, size, some); line = at.line; kind = refl } in
    let bytes : (k : ℕ) → k < length t.text → parts_tokens text (p.start + k) ≡ false = λ k h. dense_at n text p rest at plain l dense k (omega (arith, size, h)) in
    let is : IsTokenOf text t = record { stands = stands; dense = bytes; form = subst (λ (m : ℕ). IsSymbolAt text p.start m ⊎ IsWordAt text p.start m) (sym size) form } in
    (omega arith, λ k low high. absurd (omega (arith, low, high)), is, subst (λ (m : ℕ). AreTokensFrom text (p.start + m) ts) (sym size) after)

-- a word at the front of what follows a position is one of the text
word_at : (n : ℕ) (text : List ℕ) (p : Position) (rest : List ℕ) → IsAt text p rest → IsWordFront n rest → IsWordAt text p.start n
word_at n text p rest at w =
    let same : (k : ℕ) → drop (p.start + k) text ≡ drop k rest = λ k. sym (drop-drop k p.start text) ∙ ap (drop k) at.here in
    record { bytes = λ k h. ap begins_word (same k) ∙ w.bytes k h; ends = ap begins_word (same n) ∙ w.ends }

-- the bytes of a symbol are within its text, and none is white space
pub symbol_dense : (rest : List ℕ) → begins_white rest ≡ false → 0 < symbol_length rest → (symbol_length rest ≤ length rest) × AreDense (symbol_length rest) rest
symbol_dense [] w s = absurd (omega (arith, s))
symbol_dense (b ∷ rest) w s =
    elim (symbol_sizes b rest s) as (λ _. (symbol_length (b ∷ rest) ≤ length (b ∷ rest)) × AreDense (symbol_length (b ∷ rest)) (b ∷ rest)) [
      | inl one ↦ (omega (arith, one), λ k h. first k (omega (arith, h, one)))
      | inr two ↦ (let l = second_long two in omega (arith, two, l), λ k h. both k (omega (arith, h, two)) (second_plain two))
    ]
  where
    first : (k : ℕ) → k < 1 → begins_white (drop k (b ∷ rest)) ≡ false
    first zero h = w
    first (suc k) h = absurd (omega (arith, h))

    second_long : symbol_length (b ∷ rest) ≡ 2 → 1 ≤ length rest
    second_long two = let second = second_byte b rest two in let e = ap length second.is in omega (arith, e)

    second_plain : symbol_length (b ∷ rest) ≡ 2 → begins_white rest ≡ false
    second_plain two = let second = second_byte b rest two in ap begins_white second.is ∙ second.dense

    both : (k : ℕ) → k < 2 → begins_white rest ≡ false → begins_white (drop k (b ∷ rest)) ≡ false
    both zero h e = w
    both (suc zero) h e = e
    both (suc (suc k)) h e = absurd (omega (arith, h))

-- where no white space stands and no symbol, a byte of a word does
pub word_begins : (b : ℕ) (rest : List ℕ) → is_white b ≡ false → symbol_length (b ∷ rest) ≡ 0 → begins_word (b ∷ rest) ≡ true
word_begins b rest w s = rw (w, s) refl

pub or_parts : (a b : Bool) → (a || b) ≡ false → (a ≡ false) × (b ≡ false)
or_parts true b h = absurd (cc h)
or_parts false b h = (refl, h)

tokens_from : (n : ℕ) (text : List ℕ) (p : Position) (rest : List ℕ) → length rest ≤ n → IsAt text p rest → AreTokensFrom text p.start (lexemes_from p rest)
tokens_from n text p [] l at =
    let over : length text ≤ p.start = let e : length (drop p.start text) ≡ 0 = ap length at.here in omega (arith, e, length-drop p.start text) in
    subst (AreTokensFrom text p.start) (sym (end_empty p [] refl)) (λ k low high. absurd (omega (arith, low, high, over)))
tokens_from zero text p (b ∷ rest) l at = absurd (omega (arith, l))
tokens_from (suc n) text p (b ∷ rest) l at =
    by (p.comment || is_white b) refl (tokens_from n)
  where
    goal : Type 0
    goal = AreTokensFrom text p.start (lexemes_from p (b ∷ rest))

    by : (t : Bool) → (p.comment || is_white b) ≡ t
        → ((text : List ℕ) (p : Position) (rest : List ℕ) → length rest ≤ n → IsAt text p rest → AreTokensFrom text p.start (lexemes_from p rest))
        → AreTokensFrom text p.start (lexemes_from p (b ∷ rest))
    by true e further =
        let next : AreTokensFrom text (past p b rest).start (lexemes_from (past p b rest) rest) = further text (past p b rest) rest (omega (arith, l)) (next_at text p b rest at) in
        let here : parts_tokens text p.start ≡ true = parts_here text p (b ∷ rest) at ∙ e in
        subst (AreTokensFrom text p.start) (sym (white_passed p b rest e))
        (gap_before text p.start _ here (subst (λ (k : ℕ). AreTokensFrom text k (lexemes_from (past p b rest) rest)) (past_start p b rest) next))
    by false e further =
        let plain : p.comment ≡ false = (or_parts p.comment (is_white b) e).0 in
        let dark : is_white b ≡ false = (or_parts p.comment (is_white b) e).1 in
        elim (cases_lt 0 (symbol_length (b ∷ rest))) as (λ _. AreTokensFrom text p.start (lexemes_from p (b ∷ rest))) [
          | inl some ↦ symbol plain dark some
          | inr none ↦ word plain (word_begins b rest dark (omega (arith, none)))
        ]
      where
        behind_token : (m : ℕ) → 0 < m → m ≤ length (b ∷ rest) → AreDense m (b ∷ rest) → AreTokensFrom text (p.start + m) (lexemes_from (behind m p) (drop m (b ∷ rest)))
        behind_token m some within dense =
            further text (behind m p) (drop m (b ∷ rest)) (omega (arith, l, some, length-drop m (b ∷ rest))) (behind_at m text p (b ∷ rest) at within dense)

        symbol : p.comment ≡ false → is_white b ≡ false → 0 < symbol_length (b ∷ rest) → AreTokensFrom text p.start (lexemes_from p (b ∷ rest))
        symbol plain dark some =
            let s = symbol_dense (b ∷ rest) dark some in
            let size : ℕ = symbol_length (b ∷ rest) in
            subst (AreTokensFrom text p.start) (sym (symbol_first p (b ∷ rest) plain dark some))
            (token_here size text p (b ∷ rest) _ at plain some s.0 s.1 (inl (ap symbol_length (sym at.here))) (behind_token size some s.0 s.1))

        word : p.comment ≡ false → begins_word (b ∷ rest) ≡ true → AreTokensFrom text p.start (lexemes_from p (b ∷ rest))
        word plain begins =
            let w : IsWordFront (word_size (b ∷ rest)) (b ∷ rest) = word_front (b ∷ rest) in
            let size : ℕ = word_size (b ∷ rest) in
            let some : 0 < size = word_some b rest begins in
            let dense : AreDense size (b ∷ rest) = word_dense size (b ∷ rest) w.bytes in
            subst (AreTokensFrom text p.start) (sym (word_token size p (b ∷ rest) plain some w))
            (token_here size text p (b ∷ rest) _ at plain some w.within dense (inr (word_at size text p (b ∷ rest) at w)) (behind_token size some w.within dense))

pub lexemes_are_tokens : (text : List ℕ) → AreTokensOf text (lexemes text)
unfolding lexemes
lexemes_are_tokens text =
    tokens_from (length text) text (record { start = 0; line = 1; comment = begins_comment text }) text (omega arith) (record { here = refl; line = refl; comment = refl })
