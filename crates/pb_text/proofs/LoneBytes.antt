-- A byte that stands in words is the next token exactly where no byte of a word follows it.
use Rattle.std.proofs.Common.{◌≡◌, ℕ, zero, suc, ◌<◌, ◌==◌, Bool, true, false, not, ◌&&◌, List, [], ◌∷◌, length, take, drop, refl, ap, sym, subst, ◌∙◌, arith}
use Rattle.std.specs.Prelude.{◌↔◌, IsTrue}
use Rattle.std.specs.Str.{bytes_eq}
use Rattle.std.proofs.lemmas.Slice.Eq.{bytes_eq-Decides}
use Rattle.pb_text.specs.Cutting.{begins_white, begins_word, behind, IsWordFront}
use Rattle.pb_text.specs.Lexeme.{Position, is_white, lexeme_at, lexemes_from, symbol_length}
use Rattle.pb_text.specs.Taken.{is_next, is_plain}
use Rattle.pb_text.proofs.BytesRead.{plain_byte}
use Rattle.pb_text.proofs.Cutting.{end_empty, symbol_first}
use Rattle.pb_text.proofs.FirstToken.{word_front, word_longer, word_size, word_some, word_token}

-- another word has other bytes
pub other_word : (xs ys : List ℕ) → (xs ≡ ys → ⊥) → bytes_eq xs ys ≡ false
other_word xs ys n =
    elim (bytes_eq xs ys) as (λ (r : Bool). bytes_eq xs ys ≡ r → r ≡ false) [
      | true ↦ λ e. absurd (n ((bytes_eq-Decides xs ys).0 e))
      | false ↦ λ e. refl
    ] refl

word_begun : (b : ℕ) (rest : List ℕ) → is_plain b ≡ true → begins_word (b ∷ rest) ≡ true
word_begun b rest h = plain_byte is_plain b rest h refl refl refl refl refl refl refl refl refl refl

heads : (b c : ℕ) (xs ys : List ℕ) → b ∷ xs ≡ c ∷ ys → b ≡ c
heads b c xs ys e = cc e

-- a token that begins with another byte is not this one
other_head : (n b byte : ℕ) (rest : List ℕ) → (b ≡ byte → ⊥) → 0 < n → bytes_eq (take n (b ∷ rest)) (byte ∷ []) ≡ false
other_head zero b byte rest other some = absurd (omega (arith, some))
other_head (suc n) b byte rest other some = other_word (b ∷ take n rest) (byte ∷ []) (λ e. other (heads b byte (take n rest) [] e))

-- a token of more bytes is not this one
two_bytes : (n b c byte : ℕ) (more : List ℕ) → bytes_eq (take (suc (suc n)) (b ∷ c ∷ more)) (byte ∷ []) ≡ false
two_bytes n b c byte more = other_word (b ∷ c ∷ take n more) (byte ∷ []) (λ e. cc e)

-- a word of one byte is the next token
pub lone : (p : Position) (b : ℕ) (rest : List ℕ) → p.comment ≡ false → is_plain b ≡ true → begins_word rest ≡ false →
    lexemes_from p (b ∷ rest) ≡ lexeme_at p (b ∷ []) ∷ lexemes_from (behind 1 p) rest
lone p b rest plain h ends = word_token 1 p (b ∷ rest) plain (omega arith) (record { within = omega arith; bytes = bytes; ends = ends })
  where
    bytes : (k : ℕ) → k < 1 → begins_word (drop k (b ∷ rest)) ≡ true
    bytes zero l = word_begun b rest h
    bytes (suc k) l = absurd (omega (arith, l))

pub lone_is_next : (p : Position) (b : ℕ) (rest : List ℕ) → p.comment ≡ false → is_plain b ≡ true → begins_word rest ≡ false →
    is_next (b ∷ []) (lexemes_from p (b ∷ rest)) ≡ true
lone_is_next p b rest plain h ends = ap (is_next (b ∷ [])) (lone p b rest plain h ends) ∙ (bytes_eq-Decides (b ∷ []) (b ∷ [])).1 refl

-- a word goes on behind this byte
pub goes_on : (p : Position) (b : ℕ) (rest : List ℕ) → p.comment ≡ false → is_plain b ≡ true → begins_word rest ≡ true →
    is_next (b ∷ []) (lexemes_from p (b ∷ rest)) ≡ false
goes_on p b [] plain h more = absurd (cc more)
goes_on p b (c ∷ rest) plain h more =
    let w = word_front (c ∷ rest) in
    let front : IsWordFront (suc (word_size (c ∷ rest))) (b ∷ c ∷ rest) = longer w in
    ap (is_next (b ∷ [])) (word_token (suc (word_size (c ∷ rest))) p (b ∷ c ∷ rest) plain (omega arith) front)
    ∙ other_word (take (suc (word_size (c ∷ rest))) (b ∷ c ∷ rest)) (b ∷ []) (by (word_size (c ∷ rest)) (word_some c rest more))
  where
    longer : IsWordFront (word_size (c ∷ rest)) (c ∷ rest) → IsWordFront (suc (word_size (c ∷ rest))) (b ∷ c ∷ rest)
    longer w = word_longer (word_size (c ∷ rest)) b (c ∷ rest) (word_begun b (c ∷ rest) h) w

    by : (n : ℕ) → 0 < n → take (suc n) (b ∷ c ∷ rest) ≡ b ∷ [] → ⊥
    by zero some e = absurd (omega (arith, some))
    by (suc n) some e = cc e

some_symbol : (w : Bool) (n : ℕ) → w ≡ false → (not w && (n == 0)) ≡ false → 0 < n
some_symbol true n e h = absurd (cc e)
some_symbol false zero e h = absurd (cc h)
some_symbol false (suc n) e h = omega arith

-- another byte stands here
pub other_first : (p : Position) (b byte : ℕ) (rest : List ℕ) → p.comment ≡ false → begins_white (b ∷ rest) ≡ false → (b ≡ byte → ⊥) →
    is_next (byte ∷ []) (lexemes_from p (b ∷ rest)) ≡ false
other_first p b byte rest plain white other = by (begins_word (b ∷ rest)) refl
  where
    by : (t : Bool) → begins_word (b ∷ rest) ≡ t → is_next (byte ∷ []) (lexemes_from p (b ∷ rest)) ≡ false
    by true e =
        ap (is_next (byte ∷ [])) (word_token (word_size (b ∷ rest)) p (b ∷ rest) plain (word_some b rest e) (word_front (b ∷ rest)))
        ∙ other_head (word_size (b ∷ rest)) b byte rest other (word_some b rest e)
    by false e =
        let some : 0 < symbol_length (b ∷ rest) = some_symbol (is_white b) (symbol_length (b ∷ rest)) white e in
        ap (is_next (byte ∷ [])) (symbol_first p (b ∷ rest) plain white some)
        ∙ other_head (symbol_length (b ∷ rest)) b byte rest other some

-- nothing stands here
pub none_first : (p : Position) (word text : List ℕ) → length text ≡ 0 → is_next word (lexemes_from p text) ≡ false
none_first p word [] e = ap (is_next word) (end_empty p [] refl)
none_first p word (b ∷ rest) e = absurd (omega (arith, e))

-- whether a word ends behind this byte is whether the byte is the next token
pub asked : (p : Position) (b byte : ℕ) (text rest : List ℕ) (r : Bool) → text ≡ b ∷ rest → b ≡ byte → p.comment ≡ false → is_plain byte ≡ true →
    (IsTrue r ↔ (begins_word rest ≡ false)) → r ≡ is_next (byte ∷ []) (lexemes_from p text)
asked p b byte text rest r at same plain h ends =
    let here : text ≡ byte ∷ rest = at ∙ ap (λ (x : ℕ). x ∷ rest) same in
    by r ends ∙ sym (ap (λ (xs : List ℕ). is_next (byte ∷ []) (lexemes_from p xs)) here)
  where
    more : (IsTrue false ↔ (begins_word rest ≡ false)) → (t : Bool) → begins_word rest ≡ t → begins_word rest ≡ true
    more f true e = e
    more f false e = absurd (cc (f.1 e))

    by : (s : Bool) → (IsTrue s ↔ (begins_word rest ≡ false)) → s ≡ is_next (byte ∷ []) (lexemes_from p (byte ∷ rest))
    by true f = sym (lone_is_next p byte rest plain h (f.0 refl))
    by false f = sym (goes_on p byte rest plain h (more f (begins_word rest) refl))

-- what is left behind it
pub behind_lone : (p : Position) (b byte : ℕ) (text rest : List ℕ) → text ≡ b ∷ rest → b ≡ byte → p.comment ≡ false → is_plain byte ≡ true → begins_word rest ≡ false →
    drop 1 (lexemes_from p text) ≡ lexemes_from (behind 1 p) (drop 1 text)
behind_lone p b byte text rest at same plain h ends =
    let here : text ≡ byte ∷ rest = at ∙ ap (λ (x : ℕ). x ∷ rest) same in
    subst (λ (xs : List ℕ). drop 1 (lexemes_from p xs) ≡ lexemes_from (behind 1 p) (drop 1 xs)) (sym here) (ap (drop 1) (lone p byte rest plain h ends))
