-- A text has one list of tokens: whatever is so in the words of the formats is what the fold gives.
use Rattle.std.proofs.Common.{◌≡◌, ℕ, zero, suc, ◌+◌, ◌<◌, ◌≤◌, Bool, true, false, ◌||◌, inl, inr, List, [], ◌∷◌, length, take, drop, refl, ap, subst, sym, ◌∙◌, arith}
use Rattle.std.proofs.lemmas.Bool.{cases_lt}
use Rattle.std.proofs.lemmas.List.{drop-drop, length-drop, length-take}
use Rattle.pb_text.specs.declared.kind.Kind.{Kind}
use Rattle.pb_text.specs.Lexeme.{Lexeme, Position, past, is_white, begins_comment, symbol_length, lexemes, lexemes_from, lexeme_at, kind_of}
use Rattle.pb_text.specs.Cutting.{begins_white, begins_word, behind}
use Rattle.pb_text.specs.Span.{line_of}
use Rattle.pb_text.specs.TokensOf.{parts_tokens, on_comment_line, IsSymbolAt, IsWordAt, IsTokenOf, AreTokensFrom, AreTokensOf}
use Rattle.pb_text.proofs.Cutting.{end_empty, white_passed, symbol_first}
use Rattle.pb_text.proofs.Positions.{IsAt, AreDense, next_at, behind_at, past_start, parts_here}
use Rattle.pb_text.proofs.FirstToken.{IsWordFront, word_token}
use Rattle.pb_text.proofs.TokensExist.{or_parts}

-- a token is known by its start, its line, its bytes and their kind
same_token : (t : Lexeme) (p : Position) (w : List ℕ) → t.text ≡ w → t.start ≡ p.start → t.line ≡ p.line → t.kind ≡ kind_of t.text → t ≡ lexeme_at p w
same_token t p w text start line kind =
    ap (λ (k : Kind). let u : Lexeme = record { kind = k; line = t.line; start = t.start; text = t.text } in u) kind
    ∙ ap (λ (n : ℕ). let u : Lexeme = record { kind = kind_of t.text; line = n; start = t.start; text = t.text } in u) line
    ∙ ap (λ (n : ℕ). let u : Lexeme = record { kind = kind_of t.text; line = p.line; start = n; text = t.text } in u) start
    ∙ ap (λ (xs : List ℕ). let u : Lexeme = record { kind = kind_of xs; line = p.line; start = p.start; text = xs } in u) text

true_false : {A : Type 0} (b : Bool) → b ≡ true → b ≡ false → A
true_false true h k = absurd (cc k)
true_false false h k = absurd (cc h)

-- a token does not begin at a byte that parts tokens
not_parted : (text : List ℕ) (t : Lexeme) → IsTokenOf text t → parts_tokens text t.start ≡ false
not_parted text t is =
    let none : t.start + 0 ≡ t.start = omega arith in
    rw none at (is.dense 0 is.stands.some)

-- a byte that parts no tokens is no white space
plain_byte : (text : List ℕ) (k : ℕ) → parts_tokens text k ≡ false → begins_white (drop k text) ≡ false
plain_byte text k h = (or_parts (on_comment_line text k) (begins_white (drop k text)) h).1

-- behind a byte that parts tokens, the same tokens
past_gap_byte : (text : List ℕ) (from : ℕ) (ts : List Lexeme) → parts_tokens text from ≡ true → AreTokensFrom text from ts → AreTokensFrom text (from + 1) ts
past_gap_byte text from [] here a = λ k low high. a k (omega (arith, low)) high
past_gap_byte text from (t ∷ ts) here a =
    elim (cases_lt from t.start) as (λ _. AreTokensFrom text (from + 1) (t ∷ ts)) [
      | inl l ↦ (omega (arith, l), (λ k low high. a.1 k (omega (arith, low)) high), a.2, a.3)
      | inr l ↦
          let e : from ≡ t.start = let low = a.0 in omega (arith, l, low) in
          let plain : parts_tokens text from ≡ false = rw e (not_parted text t a.2) in
          true_false (parts_tokens text from) here plain
    ]

-- where no byte parts tokens, one begins
begins_here : (text : List ℕ) (from : ℕ) (t : Lexeme) (ts : List Lexeme) → parts_tokens text from ≡ false → AreTokensFrom text from (t ∷ ts) → t.start ≡ from
begins_here text from t ts plain a =
    elim (cases_lt from t.start) as (λ _. t.start ≡ from) [
      | inl l ↦ true_false (parts_tokens text from) (a.1 from (omega arith) l) plain
      | inr l ↦ let low = a.0 in omega (arith, l, low)
    ]

-- the token that begins at a position, and what stands behind it
record IsFirst (text : List ℕ) (p : Position) (rest : List ℕ) (t : Lexeme) : Type 0 where
  within : length t.text ≤ length rest
  token : t ≡ lexeme_at p (take (length t.text) rest)
  dense : AreDense (length t.text) rest
  lexemes : lexemes_from p rest ≡ lexeme_at p (take (length t.text) rest) ∷ lexemes_from (behind (length t.text) p) (drop (length t.text) rest)

is_first : (text : List ℕ) (p : Position) (rest : List ℕ) (t : Lexeme) → IsAt text p rest → p.comment ≡ false → begins_white rest ≡ false → t.start ≡ p.start → IsTokenOf text t → IsFirst text p rest t
is_first text p rest t at plain dark start is =
    let here : drop t.start text ≡ rest = ap (λ (k : ℕ). drop k text) start ∙ at.here in
    let n : ℕ = length t.text in
    let slice : take n rest ≡ t.text = ap (take n) (sym here) ∙ is.stands.slice in
    let long : n ≤ length rest = let e : length (take n rest) ≡ n = ap length slice in omega (arith, e, length-take n rest) in
    let follows : (k : ℕ) → drop (t.start + k) text ≡ drop k rest = λ k. sym (drop-drop k t.start text) ∙ ap (drop k) here in
    let dense : AreDense n rest = λ k h. ap begins_white (sym (follows k)) ∙ plain_byte text (t.start + k) (is.dense k h) in
    let line : t.line ≡ p.line = is.stands.line ∙ ap (line_of text) start ∙ sym at.line in
    let symbol : IsSymbolAt text t.start n → lexemes_from p rest ≡ lexeme_at p (take n rest) ∷ lexemes_from (behind n p) (drop n rest) = λ s.
    let size : n ≡ symbol_length rest = s ∙ ap symbol_length here in
    let some : 0 < symbol_length rest = let l = is.stands.some in omega (arith, size, l) in
    subst (λ (m : ℕ). lexemes_from p rest ≡ lexeme_at p (take m rest) ∷ lexemes_from (behind m p) (drop m rest)) (sym size) (symbol_first p rest plain dark some) in
    let word : IsWordAt text t.start n → lexemes_from p rest ≡ lexeme_at p (take n rest) ∷ lexemes_from (behind n p) (drop n rest) = λ w.
    let front : IsWordFront n rest = record { within = long; bytes = λ k h. ap begins_word (sym (follows k)) ∙ w.bytes k h; ends = ap begins_word (sym (follows n)) ∙ w.ends } in
    word_token n p rest plain is.stands.some front in
    record {
      within = long;
      token = same_token t p (take n rest) (sym slice) start line is.stands.kind;
      dense = dense;
      lexemes = elim is.form as (λ _. lexemes_from p rest ≡ lexeme_at p (take n rest) ∷ lexemes_from (behind n p) (drop n rest)) [ inl s ↦ symbol s | inr w ↦ word w ];
    }

-- at the end of the text no token stands
none_at_end : (text : List ℕ) (p : Position) (t : Lexeme) (ts : List Lexeme) {A : Type 0} → IsAt text p [] → AreTokensFrom text p.start (t ∷ ts) → A
none_at_end text p t ts at a =
    let e : length (drop p.start text) ≡ 0 = ap length at.here in
    let f : length (take (length t.text) (drop t.start text)) ≡ length t.text = ap length a.2.stands.slice in
    let low = a.0 in
    let some = a.2.stands.some in
    absurd (omega (arith, e, f, low, some, length-drop p.start text, length-drop t.start text, length-take (length t.text) (drop t.start text)))

one_list : (n : ℕ) (text : List ℕ) (p : Position) (rest : List ℕ) (ts : List Lexeme) → length rest ≤ n → IsAt text p rest → AreTokensFrom text p.start ts → ts ≡ lexemes_from p rest
one_list n text p [] [] l at a = sym (end_empty p [] refl)
one_list n text p [] (t ∷ ts) l at a = none_at_end text p t ts at a
one_list zero text p (b ∷ rest) ts l at a = absurd (omega (arith, l))
one_list (suc n) text p (b ∷ rest) ts l at a =
    by (p.comment || is_white b) refl (one_list n) ts a
  where
    inside : p.start < length text
    inside = let e : length (drop p.start text) ≡ length (b ∷ rest) = ap length at.here in omega (arith, e, length-drop p.start text)

    by : (s : Bool) → (p.comment || is_white b) ≡ s
        → ((text : List ℕ) (p : Position) (rest : List ℕ) (ts : List Lexeme) → length rest ≤ n → IsAt text p rest → AreTokensFrom text p.start ts → ts ≡ lexemes_from p rest)
        → (ts : List Lexeme) → AreTokensFrom text p.start ts → ts ≡ lexemes_from p (b ∷ rest)
    by true e further ts a =
        let here : parts_tokens text p.start ≡ true = parts_here text p (b ∷ rest) at ∙ e in
        let next : AreTokensFrom text (past p b rest).start ts = subst (λ (k : ℕ). AreTokensFrom text k ts) (sym (past_start p b rest)) (past_gap_byte text p.start ts here a) in
        further text (past p b rest) rest ts (omega (arith, l)) (next_at text p b rest at) next ∙ sym (white_passed p b rest e)
    by false e further [] a =
        true_false (parts_tokens text p.start) (a p.start (omega arith) inside) (parts_here text p (b ∷ rest) at ∙ e)
    by false e further (t ∷ ts) a =
        let parted = or_parts p.comment (is_white b) e in
        let start : t.start ≡ p.start = begins_here text p.start t ts (parts_here text p (b ∷ rest) at ∙ e) a in
        let first : IsFirst text p (b ∷ rest) t = is_first text p (b ∷ rest) t at parted.0 parted.1 start a.2 in
        let m : ℕ = length t.text in
        let some : 0 < m = a.2.stands.some in
        let behind_it : AreTokensFrom text (p.start + m) ts = subst (λ (k : ℕ). AreTokensFrom text (k + m) ts) start a.3 in
        let others : ts ≡ lexemes_from (behind m p) (drop m (b ∷ rest)) =
        further text (behind m p) (drop m (b ∷ rest)) ts (omega (arith, l, some, length-drop m (b ∷ rest))) (behind_at m text p (b ∷ rest) at first.within first.dense) behind_it in
        ap (λ (u : Lexeme). u ∷ ts) first.token ∙ ap (λ (us : List Lexeme). lexeme_at p (take m (b ∷ rest)) ∷ us) others ∙ sym first.lexemes

pub tokens_are_lexemes : (text : List ℕ) (ts : List Lexeme) → AreTokensOf text ts → ts ≡ lexemes text
unfolding lexemes
tokens_are_lexemes text ts a =
    one_list (length text) text (record { start = 0; line = 1; comment = begins_comment text }) text ts (omega arith) (record { here = refl; line = refl; comment = refl }) a
