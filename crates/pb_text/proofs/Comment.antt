-- The bytes of a comment line give no token.
use Rattle.std.proofs.Common.{◌≡◌, ℕ, suc, ◌+◌, ◌<◌, ◌==◌, Bool, true, false, not, cond, ◌||◌, List, [], ◌∷◌, drop, refl, ap, sym, ◌∙◌, arith}
use Rattle.std.specs.List.{position_or_len}
use Rattle.std.proofs.lemmas.Bool.Decides.{Decides-eqb}
use Rattle.pb_text.specs.Lexeme.{Position, past, begins_comment, lexemes_from}
use Rattle.pb_text.specs.Cutting.{behind}
use Rattle.pb_text.proofs.Cutting.{past_plain, white_passed, end_empty}

or_true : (a b : Bool) → a ≡ true → (a || b) ≡ true
or_true true b h = refl
or_true false b h = absurd (cc h)

or_last : (a b : Bool) → b ≡ true → (a || b) ≡ true
or_last true b h = refl
or_last false b h = h

-- a position whose line is no comment, so many bytes on
abbrev plain : ℕ → Position → Position
plain n p = record { start = p.start + n; line = p.line; comment = false }

-- at its LF, a comment line is over
at_end : (p : Position) (b : ℕ) (rest : List ℕ) → (b == 10) ≡ true → p.comment ≡ true → lexemes_from p (b ∷ rest) ≡ lexemes_from (plain 0 p) (b ∷ rest)
at_end p b rest e h =
    let none : p.start + 0 ≡ p.start = omega arith in
    let there : past p b rest ≡ past (plain 0 p) b rest = rw (e, none) refl in
    white_passed p b rest (or_true p.comment _ h)
    ∙ ap (λ (q : Position). lexemes_from q rest) there
    ∙ sym (white_passed (plain 0 p) b rest (or_last _ (b == 10) e))

no_comment_at_end : (b : ℕ) (rest : List ℕ) {A : Type 0} → b ≡ 10 → begins_comment (b ∷ rest) ≡ true → A
no_comment_at_end b rest e h = absurd (cc (rw e at h))

-- up to its LF, a comment line gives no token
pub comment_passed : (p : Position) (text : List ℕ) → p.comment ≡ true →
    lexemes_from p text ≡ lexemes_from (record { start = p.start + position_or_len (λ b. b == 10) text; line = p.line; comment = false }) (drop (position_or_len (λ b. b == 10) text) text)
comment_passed p [] h = end_empty p [] refl ∙ sym (end_empty _ [] refl)
comment_passed p (b ∷ rest) h =
    let n : ℕ = position_or_len (λ b. b == 10) rest in
    let one : lexemes_from p (b ∷ rest) ≡ lexemes_from (past p b rest) rest = white_passed p b rest (or_true p.comment _ h) in
    elim (b == 10) as (λ (t : Bool). (b == 10) ≡ t → lexemes_from p (b ∷ rest) ≡ lexemes_from (plain (cond (not t) (1 + n) 0) p) (drop (cond (not t) (1 + n) 0) (b ∷ rest))) [
      | true ↦ λ e. at_end p b rest e h
      | false ↦ λ e.
          let same : past p b rest ≡ behind 1 p = past_plain p b rest e in
          let far : p.start + 1 + n ≡ p.start + (1 + n) = omega arith in
          let next : 1 + n ≡ suc n = omega arith in
          one
          ∙ ap (λ (q : Position). lexemes_from q rest) same
          ∙ comment_passed (behind 1 p) rest h
          ∙ ap (λ (k : ℕ). lexemes_from (record { start = k; line = p.line; comment = false }) (drop n rest)) far
          ∙ ap (λ (k : ℕ). lexemes_from (plain (1 + n) p) (drop k (b ∷ rest))) (sym next)
    ] refl

-- a comment does not begin with its line's end
pub comment_begun : (text : List ℕ) → begins_comment text ≡ true → 0 < position_or_len (λ b. b == 10) text
comment_begun [] h = absurd (cc h)
comment_begun (b ∷ rest) h =
    elim (b == 10) as (λ (t : Bool). (b == 10) ≡ t → 0 < cond (not t) (1 + position_or_len (λ b. b == 10) rest) 0) [
      | true ↦ λ e. no_comment_at_end b rest ((Decides-eqb b 10).0 e) h
      | false ↦ λ e. omega arith
    ] refl
