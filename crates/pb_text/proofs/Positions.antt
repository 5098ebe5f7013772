-- A position of a text, walked byte by byte: what follows it, its line, and whether that line is a comment.
use Rattle.std.proofs.Common.{◌≡◌, ℕ, zero, suc, ◌+◌, ◌<◌, ◌≤◌, ◌==◌, Bool, true, false, ◌||◌, List, [], ◌∷◌, ◌++◌, length, take, drop, refl, ap, subst, sym, ◌∙◌, arith, add-one}
use Rattle.std.specs.Prelude.{if◌then◌else◌, count_by, cond, fold}
use Rattle.std.proofs.lemmas.List.{drop-drop, length-drop}
use Rattle.pb_text.specs.Lexeme.{Position, past, begins, begins_comment, is_white}
use Rattle.pb_text.specs.Span.{line_of}
use Rattle.pb_text.specs.Cutting.{begins_white, behind}
use Rattle.pb_text.specs.TokensOf.{line_start, on_comment_line, parts_tokens}
use Rattle.pb_text.proofs.Cutting.{take_next, past_plain, behind_more}

-- a position of the text, and what follows it
pub record IsAt (text : List ℕ) (p : Position) (rest : List ℕ) : Type 0 where
  pub here : drop p.start text ≡ rest
  pub line : p.line ≡ line_of text p.start
  pub comment : p.comment ≡ on_comment_line text p.start

pub past_start : (p : Position) (b : ℕ) (rest : List ℕ) → (past p b rest).start ≡ p.start + 1
past_start p b rest =
    let next : Bool → Position = λ t. if t then record { start = p.start + 1; line = p.line + 1; comment = begins_comment rest } else record { start = p.start + 1; line = p.line; comment = p.comment } in
    elim (b == 10) as (λ (t : Bool). (next t).start ≡ p.start + 1) [ true ↦ refl | false ↦ refl ]

fold_push : (g : ℕ → ℕ) (a : ℕ) (xs : List ℕ) (y : ℕ) → fold (λ n x. n + g x) a (xs ++ y ∷ []) ≡ fold (λ n x. n + g x) a xs + g y
fold_push g a [] y = refl
fold_push g a (x ∷ xs) y = fold_push g (a + g x) xs y

pub drop_next : (n : ℕ) (text : List ℕ) (b : ℕ) (rest : List ℕ) → drop n text ≡ b ∷ rest → drop (n + 1) text ≡ rest
drop_next n text b rest h = sym (drop-drop 1 n text) ∙ ap (λ (xs : List ℕ). drop 1 xs) h

line_next : (text : List ℕ) (n b : ℕ) (rest : List ℕ) → drop n text ≡ b ∷ rest → line_of text (n + 1) ≡ line_of text n + cond (b == 10) 1 0
line_next text n b rest h =
    let e : count_by (λ (c : ℕ). c == 10) (take (n + 1) text) ≡ count_by (λ (c : ℕ). c == 10) (take n text ++ b ∷ []) = ap (λ (xs : List ℕ). count_by (λ (c : ℕ). c == 10) xs) (take_next n text b rest (sym h)) in
    let f : count_by (λ (c : ℕ). c == 10) (take n text ++ b ∷ []) ≡ count_by (λ (c : ℕ). c == 10) (take n text) + cond (b == 10) 1 0 = fold_push (λ (c : ℕ). cond (c == 10) 1 0) 0 (take n text) b in
    omega (arith, e, f)

line_start_next : (text : List ℕ) (n b : ℕ) (rest : List ℕ) → drop n text ≡ b ∷ rest → line_start text (n + 1) ≡ (if b == 10 then suc n else line_start text n)
line_start_next text n b rest h =
    ap (line_start text) (add-one n) ∙ ap (λ (xs : List ℕ). if begins 10 xs then suc n else line_start text n) h

comment_next : (text : List ℕ) (n b : ℕ) (rest : List ℕ) → drop n text ≡ b ∷ rest → on_comment_line text (n + 1) ≡ (if b == 10 then begins_comment rest else on_comment_line text n)
comment_next text n b rest h =
    ap (λ (m : ℕ). begins_comment (drop m text)) (line_start_next text n b rest h)
    ∙ by (b == 10)
  where
    behind_lf : drop (suc n) text ≡ rest
    behind_lf = ap (λ (m : ℕ). drop m text) (sym (add-one n)) ∙ drop_next n text b rest h

    by : (t : Bool) → begins_comment (drop (if t then suc n else line_start text n) text) ≡ (if t then begins_comment rest else on_comment_line text n)
    by true = ap begins_comment behind_lf
    by false = refl

-- the position behind a byte
pub next_at : (text : List ℕ) (p : Position) (b : ℕ) (rest : List ℕ) → IsAt text p (b ∷ rest) → IsAt text (past p b rest) rest
next_at text p b rest at =
    let there : drop (p.start + 1) text ≡ rest = drop_next p.start text b rest at.here in
    let line : line_of text (p.start + 1) ≡ line_of text p.start + cond (b == 10) 1 0 = line_next text p.start b rest at.here in
    let comment : on_comment_line text (p.start + 1) ≡ (if b == 10 then begins_comment rest else on_comment_line text p.start) = comment_next text p.start b rest at.here in
    elim (b == 10) as (λ (t : Bool). (b == 10) ≡ t → IsAt text (past p b rest) rest) [
      | true ↦ λ e.
          let one : ◌≡◌ {A = ℕ} (cond (b == 10) 1 0) 1 = rw e refl in
          let begun : begins_comment rest ≡ on_comment_line text (p.start + 1) = sym (comment ∙ ap (λ (t : Bool). if t then begins_comment rest else on_comment_line text p.start) e) in
          let q : IsAt text (record { start = p.start + 1; line = p.line + 1; comment = begins_comment rest }) rest =
          record { here = there; line = omega (arith, line, one, at.line); comment = begun } in
          rw e q
      | false ↦ λ e.
          let none : ◌≡◌ {A = ℕ} (cond (b == 10) 1 0) 0 = rw e refl in
          let same : p.comment ≡ on_comment_line text (p.start + 1) = at.comment ∙ sym (comment ∙ ap (λ (t : Bool). if t then begins_comment rest else on_comment_line text p.start) e) in
          let q : IsAt text (record { start = p.start + 1; line = p.line; comment = p.comment }) rest = record { here = there; line = omega (arith, line, none, at.line); comment = same } in
          rw e q
    ] refl

-- what is no white space is no LF
no_lf : (b : ℕ) → is_white b ≡ false → (b == 10) ≡ false
no_lf b h = last (b == 32) (b == 9) (b == 13) (b == 10) h
  where
    last : (s t u v : Bool) → (s || t || u || v) ≡ false → v ≡ false
    last true t u v e = absurd (cc e)
    last false true u v e = absurd (cc e)
    last false false true v e = absurd (cc e)
    last false false false v e = e

-- the first bytes of a list are no white space
abbrev pub AreDense : ℕ → List ℕ → Type 0
AreDense n rest = (k : ℕ) → k < n → begins_white (drop k rest) ≡ false

one_behind : (text : List ℕ) (p : Position) (rest : List ℕ) → IsAt text p rest → 0 < length rest → begins_white rest ≡ false → IsAt text (behind 1 p) (drop 1 rest)
one_behind text p [] at some dense = absurd (omega (arith, some))
one_behind text p (b ∷ rest) at some dense = subst (λ (q : Position). IsAt text q rest) (past_plain p b rest (no_lf b dense)) (next_at text p b rest at)

-- the position behind so many bytes that are no white space
pub behind_at : (n : ℕ) (text : List ℕ) (p : Position) (rest : List ℕ) → IsAt text p rest → n ≤ length rest → AreDense n rest → IsAt text (behind n p) (drop n rest)
behind_at zero text p rest at l dense = let e : p.start + 0 ≡ p.start = omega arith in rw e at
behind_at (suc n) text p rest at l dense =
    let before : IsAt text (behind n p) (drop n rest) = behind_at n text p rest at (omega (arith, l)) (λ k h. dense k (omega (arith, h))) in
    let more : IsAt text (behind 1 (behind n p)) (drop 1 (drop n rest)) =
    one_behind text (behind n p) (drop n rest) before (omega (arith, length-drop n rest)) (dense n (omega arith)) in
    let e : behind 1 (behind n p) ≡ behind (suc n) p = behind_more n p ∙ ap (λ (m : ℕ). behind m p) (add-one n) in
    let f : drop 1 (drop n rest) ≡ drop (suc n) rest = drop-drop 1 n rest ∙ ap (λ (m : ℕ). drop m rest) (add-one n) in
    subst (λ (q : Position). IsAt text q (drop (suc n) rest)) e (subst (λ (xs : List ℕ). IsAt text (behind 1 (behind n p)) xs) f more)

-- does the byte at a position part tokens
pub parts_here : (text : List ℕ) (p : Position) (rest : List ℕ) → IsAt text p rest → parts_tokens text p.start ≡ (p.comment || begins_white rest)
parts_here text p rest at = ap (λ (c : Bool). c || begins_white (drop p.start text)) (sym at.comment) ∙ ap (λ (xs : List ℕ). p.comment || begins_white xs) at.here
