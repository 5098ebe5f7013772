-- How written words are cut: each, with a space behind it or at the end, is a token.
use Rattle.std.proofs.Common.{◌≡◌, ℕ, suc, ◌+◌, ◌<◌, ◌==◌, Bool, true, false, not, ◌&&◌, ◌||◌, if◌then◌else◌, List, [], ◌∷◌, ◌++◌, length, take, drop, refl, sym, ap, subst, ◌∙◌, arith, append_assoc, codes}
use Rattle.std.specs.Prelude.{⊤}
use Rattle.std.specs.List.{list_all}
use Rattle.std.proofs.lemmas.Bool.Decides.{Decides-eqb}
use Rattle.pb_text.specs.Lexeme.{Position, Cut, cut, past, begins, begins_arrow_head, begins_comment, is_white, symbol_length, lexemes, lexemes_from, lexeme_at}
use Rattle.pb_text.specs.Cutting.{begins_word, behind}
use Rattle.pb_text.proofs.Cutting.{cut_word, cut_no_word, word_first, symbol_first, white_passed, end_empty}
use Rattle.pb_text.specs.TokensOf.{texts_of}
use Rattle.proof_text.specs.Words.{words}
use Rattle.proof_lines.specs.Lines.{Parted, parted}
use Rattle.proof_write.specs.Writing.{spaced, line_text}

-- a byte that stands in words alone
abbrev pub plain : ℕ → Bool
plain b = not (is_white b) && (not ((b == 59) || (b == 58) || (b == 61)) && not ((b == 60) || (b == 62)))

-- a space stands next, or the end
abbrev pub ends : List ℕ → Bool
ends [] = true
ends (b ∷ rest) = b == 32

abbrev pub no_break : ℕ → Bool
no_break b = not (b == 10)

plain_word : (w s t d a : Bool) (n : ℕ) → (not w && (not s && not t)) ≡ true → a ≡ false → (not w && ((if s then 1 else if t then n else if d && a then 2 else 0) == 0)) ≡ true
plain_word true s t d a n h e = cc
plain_word false true t d a n h e = cc
plain_word false false true d a n h e = cc
plain_word false false false true true n h e = cc
plain_word false false false true false n h e = refl
plain_word false false false false a n h e = refl

plain_begins : (b : ℕ) (rest : List ℕ) → plain b ≡ true → begins_arrow_head rest ≡ false → begins_word (b ∷ rest) ≡ true
plain_begins b rest h e =
    plain_word (is_white b) ((b == 59) || (b == 58) || (b == 61)) ((b == 60) || (b == 62)) (b == 45) (begins_arrow_head rest) (if begins 61 rest then 2 else 1) h e

last_out : (w s x y : Bool) → (not w && (not s && not (x || y))) ≡ true → y ≡ false
last_out true s x y h = cc
last_out false true x y h = cc
last_out false false true y h = cc
last_out false false false true h = cc
last_out false false false false h = refl

both_true : (p q : Bool) → (p && q) ≡ true → (p ≡ true) × (q ≡ true)
both_true true q h = (refl, h)
both_true false q h = cc

-- no head of an arrow follows
ends_no_arrow : (rest : List ℕ) → ends rest ≡ true → begins_arrow_head rest ≡ false
ends_no_arrow [] h = refl
ends_no_arrow (b ∷ rest) h = ap (λ x. (x == 62) && not (begins 61 rest)) ((Decides-eqb b 32).0 h)

no_arrow_next : (w rest : List ℕ) → list_all plain w ≡ true → ends rest ≡ true → begins_arrow_head (w ++ rest) ≡ false
no_arrow_next [] rest h e = ends_no_arrow rest e
no_arrow_next (b ∷ w) rest h e =
    ap (λ t. t && not (begins 61 (w ++ rest))) (last_out (is_white b) ((b == 59) || (b == 58) || (b == 61)) (b == 60) (b == 62) (both_true (plain b) (list_all plain w) h).0)

ends_no_word : (rest : List ℕ) → ends rest ≡ true → begins_word rest ≡ false
ends_no_word [] h = refl
ends_no_word (b ∷ rest) h = subst (λ x. begins_word (x ∷ rest) ≡ false) (sym ((Decides-eqb b 32).0 h)) refl

behind_none : (p : Position) → behind 0 p ≡ p
behind_none p = let e : p.start + 0 ≡ p.start = omega arith in ap (λ n. let q : Position = record { start = n; line = p.line; comment = p.comment } in q) e

behind_both : (n : ℕ) (p : Position) → behind n (behind 1 p) ≡ behind (suc n) p
behind_both n p = let e : p.start + 1 + n ≡ p.start + suc n = omega arith in ap (λ k. let q : Position = record { start = k; line = p.line; comment = p.comment } in q) e

plain_cut : (w : List ℕ) (p : Position) (rest : List ℕ) → list_all plain w ≡ true → p.comment ≡ false → ends rest ≡ true
    → cut p (w ++ rest) ≡ record { word = w; tokens = lexemes_from (behind (length w) p) rest }
plain_cut [] p rest h c e =
    cut_no_word p rest c (ends_no_word rest e) ∙ ap (λ q. let x : Cut = record { word = []; tokens = lexemes_from q rest } in x) (sym (behind_none p))
plain_cut (b ∷ w) p rest h c e =
    let t = both_true (plain b) (list_all plain w) h in
    cut_word p b (w ++ rest) c (plain_begins b (w ++ rest) t.0 (no_arrow_next w rest t.1 e))
    ∙ ap (λ (x : Cut). let y : Cut = record { word = b ∷ x.word; tokens = x.tokens } in y) (plain_cut w (behind 1 p) rest t.1 c e)
    ∙ ap (λ q. let x : Cut = record { word = b ∷ w; tokens = lexemes_from q rest } in x) (behind_both (length w) p)

-- what follows a word is cut by itself
pub record Goes (w : List ℕ) (p : Position) (rest : List ℕ) : Type 0 where
  pub place : Position
  pub open_line : place.comment ≡ false
  pub cuts : texts_of (lexemes_from p (w ++ rest)) ≡ w ∷ texts_of (lexemes_from place rest)

-- a token of a written line: a space behind it, it is cut as it was written, and it has no LF
pub record IsToken (w : List ℕ) : Type 0 where
  pub goes : (p : Position) (rest : List ℕ) → p.comment ≡ false → ends rest ≡ true → Goes w p rest
  pub clean : list_all no_break w ≡ true

no_white_break : (w : List ℕ) → list_all plain w ≡ true → list_all no_break w ≡ true
no_white_break [] h = refl
no_white_break (b ∷ w) h =
    let t = both_true (plain b) (list_all plain w) h in
    ap (λ x. x && list_all no_break w) (by ((b == 32) || (b == 9) || (b == 13)) (b == 10) _ t.0) ∙ no_white_break w t.1
  where
    by : (x y z : Bool) → (not (x || y) && z) ≡ true → not y ≡ true
    by true y z h = cc
    by false true z h = cc
    by false false z h = refl

pub plain_token : (w : List ℕ) → list_all plain w ≡ true → 0 < length w → IsToken w
plain_token w h some = record {
  goes = λ p rest c e. record {
    place = behind (length w) p;
    open_line = c;
    cuts = ap texts_of (word_first p w (w ++ rest) (lexemes_from (behind (length w) p) rest) some (plain_cut w p rest h c e));
  };
  clean = no_white_break w h;
}

pub semicolon_token : IsToken (codes ";")
semicolon_token = record {
  goes = λ p rest c e. record { place = behind 1 p; open_line = c; cuts = ap texts_of (symbol_first p (59 ∷ rest) c refl (omega arith)) };
  clean = refl;
}

pub colon_token : IsToken (codes ":")
colon_token = record {
  goes = λ p rest c e. record { place = behind 1 p; open_line = c; cuts = ap texts_of (symbol_first p (58 ∷ rest) c refl (omega arith)) };
  clean = refl;
}

pub at_least_token : IsToken (codes ">=")
at_least_token = record {
  goes = λ p rest c e. record { place = behind 2 p; open_line = c; cuts = ap texts_of (symbol_first p (62 ∷ 61 ∷ rest) c refl (omega arith)) };
  clean = refl;
}

no_equals : (rest : List ℕ) → ends rest ≡ true → begins 61 rest ≡ false
no_equals [] h = refl
no_equals (b ∷ rest) h = ap (λ x. x == 61) ((Decides-eqb b 32).0 h)

arrow_length : (rest : List ℕ) → ends rest ≡ true → symbol_length (45 ∷ 62 ∷ rest) ≡ 2
arrow_length rest e = ap (λ t. if not t then 2 else 0) (no_equals rest e)

arrow_first : (p : Position) (rest : List ℕ) (n : ℕ) → n ≡ 2
    → lexemes_from p (45 ∷ 62 ∷ rest) ≡ lexeme_at p (take n (45 ∷ 62 ∷ rest)) ∷ lexemes_from (behind n p) (drop n (45 ∷ 62 ∷ rest))
    → lexemes_from p (45 ∷ 62 ∷ rest) ≡ lexeme_at p (45 ∷ 62 ∷ []) ∷ lexemes_from (behind 2 p) rest
arrow_first p rest n e h = subst (λ k. lexemes_from p (45 ∷ 62 ∷ rest) ≡ lexeme_at p (take k (45 ∷ 62 ∷ rest)) ∷ lexemes_from (behind k p) (drop k (45 ∷ 62 ∷ rest))) e h

pub arrow_token : IsToken (codes "->")
arrow_token = record {
  goes = λ p rest c e.
      let two = arrow_length rest e in
      let some : 0 < symbol_length (45 ∷ 62 ∷ rest) = omega (arith, two) in
      record { place = behind 2 p; open_line = c; cuts = ap texts_of (arrow_first p rest (symbol_length (45 ∷ 62 ∷ rest)) two (symbol_first p (45 ∷ 62 ∷ rest) c refl some)) };
  clean = refl;
}

-- tokens
abbrev pub AreTokens : List (List ℕ) → Type 0
AreTokens [] = ⊤
AreTokens (w ∷ ws) = IsToken w × AreTokens ws

pub AreTokens-append : (xs ys : List (List ℕ)) → AreTokens xs → AreTokens ys → AreTokens (xs ++ ys)
AreTokens-append [] ys h k = k
AreTokens-append (x ∷ xs) ys h k = (h.0, AreTokens-append xs ys h.1 k)

spaced_ends : (ws : List (List ℕ)) → ends (spaced ws) ≡ true
spaced_ends [] = refl
spaced_ends (w ∷ ws) = refl

or_last : (a : Bool) → (a || true) ≡ true
or_last true = refl
or_last false = refl

all_cut : (ws : List (List ℕ)) (p : Position) → AreTokens ws → p.comment ≡ false → texts_of (lexemes_from p (spaced ws)) ≡ ws
all_cut [] p h c = ap texts_of (end_empty p [] refl)
all_cut (w ∷ ws) p h c =
    let rest = w ++ spaced ws in
    let g = h.0.goes (past p 32 rest) (spaced ws) c (spaced_ends ws) in
    ap texts_of (white_passed p 32 rest (or_last p.comment)) ∙ g.cuts ∙ ap (λ x. w ∷ x) (all_cut ws g.place h.1 g.open_line)

-- the words of a written line
pub line_words : (w : List ℕ) (ws : List (List ℕ)) → IsToken w → AreTokens ws → begins_comment (w ++ spaced ws) ≡ false → words (line_text (w ∷ ws)) ≡ w ∷ ws
unfolding words lexemes
line_words w ws h k c =
    let p : Position = record { start = 0; line = 1; comment = begins_comment (w ++ spaced ws) } in
    let g = h.goes p (spaced ws) c (spaced_ends ws) in
    g.cuts ∙ ap (λ x. w ∷ x) (all_cut ws g.place k g.open_line)

-- no LF within the line
clean-append : (xs ys : List ℕ) → list_all no_break xs ≡ true → list_all no_break ys ≡ true → list_all no_break (xs ++ ys) ≡ true
clean-append [] ys h k = k
clean-append (x ∷ xs) ys h k = let t = both_true (no_break x) (list_all no_break xs) h in ap (λ b. b && list_all no_break (xs ++ ys)) t.0 ∙ clean-append xs ys t.1 k

spaced_clean : (ws : List (List ℕ)) → AreTokens ws → list_all no_break (spaced ws) ≡ true
spaced_clean [] h = refl
spaced_clean (w ∷ ws) h = clean-append w (spaced ws) h.0.clean (spaced_clean ws h.1)

one_line : (text : List ℕ) → list_all no_break text ≡ true → (parted text).others ≡ []
one_line [] h = refl
one_line (b ∷ rest) h = by (b == 10) h (one_line rest)
  where
    by : (t : Bool) → (not t && list_all no_break rest) ≡ true → (list_all no_break rest ≡ true → (parted rest).others ≡ [])
        → (let q : Parted = if t then record { first = []; others = (parted rest).first ∷ (parted rest).others } else record { first = b ∷ (parted rest).first; others = (parted rest).others } in q.others) ≡ []
    by true h g = cc
    by false h g = g h

pub line_alone : (w : List ℕ) (ws : List (List ℕ)) → IsToken w → AreTokens ws → (parted (line_text (w ∷ ws))).others ≡ []
line_alone w ws h k = one_line (w ++ spaced ws) (clean-append w (spaced ws) h.clean (spaced_clean ws k))

pub spaced-append : (xs ys : List (List ℕ)) → spaced (xs ++ ys) ≡ spaced xs ++ spaced ys
spaced-append [] ys = refl
spaced-append (x ∷ xs) ys = ap (λ z. 32 ∷ (x ++ z)) (spaced-append xs ys) ∙ ap (λ z. 32 ∷ z) (sym (append_assoc x (spaced xs) (spaced ys)))
