-- How a text is cut: byte by byte within a word, at a symbol, and at white space.
use Rattle.std.proofs.Common.{◌≡◌, ℕ, zero, suc, ◌+◌, ◌-◌, ◌<◌, ◌==◌, Bool, true, false, not, ◌&&◌, ◌||◌, ◌⊎◌, inl, inr, List, [], ◌∷◌, ◌++◌, length, take, drop, refl, ap, subst, sym, ◌∙◌, arith, append_assoc}
use Rattle.std.proofs.lemmas.List.{append-nil}
use Rattle.std.proofs.lemmas.Bool.Decides.{Decides-eqb}
use Rattle.std.specs.Prelude.{if◌then◌else◌}
use Rattle.pb_text.specs.Lexeme.{Lexeme, Position, Cut, cut, past, all_tokens, begins, begins_arrow_head, is_white, symbol_length, lexemes_from, lexeme_at}
use Rattle.pb_text.specs.Cutting.{begins_white, begins_word, behind}

-- which of three a choice takes
first_of_three : {A : Type 0} (s t : Bool) (x y z : A) → s ≡ true → (if s then x else if t then y else z) ≡ x
first_of_three true t x y z h = refl
first_of_three false t x y z h = absurd (cc h)

second_of_three : {A : Type 0} (s t : Bool) (x y z : A) → s ≡ false → t ≡ true → (if s then x else if t then y else z) ≡ y
second_of_three true t x y z h k = absurd (cc h)
second_of_three false true x y z h k = refl
second_of_three false false x y z h k = absurd (cc k)

third_of_three : {A : Type 0} (s t : Bool) (x y z : A) → s ≡ false → t ≡ false → (if s then x else if t then y else z) ≡ z
third_of_three true t x y z h k = absurd (cc h)
third_of_three false true x y z h k = absurd (cc k)
third_of_three false false x y z h k = refl

-- both tests of a byte of a word
word_tests : (a b : Bool) → (not a && b) ≡ true → (a ≡ false) × (b ≡ true)
word_tests true b h = absurd (cc h)
word_tests false b h = (refl, h)

last_false : (a b : Bool) → (a || b) ≡ false → b ≡ false
last_false true b h = absurd (cc h)
last_false false b h = h

or_false : (a b : Bool) → a ≡ false → b ≡ false → (a || b) ≡ false
or_false true b h k = absurd (cc h)
or_false false b h k = k

-- the position behind one byte that is no LF
pub past_plain : (p : Position) (b : ℕ) (rest : List ℕ) → (b == 10) ≡ false → past p b rest ≡ behind 1 p
past_plain p b rest h = rw h refl

pub behind_more : (n : ℕ) (p : Position) → behind 1 (behind n p) ≡ behind (n + 1) p
behind_more n p = let e : p.start + n + 1 ≡ p.start + (n + 1) = omega arith in rw e refl

-- nothing is left at the end
pub end_empty : (p : Position) (text : List ℕ) → text ≡ [] → lexemes_from p text ≡ []
unfolding lexemes_from
end_empty p [] h = refl
end_empty p (b ∷ rest) h = absurd (cc h)

-- a byte that parts tokens gives none
pub white_passed : (p : Position) (b : ℕ) (rest : List ℕ) → (p.comment || is_white b) ≡ true → lexemes_from p (b ∷ rest) ≡ lexemes_from (past p b rest) rest
unfolding lexemes_from
white_passed p b rest h = ap (all_tokens p) (first_of_three (p.comment || is_white b) (symbol_length (b ∷ rest) == 0) _ _ _ h)

-- a byte of a word goes in front of what follows it
pub cut_word : (p : Position) (b : ℕ) (rest : List ℕ) → p.comment ≡ false → begins_word (b ∷ rest) ≡ true →
    cut p (b ∷ rest) ≡ record { word = b ∷ (cut (behind 1 p) rest).word; tokens = (cut (behind 1 p) rest).tokens }
cut_word p b rest plain h =
    let t : (is_white b ≡ false) × ((symbol_length (b ∷ rest) == 0) ≡ true) = word_tests (is_white b) (symbol_length (b ∷ rest) == 0) h in
    let e : past p b rest ≡ behind 1 p = past_plain p b rest (last_false _ (b == 10) t.0) in
    second_of_three (p.comment || is_white b) (symbol_length (b ∷ rest) == 0) _ _ _ (or_false _ _ plain t.0) t.1
    ∙ ap (λ (q : Position). let c : Cut = record { word = b ∷ (cut q rest).word; tokens = (cut q rest).tokens } in c) e

-- a cut without a word is its tokens
no_word_of_three : (s t : Bool) (p : Position) (x y z : List Lexeme) (w : List ℕ) → (not s && t) ≡ false →
    let c : Cut = if s then record { word = []; tokens = x } else if t then record { word = w; tokens = y } else record { word = []; tokens = z } in
    c ≡ record { word = []; tokens = all_tokens p c }
no_word_of_three true t p x y z w h = refl
no_word_of_three false true p x y z w h = absurd (cc h)
no_word_of_three false false p x y z w h = refl

drop_false : (c w t : Bool) → c ≡ false → (not w && t) ≡ false → (not (c || w) && t) ≡ false
drop_false true w t h k = absurd (cc h)
drop_false false w t h k = k

-- where no byte of a word stands, the cut has no word
pub cut_no_word : (p : Position) (text : List ℕ) → p.comment ≡ false → begins_word text ≡ false →
    cut p text ≡ record { word = []; tokens = lexemes_from p text }
unfolding lexemes_from
cut_no_word p [] plain h = refl
cut_no_word p (b ∷ rest) plain h =
    no_word_of_three (p.comment || is_white b) (symbol_length (b ∷ rest) == 0) p _ _ _ _ (drop_false p.comment (is_white b) _ plain h)

pub take_next : (n : ℕ) (text : List ℕ) (b : ℕ) (rest : List ℕ) → b ∷ rest ≡ drop n text → take (n + 1) text ≡ take n text ++ b ∷ []
take_next zero [] b rest h = absurd (cc h)
take_next zero (a ∷ text) b rest h = let e : b ≡ a = cc in ap (λ (x : ℕ). x ∷ []) (sym e)
take_next (suc n) [] b rest h = absurd (cc h)
take_next (suc n) (a ∷ text) b rest h = let e : suc n + 1 ≡ suc (n + 1) = omega arith in rw e (ap (λ (xs : List ℕ). a ∷ xs) (take_next n text b rest h))

pub word_not_empty : (text : List ℕ) → begins_word text ≡ true → 0 < length text
word_not_empty [] h = absurd (cc h)
word_not_empty (b ∷ rest) h = omega arith

-- a word's front grows by one byte
pub word_grows : (p : Position) (n : ℕ) (text rest : List ℕ) → p.comment ≡ false → rest ≡ drop n text → begins_word rest ≡ true →
    cut p text ≡ record { word = take n text ++ (cut (behind n p) rest).word; tokens = (cut (behind n p) rest).tokens } →
    cut p text ≡ record { word = take (n + 1) text ++ (cut (behind (n + 1) p) (drop 1 rest)).word; tokens = (cut (behind (n + 1) p) (drop 1 rest)).tokens }
word_grows p n text [] plain e h so_far = absurd (cc h)
word_grows p n text (b ∷ rest) plain e h so_far =
    let one : cut (behind n p) (b ∷ rest) ≡ record { word = b ∷ (cut (behind 1 (behind n p)) rest).word; tokens = (cut (behind 1 (behind n p)) rest).tokens } = cut_word (behind n p) b rest plain h in
    let more : take (n + 1) text ≡ take n text ++ b ∷ [] = take_next n text b rest e in
    so_far
    ∙ ap (λ (c : Cut). let d : Cut = record { word = take n text ++ c.word; tokens = c.tokens } in d) one
    ∙ ap (λ (q : Position). let d : Cut = record { word = take n text ++ (b ∷ (cut q rest).word); tokens = (cut q rest).tokens } in d) (behind_more n p)
    ∙ ap (λ (w : List ℕ). let d : Cut = record { word = w; tokens = (cut (behind (n + 1) p) rest).tokens } in d)
    (rw more (sym (append_assoc (take n text) (b ∷ []) _)))

-- a word's front is the word where no byte of a word follows
pub word_ends : (p : Position) (n : ℕ) (text rest : List ℕ) → p.comment ≡ false → rest ≡ drop n text → begins_word rest ≡ false →
    cut p text ≡ record { word = take n text ++ (cut (behind n p) rest).word; tokens = (cut (behind n p) rest).tokens } →
    cut p text ≡ record { word = take n text; tokens = lexemes_from (behind n p) (drop n text) }
word_ends p n text rest plain e h so_far =
    so_far
    ∙ ap (λ (c : Cut). let d : Cut = record { word = take n text ++ c.word; tokens = c.tokens } in d) (cut_no_word (behind n p) rest plain h)
    ∙ rw (e, append-nil) refl

-- a word that is not empty is the first token
pub word_first : (p : Position) (w : List ℕ) (text : List ℕ) (more : List Lexeme) → 0 < length w →
    cut p text ≡ record { word = w; tokens = more } → lexemes_from p text ≡ lexeme_at p w ∷ more
unfolding lexemes_from
word_first p [] text more l h = absurd (omega (arith, l))
word_first p (b ∷ w) text more l h = ap (all_tokens p) h

-- where no white space and no symbol stands, a word does, or the text ends
pub empty_word : (p : Position) (text : List ℕ) → p.comment ≡ false → begins_white text ≡ false → symbol_length text ≡ 0 → (cut p text).word ≡ [] → text ≡ []
empty_word p [] plain w s h = refl
empty_word p (b ∷ rest) plain w s h =
    let t : begins_word (b ∷ rest) ≡ true = rw (w, s) refl in
    let e : (cut p (b ∷ rest)).word ≡ b ∷ (cut (behind 1 p) rest).word = ap (λ (c : Cut). c.word) (cut_word p b rest plain t) in
    absurd (cc (sym e ∙ h))

-- at a symbol, the cut of what follows its first byte is asked for what follows its last
symbol_cut : (p : Position) (b : ℕ) (rest : List ℕ) → p.comment ≡ false → is_white b ≡ false → (symbol_length (b ∷ rest) == 0) ≡ false →
    lexemes_from p (b ∷ rest) ≡ lexeme_at p (take (symbol_length (b ∷ rest)) (b ∷ rest)) ∷ drop (symbol_length (b ∷ rest) - 1) (lexemes_from (behind 1 p) rest)
unfolding lexemes_from
symbol_cut p b rest plain w s =
    ap (all_tokens p) (third_of_three (p.comment || is_white b) (symbol_length (b ∷ rest) == 0) _ _ _ (or_false _ _ plain w) s)
    ∙ ap (λ (q : Position). lexeme_at p (take (symbol_length (b ∷ rest)) (b ∷ rest)) ∷ drop (symbol_length (b ∷ rest) - 1) (all_tokens q (cut q rest)))
    (past_plain p b rest (last_false _ (b == 10) w))

-- the same, the symbol having so many bytes
sized_cut : (n : ℕ) (p : Position) (b : ℕ) (rest : List ℕ) → p.comment ≡ false → is_white b ≡ false → symbol_length (b ∷ rest) ≡ n → (n == 0) ≡ false →
    lexemes_from p (b ∷ rest) ≡ lexeme_at p (take n (b ∷ rest)) ∷ drop (n - 1) (lexemes_from (behind 1 p) rest)
sized_cut n p b rest plain w s some =
    let e : (symbol_length (b ∷ rest) == 0) ≡ false = ap (λ (k : ℕ). k == 0) s ∙ some in
    symbol_cut p b rest plain w e
    ∙ ap (λ (k : ℕ). lexeme_at p (take k (b ∷ rest)) ∷ drop (k - 1) (lexemes_from (behind 1 p) rest)) s

pub begins_is : (a : ℕ) (rest : List ℕ) → begins a rest ≡ true → (more : List ℕ) × (rest ≡ a ∷ more)
begins_is a [] h = absurd (cc h)
begins_is a (b ∷ rest) h = (rest, ap (λ (x : ℕ). x ∷ rest) ((Decides-eqb b a).0 h))

-- how many bytes a symbol has, by the tests of its first bytes
abbrev size_by : Bool → Bool → Bool → Bool → ℕ
size_by s t e a = if s then 1 else if t then (if e then 2 else 1) else if a then 2 else 0

-- what makes a symbol of two bytes
two_bytes : (s t e a : Bool) → size_by s t e a ≡ 2 → (e ≡ true) ⊎ (a ≡ true)
two_bytes true t e a h = absurd (omega (arith, h))
two_bytes false true true a h = inl refl
two_bytes false true false a h = absurd (omega (arith, h))
two_bytes false false e true h = inr refl
two_bytes false false e false h = absurd (omega (arith, h))

-- a symbol has one byte or two
one_or_two : (s t e a : Bool) → 0 < size_by s t e a →
    (size_by s t e a ≡ 1) ⊎ (size_by s t e a ≡ 2)
one_or_two true t e a h = inl refl
one_or_two false true true a h = inr refl
one_or_two false true false a h = inl refl
one_or_two false false e true h = inr refl
one_or_two false false e false h = absurd (omega (arith, h))

pub symbol_sizes : (b : ℕ) (rest : List ℕ) → 0 < symbol_length (b ∷ rest) → (symbol_length (b ∷ rest) ≡ 1) ⊎ (symbol_length (b ∷ rest) ≡ 2)
symbol_sizes b rest some = one_or_two ((b == 59) || (b == 58) || (b == 61)) ((b == 60) || (b == 62)) (begins 61 rest) ((b == 45) && begins_arrow_head rest) some

both_true : (a b : Bool) → (a && b) ≡ true → (a ≡ true) × (b ≡ true)
both_true true b h = (refl, h)
both_true false b h = absurd (cc h)

not_true : (a : Bool) → not a ≡ true → a ≡ false
not_true true h = absurd (cc h)
not_true false h = refl

-- the second byte of a symbol would be a symbol by itself
pub record IsSecond (rest : List ℕ) : Type 0 where
  pub byte : ℕ
  pub more : List ℕ
  pub is : rest ≡ byte ∷ more
  pub dense : is_white byte ≡ false
  pub single : symbol_length (byte ∷ more) ≡ 1

after_equals : (rest : List ℕ) → begins 61 rest ≡ true → IsSecond rest
after_equals rest h = let m = begins_is 61 rest h in record { byte = 61; more = m.0; is = m.1; dense = refl; single = refl }

after_arrow : (rest : List ℕ) → begins_arrow_head rest ≡ true → IsSecond rest
after_arrow [] h = absurd (cc h)
after_arrow (c ∷ more) h =
    let t : ((c == 62) ≡ true) × (not (begins 61 more) ≡ true) = both_true (c == 62) (not (begins 61 more)) h in
    let e : begins 61 more ≡ false = not_true (begins 61 more) t.1 in
    let size : symbol_length (62 ∷ more) ≡ 1 = rw e refl in
    record { byte = 62; more = more; is = ap (λ (x : ℕ). x ∷ more) ((Decides-eqb c 62).0 t.0); dense = refl; single = size }

pub second_byte : (b : ℕ) (rest : List ℕ) → symbol_length (b ∷ rest) ≡ 2 → IsSecond rest
second_byte b rest h =
    elim (two_bytes ((b == 59) || (b == 58) || (b == 61)) ((b == 60) || (b == 62)) (begins 61 rest) ((b == 45) && begins_arrow_head rest) h) [
      | inl e ↦ after_equals rest e
      | inr a ↦ after_arrow rest ((both_true (b == 45) (begins_arrow_head rest) a).1)
    ]

two_byte_token : (p : Position) (b : ℕ) (rest : List ℕ) → p.comment ≡ false → is_white b ≡ false → symbol_length (b ∷ rest) ≡ 2 → IsSecond rest →
    lexemes_from p (b ∷ rest) ≡ lexeme_at p (take 2 (b ∷ rest)) ∷ lexemes_from (behind 2 p) (drop 2 (b ∷ rest))
two_byte_token p b rest plain w s second =
    let inner : lexemes_from (behind 1 p) (second.byte ∷ second.more) ≡ lexeme_at (behind 1 p) (second.byte ∷ []) ∷ lexemes_from (behind 1 (behind 1 p)) second.more =
    sized_cut 1 (behind 1 p) second.byte second.more plain second.dense second.single refl in
    let position : behind 1 (behind 1 p) ≡ behind 2 p = behind_more 1 p in
    sized_cut 2 p b rest plain w s refl
    ∙ ap (λ (xs : List Lexeme). lexeme_at p (take 2 (b ∷ rest)) ∷ drop 1 xs) (ap (lexemes_from (behind 1 p)) second.is ∙ inner)
    ∙ ap (λ (q : Position). lexeme_at p (take 2 (b ∷ rest)) ∷ lexemes_from q second.more) position
    ∙ ap (λ (xs : List ℕ). lexeme_at p (take 2 (b ∷ rest)) ∷ lexemes_from (behind 2 p) (drop 1 xs)) (sym second.is)

-- a symbol is the first token
pub symbol_first : (p : Position) (text : List ℕ) → p.comment ≡ false → begins_white text ≡ false → 0 < symbol_length text →
    lexemes_from p text ≡ lexeme_at p (take (symbol_length text) text) ∷ lexemes_from (behind (symbol_length text) p) (drop (symbol_length text) text)
symbol_first p [] plain w s = absurd (omega (arith, s))
symbol_first p (b ∷ rest) plain w s =
    let Goal : ℕ → Type 0 = λ n. lexemes_from p (b ∷ rest) ≡ lexeme_at p (take n (b ∷ rest)) ∷ lexemes_from (behind n p) (drop n (b ∷ rest)) in
    elim (symbol_sizes b rest s) [
      | inl one ↦ subst Goal (sym one) (sized_cut 1 p b rest plain w one refl)
      | inr two ↦ subst Goal (sym two) (two_byte_token p b rest plain w two (second_byte b rest two))
    ]
