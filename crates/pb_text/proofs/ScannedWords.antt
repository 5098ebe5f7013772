-- A scanned word is the token at the front of its text: an integer with its number, or a literal.
use Rattle.std.proofs.Common.{◌≡◌, ℕ, ℤ, ◌+◌, ◌<◌, ◌≤◌, ◌==◌, Bool, true, false, ◌&&◌, Option, Some, None, IfSome, List, [], ◌∷◌, length, take, drop, pos, refl, ap, sym, subst, ◌∙◌, arith, add-one}
use Rattle.std.specs.Prelude.{nat_lt, neg_ℤ, if◌then◌else◌}
use Rattle.std.specs.List.{list_all}
use Rattle.std.proofs.lemmas.Bool.Decides.{nat_tests, Decides-eqb}
use Rattle.std.proofs.lemmas.List.{length-take-le}
use Rattle.pb_text.specs.Name.{is_digit, begins_name, continues_name, is_name}
use Rattle.pb_text.specs.Number.{digits_value, integer_size, integer_value, is_negative}
use Rattle.pb_text.specs.Word.{without_sign, is_integer, is_literal, name_of}
use Rattle.pb_text.specs.Lexeme.{begins, begins_arrow_head, kind_of, lexemes_from, lexeme_at, symbol_length}
use Rattle.pb_text.specs.Cutting.{begins_white, begins_word, behind, IsWordFront}
use Rattle.pb_text.specs.Said.{Says, SaysName}
use Rattle.pb_text.specs.Scan.{IsRun, AreDigits, IsIntegerWord, IsNameWord, IsReadName, IsLiteralWord, IsFirst}
use Rattle.pb_text.specs.ShortName.{IsShort}
use Rattle.pb_text.specs.declared.said.Said.{Said}
use Rattle.pb_text.specs.declared.scan.Named.{Named}
use Rattle.pb_text.specs.declared.said.Said.TheVariants as said
use Rattle.pb_text.specs.declared.kind.Kind.{Kind}
use Rattle.pb_text.specs.declared.kind.Kind.TheVariants as kinds
use Rattle.pb_text.specs.declared.kind.Symbol.TheVariants as symbols
use Rattle.pb_text.proofs.Cutting.{begins_is, symbol_first}
use Rattle.pb_text.proofs.KindTests.{integer_is, literal_is}
use Rattle.pb_text.proofs.FirstToken.{word_token, word_longer}
use Rattle.pb_text.proofs.BytesRead.{other_byte, plain_byte, run_front}

-- a byte more at a word's front
front_longer : (n b : ℕ) (rest : List ℕ) → begins_word (b ∷ rest) ≡ true → IsWordFront n rest → IsWordFront (n + 1) (b ∷ rest)
front_longer n b rest h w = subst (λ (m : ℕ). IsWordFront m (b ∷ rest)) (sym (add-one n)) (word_longer n b rest h w)

take_longer : (n b : ℕ) (rest : List ℕ) → take (n + 1) (b ∷ rest) ≡ b ∷ take n rest
take_longer n b rest = ap (λ (m : ℕ). take m (b ∷ rest)) (add-one n)

some_taken : (n : ℕ) (text : List ℕ) → 0 < n → n ≤ length text → nat_lt 0 (length (take n text)) ≡ true
some_taken n text some within = let e : length (take n text) ≡ n = length-take-le n text within in rw e (grind (arith, nat_tests))

both_true : (a b : Bool) → (a && b) ≡ true → (a ≡ true) × (b ≡ true)
both_true true b h = (refl, h)
both_true false b h = absurd (cc h)

both : (s t : Bool) → s ≡ true → t ≡ true → (s && t) ≡ true
both s t h k = rw (h, k) refl

-- integers

pub digits_front : (n v : ℕ) (text rest : List ℕ) → IsRun is_digit n text rest → v ≡ digits_value (take n text) → 0 < n → begins_word rest ≡ false → AreDigits n v text
digits_front n v text rest r value some ends = record { front = run_front is_digit n text rest r ends; some = some; digits = r.passed; value = value }

first_digit : (b : ℕ) (rest : List ℕ) → list_all is_digit (b ∷ rest) ≡ true → is_digit b ≡ true
first_digit b rest h = first (is_digit b) (list_all is_digit rest) h
  where
    first : (s t : Bool) → (s && t) ≡ true → s ≡ true
    first true t e = refl
    first false t e = absurd (cc e)

-- digits have no sign
no_sign : (word : List ℕ) → list_all is_digit word ≡ true → (without_sign word ≡ word) × (is_negative word ≡ false)
no_sign [] h = (refl, refl)
no_sign (b ∷ rest) h =
    let d : is_digit b ≡ true = first_digit b rest h in
    let plus : (b == 43) ≡ false = other_byte is_digit b 43 d refl in
    let minus : (b == 45) ≡ false = other_byte is_digit b 45 d refl in
    (rw (plus, minus) refl, minus)

unsigned_value : (word : List ℕ) → list_all is_digit word ≡ true → integer_value word ≡ pos (digits_value word)
unfolding integer_value integer_size
unsigned_value word h =
    let s = no_sign word h in
    ap (λ (t : Bool). if t then neg_ℤ (pos (digits_value (without_sign word))) else pos (digits_value (without_sign word))) s.1
    ∙ ap (λ (w : List ℕ). pos (digits_value w)) s.0

unsigned_word : (word : List ℕ) → list_all is_digit word ≡ true → nat_lt 0 (length word) ≡ true → is_integer word ≡ true
unfolding is_integer
unsigned_word word h some =
    ap (λ (w : List ℕ). nat_lt 0 (length w) && list_all is_digit w) ((no_sign word h).0) ∙ both (nat_lt 0 (length word)) (list_all is_digit word) some h

pub plain_integer : (n v : ℕ) (text : List ℕ) → AreDigits n v text → IsIntegerWord n (pos v) text
plain_integer n v text d = record {
  front = d.front;
  some = d.some;
  integer = unsigned_word (take n text) d.digits (some_taken n text d.some d.front.within);
  value = ap pos d.value ∙ sym (unsigned_value (take n text) d.digits);
}

-- a word's first byte is no arrow's head
no_head : (rest : List ℕ) → begins_word rest ≡ true → begins_arrow_head rest ≡ false
no_head [] h = absurd (cc h)
no_head (c ∷ more) h =
    elim (c == 62) as (λ (t : Bool). (c == 62) ≡ t → begins_arrow_head (c ∷ more) ≡ false) [
      | true ↦ λ e. absurd (cc (sym (ap (λ (x : ℕ). begins_word (x ∷ more)) ((Decides-eqb c 62).0 e)) ∙ h, head (begins 61 more)))
      | false ↦ λ e. rw e refl
    ] refl
  where
    head : (t : Bool) → ((if t then 2 else 1) == 0) ≡ false
    head true = refl
    head false = refl

minus_word : (rest : List ℕ) → begins_word rest ≡ true → begins_word (45 ∷ rest) ≡ true
minus_word rest h = let e : begins_arrow_head rest ≡ false = no_head rest h in rw e refl

minus_is_integer : (digits : List ℕ) → list_all is_digit digits ≡ true → nat_lt 0 (length digits) ≡ true → is_integer (45 ∷ digits) ≡ true
unfolding is_integer
minus_is_integer digits h some = both (nat_lt 0 (length digits)) (list_all is_digit digits) some h

minus_value : (digits : List ℕ) → integer_value (45 ∷ digits) ≡ neg_ℤ (pos (digits_value digits))
unfolding integer_value integer_size
minus_value digits = refl

plus_is_integer : (digits : List ℕ) → list_all is_digit digits ≡ true → nat_lt 0 (length digits) ≡ true → is_integer (43 ∷ digits) ≡ true
unfolding is_integer
plus_is_integer digits h some = both (nat_lt 0 (length digits)) (list_all is_digit digits) some h

plus_value : (digits : List ℕ) → integer_value (43 ∷ digits) ≡ pos (digits_value digits)
unfolding integer_value integer_size
plus_value digits = refl

minus_integer : (n v : ℕ) (rest : List ℕ) → AreDigits n v rest → IsIntegerWord (n + 1) (neg_ℤ (pos v)) (45 ∷ rest)
minus_integer n v rest d =
    let more : take (n + 1) (45 ∷ rest) ≡ 45 ∷ take n rest = take_longer n 45 rest in
    record {
      front = front_longer n 45 rest (minus_word rest (d.front.bytes 0 d.some)) d.front;
      some = omega arith;
      integer = ap is_integer more ∙ minus_is_integer (take n rest) d.digits (some_taken n rest d.some d.front.within);
      value = ap (λ (k : ℕ). neg_ℤ (pos k)) d.value ∙ sym (ap integer_value more ∙ minus_value (take n rest));
    }

plus_integer : (n v : ℕ) (rest : List ℕ) → AreDigits n v rest → IsIntegerWord (n + 1) (pos v) (43 ∷ rest)
plus_integer n v rest d =
    let more : take (n + 1) (43 ∷ rest) ≡ 43 ∷ take n rest = take_longer n 43 rest in
    record {
      front = front_longer n 43 rest refl d.front;
      some = omega arith;
      integer = ap is_integer more ∙ plus_is_integer (take n rest) d.digits (some_taken n rest d.some d.front.within);
      value = ap pos d.value ∙ sym (ap integer_value more ∙ plus_value (take n rest));
    }

pub integer_first : (n : ℕ) (z : ℤ) (text : List ℕ) → IsIntegerWord n z text → IsFirst text (record { size = n; kind = kinds.Integer; said = said.Number z })
integer_first n z text w = record {
  within = w.front.within;
  some = w.some;
  kind = sym (integer_is (take n text) w.integer);
  says = w.value;
  token = λ p plain. word_token n p text plain w.some w.front;
}

pub plus_word : (n v : ℕ) (text rest : List ℕ) → text ≡ 43 ∷ rest → AreDigits n v rest → IsIntegerWord (n + 1) (pos v) text
plus_word n v text rest at d = subst (λ (xs : List ℕ). IsIntegerWord (n + 1) (pos v) xs) (sym at) (plus_integer n v rest d)

pub negated_word : (n v : ℕ) (text rest : List ℕ) → text ≡ 45 ∷ rest → AreDigits n v rest → IsIntegerWord (n + 1) (neg_ℤ (pos v)) text
negated_word n v text rest at d = subst (λ (xs : List ℕ). IsIntegerWord (n + 1) (neg_ℤ (pos v)) xs) (sym at) (minus_integer n v rest d)

-- literals

name_begun : (b : ℕ) (rest : List ℕ) → begins_name b ≡ true → begins_word (b ∷ rest) ≡ true
name_begun b rest h = plain_byte begins_name b rest h refl refl refl refl refl refl refl refl refl refl

name_of_bytes : (b : ℕ) (rest : List ℕ) → begins_name b ≡ true → nat_lt 0 (length rest) ≡ true → list_all continues_name rest ≡ true → is_name (b ∷ rest) ≡ true
unfolding is_name
name_of_bytes b rest h some all = rw (h, some, all) refl

-- a letter or `_`, and bytes that continue a name up to the word's end
name_first : (n b : ℕ) (text tail rest : List ℕ) → text ≡ b ∷ tail → begins_name b ≡ true → IsRun continues_name n tail rest → 0 < n → begins_word rest ≡ false → IsNameWord (n + 1) text
name_first n b text tail rest at h r some ends =
    let front : IsWordFront n tail = run_front continues_name n tail rest r ends in
    let word : IsNameWord (n + 1) (b ∷ tail) = record {
      front = front_longer n b tail (name_begun b tail h) front;
      some = omega arith;
      name = ap is_name (take_longer n b tail) ∙ name_of_bytes b (take n tail) h (some_taken n tail some front.within) r.passed;
    } in
    subst (IsNameWord (n + 1)) (sym at) word

-- a name of which nothing else was read
pub plain_name : (n b : ℕ) (text tail rest : List ℕ) → text ≡ b ∷ tail → begins_name b ≡ true → IsRun continues_name n tail rest → 0 < n → begins_word rest ≡ false → IsReadName (n + 1) said.Nothing text
plain_name n b text tail rest at h r some ends = record { word = name_first n b text tail rest at h r some ends; plain = tt; negated = tt }

digit_continues : (b : ℕ) → is_digit b ≡ true → continues_name b ≡ true
digit_continues b h = grind (arith, nat_tests)

digits_continue : (xs : List ℕ) → list_all is_digit xs ≡ true → list_all continues_name xs ≡ true
digits_continue [] h = refl
digits_continue (x ∷ xs) h =
    let t : (is_digit x ≡ true) × (list_all is_digit xs ≡ true) = both_true (is_digit x) (list_all is_digit xs) h in
    both (continues_name x) (list_all continues_name xs) (digit_continues x t.0) (digits_continue xs t.1)

digit_run : (n : ℕ) (text rest : List ℕ) → IsRun is_digit n text rest → IsRun continues_name n text rest
digit_run n text rest r = record { within = r.within; behind = r.behind; bytes = r.bytes; passed = digits_continue (take n text) r.passed }

-- a short name, and its number
pub short_first : (n k b : ℕ) (text tail rest : List ℕ) → text ≡ b ∷ tail → b ≡ 120 → IsRun is_digit n tail rest → IsShort (120 ∷ take n tail) k → 0 < n → begins_word rest ≡ false → IsReadName (n + 1) (said.Short k) text
short_first n k b text tail rest at x r short some ends =
    let here : text ≡ 120 ∷ tail = at ∙ ap (λ (c : ℕ). c ∷ tail) x in
    let more : take (n + 1) text ≡ 120 ∷ take n tail = ap (take (n + 1)) here ∙ take_longer n 120 tail in
    record {
      word = name_first n 120 text tail rest here refl (digit_run n tail rest r) some ends;
      plain = subst (λ (w : List ℕ). Says (said.Short k) w) (sym more) short;
      negated = subst (λ (w : List ℕ). IsShort w k) (sym more) short;
    }

tilde_literal : (name : List ℕ) → is_name name ≡ true → is_literal (126 ∷ name) ≡ true
unfolding is_literal
tilde_literal name h = h

first_of_name : (b : ℕ) (rest : List ℕ) → is_name (b ∷ rest) ≡ true → begins_name b ≡ true
unfolding is_name
first_of_name b rest h = first (begins_name b) (nat_lt 0 (length rest)) (list_all continues_name rest) h
  where
    first : (s t u : Bool) → (s && t && u) ≡ true → s ≡ true
    first true t u e = refl
    first false t u e = absurd (cc e)

nothing_named : is_name [] ≡ false
unfolding is_name
nothing_named = refl

plain_literal : (name : List ℕ) → is_name name ≡ true → is_literal name ≡ true
unfolding is_literal
plain_literal [] h = absurd (cc (h, nothing_named))
plain_literal (b ∷ rest) h =
    let other : (b == 126) ≡ false = other_byte begins_name b 126 (first_of_name b rest h) refl in
    rw other h

pub tilde_first : (n : ℕ) (s : Said) (text name : List ℕ) → text ≡ 126 ∷ name → IsReadName n s name → IsLiteralWord (n + 1) s text
tilde_first n s text name at r =
    let more : take (n + 1) (126 ∷ name) ≡ 126 ∷ take n name = take_longer n 126 name in
    let word : IsLiteralWord (n + 1) s (126 ∷ name) = record {
      front = front_longer n 126 name refl r.word.front;
      some = omega arith;
      literal = ap is_literal more ∙ tilde_literal (take n name) r.word.name;
      says = subst (Says s) (sym more) r.negated;
    } in
    subst (IsLiteralWord (n + 1) s) (sym at) word

name_literal : (n : ℕ) (s : Said) (text : List ℕ) → IsReadName n s text → IsLiteralWord n s text
name_literal n s text r = record { front = r.word.front; some = r.word.some; literal = plain_literal (take n text) r.word.name; says = r.plain }

pub literal_of : (text : List ℕ) (found : Option Named) → IfSome found (λ w. IsReadName w.size w.said text) → IfSome found (λ w. IsLiteralWord w.size w.said text)
literal_of text None h = tt
literal_of text (Some w) h = name_literal w.size w.said text h

pub literal_first : (n : ℕ) (s : Said) (text : List ℕ) → IsLiteralWord n s text → IsFirst text (record { size = n; kind = kinds.Literal; said = s })
literal_first n s text w = record {
  within = w.front.within;
  some = w.some;
  kind = sym (literal_is (take n text) w.literal);
  says = w.says;
  token = λ p plain. word_token n p text plain w.some w.front;
}

-- what was read of a literal was read of its name
pub says_name : (s : Said) (word : List ℕ) → Says s word → SaysName s (name_of word)
says_name said.Nothing word h = tt
says_name (said.Number z) word h = tt
says_name (said.Short k) word h = h

-- symbols

symbol_token : (n : ℕ) (k : Kind) (text : List ℕ) → begins_white text ≡ false → symbol_length text ≡ n → 0 < n → n ≤ length text → k ≡ kind_of (take n text) →
    IsFirst text (record { size = n; kind = k; said = said.Nothing })
symbol_token n k text white size some within kind = record {
  within = within;
  some = some;
  kind = kind;
  says = tt;
  token = λ p plain.
      let first = symbol_first p text plain white (omega (arith, size, some)) in
      subst (λ (m : ℕ). lexemes_from p text ≡ lexeme_at p (take m text) ∷ lexemes_from (behind m p) (drop m text)) size first;
}

semicolon_kind : kinds.Symbol symbols.Semicolon ≡ kind_of (59 ∷ [])
unfolding kind_of
semicolon_kind = refl

equals_kind : kinds.Symbol symbols.Equals ≡ kind_of (61 ∷ [])
unfolding kind_of
equals_kind = refl

at_least_kind : kinds.Symbol symbols.AtLeast ≡ kind_of (62 ∷ 61 ∷ [])
unfolding kind_of
at_least_kind = refl

pub semicolon_first : (text rest : List ℕ) → text ≡ 59 ∷ rest → IsFirst text (record { size = 1; kind = kinds.Symbol symbols.Semicolon; said = said.Nothing })
semicolon_first text rest at =
    subst (λ (xs : List ℕ). IsFirst xs (record { size = 1; kind = kinds.Symbol symbols.Semicolon; said = said.Nothing })) (sym at)
    (symbol_token 1 (kinds.Symbol symbols.Semicolon) (59 ∷ rest) refl refl (omega arith) (omega arith) semicolon_kind)

pub equals_first : (text rest : List ℕ) → text ≡ 61 ∷ rest → IsFirst text (record { size = 1; kind = kinds.Symbol symbols.Equals; said = said.Nothing })
equals_first text rest at =
    subst (λ (xs : List ℕ). IsFirst xs (record { size = 1; kind = kinds.Symbol symbols.Equals; said = said.Nothing })) (sym at)
    (symbol_token 1 (kinds.Symbol symbols.Equals) (61 ∷ rest) refl refl (omega arith) (omega arith) equals_kind)

pub at_least_first : (text rest : List ℕ) → text ≡ 62 ∷ rest → begins 61 rest ≡ true → IsFirst text (record { size = 2; kind = kinds.Symbol symbols.AtLeast; said = said.Nothing })
at_least_first text rest at equals =
    let behind_it = begins_is 61 rest equals in
    let here : text ≡ 62 ∷ 61 ∷ behind_it.0 = at ∙ ap (λ (xs : List ℕ). 62 ∷ xs) behind_it.1 in
    subst (λ (xs : List ℕ). IsFirst xs (record { size = 2; kind = kinds.Symbol symbols.AtLeast; said = said.Nothing })) (sym here)
    (symbol_token 2 (kinds.Symbol symbols.AtLeast) (62 ∷ 61 ∷ behind_it.0) refl refl (omega arith) (omega arith) at_least_kind)
