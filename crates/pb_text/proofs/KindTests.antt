-- The kind of a token and the tests of its bytes say the same.
use Rattle.std.proofs.Common.{◌≡◌, ℕ, Bool, true, false, not, ◌&&◌, ◌||◌, List, [], ◌∷◌, refl, ap, ◌∙◌, codes, arith}
use Rattle.std.specs.List.{list_all}
use Rattle.std.proofs.lemmas.Bool.Decides.{nat_tests}
use Rattle.std.proofs.lemmas.Slice.Eq.{bytes_eq-Decides}
use Rattle.std.specs.Prelude.{◌==◌, length, nat_lt, if◌then◌else◌}
use Rattle.std.specs.Str.{bytes_eq}
use Rattle.pb_text.specs.Name.{is_digit, is_name, begins_name}
use Rattle.pb_text.specs.Word.{is_sign, without_sign, begins_literal, is_integer, is_literal, is_misspelt}
use Rattle.pb_text.specs.Lexeme.{kind_of, kind_of_word}
use Rattle.pb_text.specs.declared.kind.Kind.{Kind}
use Rattle.pb_text.specs.declared.kind.Kind.TheVariants as kinds
use Rattle.pb_text.specs.declared.kind.Symbol.{Symbol}

-- a choice that is not its first is its second
through : {x y k : Kind} (t : Bool) → (if t then x else y) ≡ k → (x ≡ k → ⊥) → y ≡ k
through true h n = absurd (n h)
through false h n = h

-- no symbol and no stray byte has the kind of a word
word_of_kind : (text : List ℕ) (k : Kind) → kind_of text ≡ k → ((s : Symbol) → kinds.Symbol s ≡ k → ⊥) → (kinds.Stray ≡ k → ⊥) → kind_of_word text ≡ k
unfolding kind_of
word_of_kind text k h n m =
    through (bytes_eq text (codes "<") || bytes_eq text (codes ">"))
    (through (bytes_eq text (codes "->"))
    (through (bytes_eq text (codes "="))
    (through (bytes_eq text (codes "<="))
    (through (bytes_eq text (codes ">="))
    (through (bytes_eq text (codes ":"))
    (through (bytes_eq text (codes ";")) h (n _)) (n _)) (n _)) (n _)) (n _)) (n _)) m

-- the first test that a choice of kinds passed
integer_test : (a b c : Bool) → (if a then kinds.Integer else if b then kinds.Literal else if c then kinds.Misspelt else kinds.Other) ≡ kinds.Integer → a ≡ true
integer_test true b c h = refl
integer_test false true c h = absurd (cc h)
integer_test false false true h = absurd (cc h)
integer_test false false false h = absurd (cc h)

literal_test : (a b c : Bool) → (if a then kinds.Integer else if b then kinds.Literal else if c then kinds.Misspelt else kinds.Other) ≡ kinds.Literal → b ≡ true
literal_test true b c h = absurd (cc h)
literal_test false true c h = refl
literal_test false false true h = absurd (cc h)
literal_test false false false h = absurd (cc h)

misspelt_test : (a b c : Bool) → (if a then kinds.Integer else if b then kinds.Literal else if c then kinds.Misspelt else kinds.Other) ≡ kinds.Misspelt → c ≡ true
misspelt_test true b c h = absurd (cc h)
misspelt_test false true c h = absurd (cc h)
misspelt_test false false true h = refl
misspelt_test false false false h = absurd (cc h)

misspelt_choice : (a b c : Bool) → a ≡ false → not b ≡ true → c ≡ true → (if a then kinds.Integer else if b then kinds.Literal else if c then kinds.Misspelt else kinds.Other) ≡ kinds.Misspelt
misspelt_choice true b c h k m = absurd (cc h)
misspelt_choice false true c h k m = absurd (cc k)
misspelt_choice false false true h k m = refl
misspelt_choice false false false h k m = absurd (cc m)

both_true : (a b : Bool) → (a && b) ≡ true → (a ≡ true) × (b ≡ true)
both_true true b h = (refl, h)
both_true false b h = absurd (cc h)

last_true : (a b : Bool) → (a && b) ≡ true → b ≡ true
last_true true b h = h
last_true false b h = absurd (cc h)

pub integer_kind : (text : List ℕ) → kind_of text ≡ kinds.Integer → is_integer text ≡ true
unfolding kind_of_word
integer_kind text h = integer_test (is_integer text) (is_literal text) (is_misspelt text) (word_of_kind text _ h (λ s e. cc e) (λ e. cc e))

pub literal_kind : (text : List ℕ) → kind_of text ≡ kinds.Literal → is_literal text ≡ true
unfolding kind_of_word
literal_kind text h = literal_test (is_integer text) (is_literal text) (is_misspelt text) (word_of_kind text _ h (λ s e. cc e) (λ e. cc e))

pub misspelt_kind : (text : List ℕ) → kind_of text ≡ kinds.Misspelt → is_misspelt text ≡ true
unfolding kind_of_word
misspelt_kind text h = misspelt_test (is_integer text) (is_literal text) (is_misspelt text) (word_of_kind text _ h (λ s e. cc e) (λ e. cc e))

-- what follows the sign of an integer's token is digits
pub integer_digits : (text : List ℕ) → kind_of text ≡ kinds.Integer → list_all is_digit (without_sign text) ≡ true
unfolding is_integer
integer_digits text h = last_true (nat_lt 0 (length (without_sign text))) _ (integer_kind text h)

-- a text with this kind of bytes is another than one without
other_text : (t : List ℕ → Bool) (a b : List ℕ) → t a ≡ true → t b ≡ false → bytes_eq a b ≡ false
other_text t a b h k =
    elim (bytes_eq a b) as (λ (r : Bool). bytes_eq a b ≡ r → r ≡ false) [
      | true ↦ λ e. absurd (cc (ap t ((bytes_eq-Decides a b).0 e), h, k))
      | false ↦ λ e. refl
    ] refl

-- no symbol and no stray byte passes the test, so the kind is a word's
kind_is_word : (t : List ℕ → Bool) (text : List ℕ) → t text ≡ true →
    t (codes ";") ≡ false → t (codes ":") ≡ false → t (codes ">=") ≡ false → t (codes "<=") ≡ false → t (codes "=") ≡ false →
    t (codes "->") ≡ false → t (codes "<") ≡ false → t (codes ">") ≡ false → kind_of text ≡ kind_of_word text
unfolding kind_of
kind_is_word t text h semicolon colon at_least at_most equals arrow less greater =
    rw (
      other_text t text _ h semicolon,
      other_text t text _ h colon,
      other_text t text _ h at_least,
      other_text t text _ h at_most,
      other_text t text _ h equals,
      other_text t text _ h arrow,
      other_text t text _ h less,
      other_text t text _ h greater,
    ) refl

pub integer_is : (text : List ℕ) → is_integer text ≡ true → kind_of text ≡ kinds.Integer
unfolding is_integer kind_of_word
integer_is text h = kind_is_word is_integer text h refl refl refl refl refl refl refl refl ∙ rw h refl

-- a letter, `_` or `~` is neither a sign nor a digit
no_sign : (b : ℕ) → (begins_name b || (b == 126)) ≡ true → is_sign b ≡ false
no_sign b h = grind (arith, nat_tests)

no_digit : (b : ℕ) → (begins_name b || (b == 126)) ≡ true → is_digit b ≡ false
no_digit b h = grind (arith, nat_tests)

and_false : (a : Bool) → (a && false) ≡ false
and_false true = refl
and_false false = refl

-- a word that begins as a literal does is no integer
literal_no_integer : (text : List ℕ) → begins_literal text ≡ true → is_integer text ≡ false
unfolding is_integer
literal_no_integer [] h = absurd (cc h)
literal_no_integer (b ∷ rest) h = rw (no_sign b h, no_digit b h) (and_false (nat_lt 0 (length (b ∷ rest))))

or_last : (a b : Bool) → b ≡ true → (a || b) ≡ true
or_last true b h = refl
or_last false b h = h

or_first : (a b : Bool) → a ≡ true → (a || b) ≡ true
or_first true b h = refl
or_first false b h = absurd (cc h)

first_true : (a b c : Bool) → (a && b && c) ≡ true → a ≡ true
first_true true b c h = refl
first_true false b c h = absurd (cc h)

-- a literal begins as one
literal_begins : (text : List ℕ) → is_literal text ≡ true → begins_literal text ≡ true
unfolding is_literal is_name
literal_begins [] h = absurd (cc h)
literal_begins (b ∷ rest) h =
    elim (b == 126) as (λ (t : Bool). (b == 126) ≡ t → begins_literal (b ∷ rest) ≡ true) [
      | true ↦ λ e. or_last (begins_name b) (b == 126) e
      | false ↦ λ e.
          let name : is_name (b ∷ rest) ≡ true = rw e at h in
          or_first (begins_name b) (b == 126) (first_true (begins_name b) _ _ name)
    ] refl

pub literal_is : (text : List ℕ) → is_literal text ≡ true → kind_of text ≡ kinds.Literal
unfolding is_literal is_name kind_of_word
literal_is text h =
    kind_is_word is_literal text h refl refl refl refl refl refl refl refl
    ∙ rw (literal_no_integer text (literal_begins text h), h) refl

pub misspelt_is : (text : List ℕ) → is_misspelt text ≡ true → kind_of text ≡ kinds.Misspelt
unfolding is_misspelt kind_of_word
misspelt_is text h =
    let t : (begins_literal text ≡ true) × (not (is_literal text) ≡ true) = both_true (begins_literal text) (not (is_literal text)) h in
    kind_is_word is_misspelt text h refl refl refl refl refl refl refl refl
    ∙ misspelt_choice (is_integer text) (is_literal text) (is_misspelt text) (literal_no_integer text t.0) t.1 h
