-- What a reader of tokens passed is the first of the words.
use Rattle.std.proofs.Common.{◌≡◌, ℕ, ℤ, ◌≤◌, Bool, true, false, if◌then◌else◌, List, [], ◌∷◌, drop, refl, sym, ap, ◌∙◌, arith, FitsSigned, unsigned_abs}
use Rattle.std.proofs.lemmas.Int.{ints}
use Rattle.std.specs.Str.{bytes_eq}
use mir.Syntax.{w64}
use Rattle.pb_text.specs.Lexeme.{Lexeme, kind_of, kind_of_word}
use Rattle.pb_text.specs.Number.{integer_size, integer_value, largest_number}
use Rattle.pb_text.specs.Taken.{is_next, is_plain, IsNumberTaken}
use Rattle.pb_text.specs.TokensOf.{texts_of}
use Rattle.pb_text.specs.declared.kind.Kind.TheVariants.{Integer, Literal, Misspelt, Other}
use Rattle.pb_text.proofs.BytesRead.{other_byte}
use Rattle.pb_text.proofs.LoneBytes.{other_word}
use Rattle.proof_text.specs.Kinds.{is_integer, is_semicolon}
use Rattle.linear.specs.Table.{place_of}
use Rattle.linear.specs.declared.term.Lit.{Lit}
use Rattle.pb_text.specs.Word.{is_negated, name_of}
use Rattle.pb_text.specs.declared.said.Said.{Said}
use Rattle.proof_text.specs.NamesMet.{NamesMet, met}
use Rattle.proof_text.specs.Next.{IsFirst, IsLiteral, IsMetLit, IsNumber}
use Rattle.proof_text.specs.Words.{halves, is_first, unclosed}
use Rattle.proof_text.proofs.ClosingSemicolon.{passed, stays_open}
use Rattle.proof_text.proofs.FirstSemicolon.{front_word}
use Rattle.proof_text.proofs.ReadIsWritable.{size_of}

-- a number of 64 bits is within the limit
within : (word : List ℕ) (n : ℤ) → n ≡ integer_value word → FitsSigned w64 n → integer_size word ≤ largest_number
within word n value fits =
    let size : unsigned_abs n ≡ integer_size word = ap unsigned_abs value ∙ size_of word in
    omega (arith, ints, fits, size)

is_number : (n : ℤ) (before after : List Lexeme) → FitsSigned w64 n → (t : IsNumberTaken n before after) → IsNumber n t.token.text
is_number n before after fits t = record { integer = ap is_integer t.integer; value = t.value; small = λ _. within t.token.text n t.value fits }

no_closing : (n : ℤ) (before after : List Lexeme) → (t : IsNumberTaken n before after) → is_semicolon (kind_of t.token.text) ≡ false
no_closing n before after t = ap is_semicolon t.integer

pub number_in_line : (n : ℤ) (before after : List Lexeme) → FitsSigned w64 n → IsNumberTaken n before after →
    IsFirst (IsNumber n) (unclosed (texts_of before)) (unclosed (texts_of after))
number_in_line n before after fits t = record {
  word = t.token.text;
  first = ap (λ ts. unclosed (texts_of ts)) t.first ∙ stays_open t.token.text (texts_of after) (no_closing n before after t);
  passed = is_number n before after fits t;
}

pub number_in_front : (n : ℤ) (before after : List Lexeme) → FitsSigned w64 n → IsNumberTaken n before after →
    IsFirst (IsNumber n) (halves (texts_of before)).front (halves (texts_of after)).front
number_in_front n before after fits t = record {
  word = t.token.text;
  first = (front_word before t.token after t.first (no_closing n before after t)).0;
  passed = is_number n before after fits t;
}

pub number_behind : (n : ℤ) (before after : List Lexeme) → IsNumberTaken n before after → (halves (texts_of after)).behind ≡ (halves (texts_of before)).behind
number_behind n before after t = sym ((front_word before t.token after t.first (no_closing n before after t)).1)

-- no word is a `;`
word_kind : (i l m : Bool) → is_semicolon (if i then Integer else if l then Literal else if m then Misspelt else Other) ≡ false
word_kind true l m = refl
word_kind false true m = refl
word_kind false false true = refl
word_kind false false false = refl

no_semicolon : (b : ℕ) → is_plain b ≡ true → is_semicolon (kind_of (b ∷ [])) ≡ false
unfolding kind_of kind_of_word
no_semicolon b h =
    rw (
      other_byte is_plain b 59 h refl,
      other_byte is_plain b 58 h refl,
      other_byte is_plain b 62 h refl,
      other_byte is_plain b 60 h refl,
      other_byte is_plain b 61 h refl,
      other_byte is_plain b 45 h refl,
    ) (word_kind _ _ _)

-- a byte that stands in words is the first of a line's words where it is the next token
pub byte_first : (b : ℕ) (ts : List Lexeme) → is_plain b ≡ true → is_next (b ∷ []) ts ≡ is_first (b ∷ []) (unclosed (texts_of ts))
byte_first b [] h = refl
byte_first b (t ∷ u ∷ rest) h = refl
byte_first b (t ∷ []) h = by (is_semicolon (kind_of t.text)) refl
  where
    by : (s : Bool) → is_semicolon (kind_of t.text) ≡ s → bytes_eq t.text (b ∷ []) ≡ is_first (b ∷ []) (if s then [] else t.text ∷ [])
    by false e = refl
    by true e = other_word t.text (b ∷ []) (λ same. absurd (cc (sym e ∙ ap (λ w. is_semicolon (kind_of w)) same ∙ no_semicolon b h)))

pub byte_left : (b : ℕ) (before after : List Lexeme) → is_plain b ≡ true → after ≡ (if is_next (b ∷ []) before then drop 1 before else before) →
    unclosed (texts_of after) ≡ (if is_first (b ∷ []) (unclosed (texts_of before)) then drop 1 (unclosed (texts_of before)) else unclosed (texts_of before))
byte_left b before after h e =
    ap (λ ts. unclosed (texts_of ts)) e
    ∙ by (is_next (b ∷ []) before)
    ∙ ap (λ s. if s then drop 1 (unclosed (texts_of before)) else unclosed (texts_of before)) (byte_first b before h)
  where
    by : (s : Bool) → unclosed (texts_of (if s then drop 1 before else before)) ≡ (if s then drop 1 (unclosed (texts_of before)) else unclosed (texts_of before))
    by true = passed before
    by false = refl

-- the same number, however it is written
pub same_number : (n m : ℤ) (word : List ℕ) → m ≡ n → IsNumber n word → IsNumber m word
same_number n m word same is = record { integer = is.integer; value = same ∙ is.value; small = is.small }

abbrev numbered : ℕ → Bool → Lit
numbered p t = record { var = record { 0 = p }; negated = t }

-- a literal that was read, its name met
pub met_literal : (k new : NamesMet) (l : Lit) (negated : Bool) (name : List ℕ) (said : Said) (word : List ℕ) → IsLiteral negated name said word →
    new ≡ met k name → l.var.0 ≡ place_of new.names name → l.negated ≡ negated → IsMetLit k l new word
met_literal k new l negated name said word is known variable sign =
    let place : l.var.0 ≡ place_of new.names (name_of word) = variable ∙ ap (place_of new.names) is.spelled in
    let minus : l.negated ≡ is_negated word = sign ∙ is.sign in
    record {
      literal = is.literal;
      value = ap (λ (p : ℕ). numbered p l.negated) place ∙ ap (λ (t : Bool). numbered (place_of new.names (name_of word)) t) minus;
      known = known ∙ ap (met k) is.spelled;
    }

-- words are the one that was cut and those behind it
pub cut_apart : (ts behind : List Lexeme) (t : Lexeme) → ts ≡ t ∷ drop 1 ts → behind ≡ drop 1 ts → texts_of ts ≡ t.text ∷ texts_of behind
cut_apart ts behind t at left = ap texts_of at ∙ ap (λ (us : List Lexeme). t.text ∷ texts_of us) (sym left)
