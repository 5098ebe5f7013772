-- A token that was scanned is taken: what is left stands behind it.
use Rattle.std.proofs.Common.{◌≡◌, ℕ, ℤ, ◌+◌, Bool, List, ◌∷◌, take, drop, refl, ap, sym, ◌∙◌}
use Rattle.pb_text.specs.Cursor.{ahead, comment_at, position_of, IsAtToken}
use Rattle.pb_text.specs.Cutting.{behind}
use Rattle.pb_text.specs.Lexeme.{Lexeme, lexeme_at, lexemes_from}
use Rattle.pb_text.specs.Scan.{IsFirst, IsIntegerWord, IsLiteralWord}
use Rattle.pb_text.specs.Taken.{IsNumberTaken, IsLiteralTaken, IsSymbolTaken}
use Rattle.pb_text.specs.Word.{is_negated, name_of}
use Rattle.pb_text.specs.declared.kind.Kind.TheVariants as kinds
use Rattle.pb_text.specs.declared.kind.Symbol.{Symbol}
use Rattle.pb_text.specs.declared.said.Said.{Said}
use Rattle.pb_text.specs.declared.scan.Scanned.{Scanned}
use Rattle.pb_text.specs.declared.spot.Cursor.{Cursor}
use Rattle.pb_text.specs.declared.spot.Spot.TheVariants.{Within}
use Rattle.pb_text.proofs.FirstToken.{word_token}
use Rattle.pb_text.proofs.KindTests.{integer_is, literal_is}

-- a cursor stands behind so many bytes of another
pub record IsPast (size : ℕ) (here there : Cursor) : Type 0 where
  pub rest : there.rest.now ≡ drop size here.rest.now
  pub start : there.start ≡ here.start + size
  pub breaks : there.breaks ≡ here.breaks
  pub spot : there.spot ≡ Within

-- the tokens from there on
pub behind_ahead : (size : ℕ) (here there : Cursor) → IsAtToken here → IsPast size here there →
    lexemes_from (behind size (position_of here)) (drop size here.rest.now) ≡ ahead there
behind_ahead size here there at past =
    let plain : comment_at here.spot here.rest.now ≡ comment_at there.spot there.rest.now =
    at.plain ∙ sym (ap (λ s. comment_at s there.rest.now) past.spot) in
    rw (past.start, past.breaks, sym past.rest, plain) refl

-- the token that stands at a cursor, where so many bytes were scanned
scanned : Cursor → ℕ → Lexeme
scanned here size = lexeme_at (position_of here) (take size here.rest.now)

-- an integer was scanned
pub number_taken : (here there : Cursor) (before : List Lexeme) (size : ℕ) (z : ℤ) → ahead here ≡ before → IsAtToken here → IsIntegerWord size z here.rest.now →
    IsPast size here there → IsNumberTaken z before (ahead there)
unfolding scanned
number_taken here there before size z same at w past = record {
  token = scanned here size;
  first = sym same ∙ word_token size (position_of here) here.rest.now at.plain w.some w.front ∙ ap (λ (xs : List Lexeme). scanned here size ∷ xs) (behind_ahead size here there at past);
  kind = integer_is (take size here.rest.now) w.integer;
  integer = integer_is (take size here.rest.now) w.integer;
  value = w.value;
}

-- a literal was scanned
pub literal_taken : (here there : Cursor) (before : List Lexeme) (size : ℕ) (x : Said) (negated : Bool) (name : List ℕ) → ahead here ≡ before → IsAtToken here →
    IsLiteralWord size x here.rest.now → negated ≡ is_negated (take size here.rest.now) → name ≡ name_of (take size here.rest.now) → IsPast size here there →
    IsLiteralTaken negated name x before (ahead there)
unfolding scanned
literal_taken here there before size x negated name same at w sign spelled past = record {
  token = scanned here size;
  first = sym same ∙ word_token size (position_of here) here.rest.now at.plain w.some w.front ∙ ap (λ (xs : List Lexeme). scanned here size ∷ xs) (behind_ahead size here there at past);
  kind = literal_is (take size here.rest.now) w.literal;
  literal = literal_is (take size here.rest.now) w.literal;
  sign = sign;
  spelled = spelled;
  says = w.says;
}

-- a symbol was scanned
pub symbol_taken : (here there : Cursor) (before : List Lexeme) (s : Scanned) (symbol : Symbol) → ahead here ≡ before → IsAtToken here → IsFirst here.rest.now s →
    s.kind ≡ kinds.Symbol symbol → IsPast s.size here there → IsSymbolTaken symbol before (ahead there)
unfolding scanned
symbol_taken here there before s symbol same at f k past = record {
  token = scanned here s.size;
  first = sym same ∙ f.token (position_of here) at.plain ∙ ap (λ (xs : List Lexeme). scanned here s.size ∷ xs) (behind_ahead s.size here there at past);
  kind = sym f.kind ∙ k;
  spelled = sym f.kind ∙ k;
}
