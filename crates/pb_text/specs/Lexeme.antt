-- The tokens of a text: where its words and symbols stand. White space and comment lines part them and give none.
use Rattle.std.specs.Prelude.{ℕ, ◌+◌, ◌-◌, ◌==◌, Bool, false, ◌&&◌, ◌||◌, not, if◌then◌else◌, List, [], ◌∷◌, take, drop, codes, bytes_eq}
use Rattle.pb_text.specs.Word.{is_integer, is_literal, is_misspelt}
use Rattle.pb_text.specs.declared.kind.Kind.{Kind}
use Rattle.pb_text.specs.declared.kind.Kind.TheVariants as kinds
use Rattle.pb_text.specs.declared.kind.Symbol.TheVariants as symbols

-- a token: its kind, its line counted from 1, the position of its first byte counted from 0, and its bytes
pub record Lexeme : Type 0 where
  pub kind : Kind
  pub line : ℕ
  pub start : ℕ
  pub text : List ℕ

-- the kind of a word
unfoldable pub kind_of_word : List ℕ → Kind
kind_of_word word =
    if is_integer word then kinds.Integer
    else if is_literal word then kinds.Literal
    else if is_misspelt word then kinds.Misspelt
    else kinds.Other

-- the kind of a token, by its bytes: a symbol, a stray byte or a word
unfoldable pub kind_of : List ℕ → Kind
kind_of text =
    if bytes_eq text (codes ";") then kinds.Symbol symbols.Semicolon
    else if bytes_eq text (codes ":") then kinds.Symbol symbols.Colon
    else if bytes_eq text (codes ">=") then kinds.Symbol symbols.AtLeast
    else if bytes_eq text (codes "<=") then kinds.Symbol symbols.AtMost
    else if bytes_eq text (codes "=") then kinds.Symbol symbols.Equals
    else if bytes_eq text (codes "->") then kinds.Symbol symbols.Arrow
    else if bytes_eq text (codes "<") || bytes_eq text (codes ">") then kinds.Stray
    else kind_of_word text

-- space, tab, CR and LF
abbrev pub is_white : ℕ → Bool
is_white b = (b == 32) || (b == 9) || (b == 13) || (b == 10)

-- is the first byte other than space and tab a `*`: so begins a comment line
abbrev pub begins_comment : List ℕ → Bool
begins_comment [] = false
begins_comment (b ∷ rest) = (b == 42) || (((b == 32) || (b == 9)) && begins_comment rest)

-- does the text begin with this byte
abbrev pub begins : ℕ → List ℕ → Bool
begins a [] = false
begins a (b ∷ rest) = b == a

-- does the text begin with `>`, and with no `>=`
abbrev pub begins_arrow_head : List ℕ → Bool
begins_arrow_head [] = false
begins_arrow_head (b ∷ rest) = (b == 62) && not (begins 61 rest)

-- how many bytes the symbol has with which the text begins, a stray `<` or `>` included; 0 where it begins with none
abbrev pub symbol_length : List ℕ → ℕ
symbol_length [] = 0
symbol_length (b ∷ rest) =
    if (b == 59) || (b == 58) || (b == 61) then 1  -- `;`, `:`, `=`
    else if (b == 60) || (b == 62) then (if begins 61 rest then 2 else 1)  -- `<=`, `>=`, `<`, `>`
    else if (b == 45) && begins_arrow_head rest then 2  -- `->`, but not before `=`
    else 0

-- a position in a text: how many bytes stand before it, its line, and whether that line is a comment
pub record Position : Type 0 where
  pub start : ℕ
  pub line : ℕ
  pub comment : Bool

-- the position behind byte `b`, where `rest` follows
abbrev pub past : Position → ℕ → List ℕ → Position
past p b rest =
    if b == 10 then record { start = p.start + 1; line = p.line + 1; comment = begins_comment rest }
    else record { start = p.start + 1; line = p.line; comment = p.comment }

-- the token at a position that has these bytes
abbrev pub lexeme_at : Position → List ℕ → Lexeme
lexeme_at p text = record { kind = kind_of text; line = p.line; start = p.start; text = text }

-- a text cut into tokens: the bytes of the word at its very front, if one stands there, and the tokens after it
pub record Cut : Type 0 where
  pub word : List ℕ
  pub tokens : List Lexeme

-- all tokens of a text that was cut, `p` being the position of its front
abbrev pub all_tokens : Position → Cut → List Lexeme
all_tokens p c = elim c.word [ [] ↦ c.tokens | b ∷ rest ↦ lexeme_at p (b ∷ rest) ∷ c.tokens ]

-- White space and the bytes of a comment line part tokens. A symbol is a token: its second byte, which was cut by
-- itself when the rest was, is no token of its own. Any other byte goes in front of the word that follows it.
abbrev pub cut : Position → List ℕ → Cut
cut p [] = record { word = []; tokens = [] }
cut p (b ∷ rest) =
    let next : Position = past p b rest in
    let after : Cut = cut next rest in
    let size : ℕ = symbol_length (b ∷ rest) in
    if p.comment || is_white b then record { word = []; tokens = all_tokens next after }
    else if size == 0 then record { word = b ∷ after.word; tokens = after.tokens }
    else record { word = []; tokens = lexeme_at p (take size (b ∷ rest)) ∷ drop (size - 1) (all_tokens next after) }

-- the tokens of the text that stands at a position
unfoldable pub lexemes_from : Position → List ℕ → List Lexeme
lexemes_from p text = all_tokens p (cut p text)

-- the tokens of a text
unfoldable pub lexemes : List ℕ → List Lexeme
lexemes text = lexemes_from (record { start = 0; line = 1; comment = begins_comment text }) text
