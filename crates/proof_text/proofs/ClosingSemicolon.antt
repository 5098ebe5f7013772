-- A closing `;`.
use Rattle.std.proofs.Common.{◌≡◌, ℕ, Bool, true, false, if◌then◌else◌, List, [], ◌∷◌, drop, refl, ap}
use Rattle.pb_text.specs.Lexeme.{Lexeme, kind_of}
use Rattle.pb_text.specs.TokensOf.{texts_of}
use Rattle.proof_text.specs.Kinds.{is_semicolon}
use Rattle.proof_text.specs.Words.{unclosed}

-- passing a token passes its word
pub passed : (ts : List Lexeme) → unclosed (texts_of (drop 1 ts)) ≡ drop 1 (unclosed (texts_of ts))
passed [] = refl
passed (t ∷ u ∷ rest) = refl
passed (t ∷ []) = by (is_semicolon (kind_of t.text))
  where
    by : (s : Bool) → [] ≡ drop 1 (if s then [] else t.text ∷ [])
    by true = refl
    by false = refl

-- a word that is no `;` closes nothing
pub stays_open : (w : List ℕ) (rest : List (List ℕ)) → is_semicolon (kind_of w) ≡ false → unclosed (w ∷ rest) ≡ w ∷ unclosed rest
stays_open w [] h = ap (λ t. if t then [] else w ∷ []) h
stays_open w (v ∷ rest) h = refl
