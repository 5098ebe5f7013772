-- The words before a `;` and those behind it.
use Rattle.std.proofs.Common.{◌≡◌, ℕ, Bool, true, false, if◌then◌else◌, Some, List, [], ◌∷◌, ap, ◌∙◌}
use Rattle.pb_text.specs.Lexeme.{Lexeme, kind_of}
use Rattle.pb_text.specs.TokensOf.{texts_of}
use Rattle.proof_text.specs.Kinds.{is_semicolon}
use Rattle.proof_text.specs.Words.{Halves, halves}

abbrev by_test : Bool → List ℕ → List (List ℕ) → Halves
by_test t w rest = if t then record { front = []; behind = Some rest } else record { front = w ∷ (halves rest).front; behind = (halves rest).behind }

-- at the `;`
pub no_front : (ts : List Lexeme) (t : Lexeme) (rest : List Lexeme) → ts ≡ t ∷ rest → is_semicolon (kind_of t.text) ≡ true → (halves (texts_of ts)).front ≡ []
no_front ts t rest e h = ap (λ xs. (halves (texts_of xs)).front) e ∙ ap (λ b. (by_test b t.text (texts_of rest)).front) h

-- at another word
pub front_word : (ts : List Lexeme) (t : Lexeme) (rest : List Lexeme) → ts ≡ t ∷ rest → is_semicolon (kind_of t.text) ≡ false
    → ((halves (texts_of ts)).front ≡ t.text ∷ (halves (texts_of rest)).front) × ((halves (texts_of ts)).behind ≡ (halves (texts_of rest)).behind)
front_word ts t rest e h = (
  ap (λ xs. (halves (texts_of xs)).front) e ∙ ap (λ b. (by_test b t.text (texts_of rest)).front) h,
  ap (λ xs. (halves (texts_of xs)).behind) e ∙ ap (λ b. (by_test b t.text (texts_of rest)).behind) h,
)
