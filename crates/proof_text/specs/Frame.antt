-- The lines around the steps.
use Rattle.std.specs.Prelude.{ℕ, ℤ, ◌&&◌, if◌then◌else◌, Option, Some, None, List, [], ◌∷◌, codes, bytes_eq}
use Rattle.pb_text.specs.Lexeme.{kind_of}
use Rattle.pb_text.specs.Number.{integer_value}
use Rattle.proof_text.specs.Kinds.{is_integer}

-- `pseudo-Boolean proof version 2.0`
abbrev pub header : List (List ℕ)
header = codes "pseudo-Boolean" ∷ codes "proof" ∷ codes "version" ∷ codes "2.0" ∷ []

-- `f` and an integer: how many constraints the file has
abbrev pub count_of : List (List ℕ) → Option ℤ
count_of (f ∷ n ∷ []) = if bytes_eq f (codes "f") && is_integer (kind_of n) then Some (integer_value n) else None
count_of _ = None

-- `output NONE`
abbrev pub output : List (List ℕ)
output = codes "output" ∷ codes "NONE" ∷ []

-- `end pseudo-Boolean proof`
abbrev pub ending : List (List ℕ)
ending = codes "end" ∷ codes "pseudo-Boolean" ∷ codes "proof" ∷ []
