-- The lines of a proof's text, and those that count.
use Rattle.std.specs.Prelude.{ℕ, ◌+◌, ◌==◌, Bool, true, false, not, if◌then◌else◌, List, [], ◌∷◌, count_by}
use Rattle.std.specs.List.{list_all}
use Rattle.pb_text.specs.Lexeme.{lexemes}

-- a line with its number
pub record Numbered : Type 0 where
  pub number : ℕ
  pub text : List ℕ

-- a text parted at each LF: its first line, and the others in their order
pub record Parted : Type 0 where
  pub first : List ℕ
  pub others : List (List ℕ)

abbrev pub parted : List ℕ → Parted
parted [] = record { first = []; others = [] }
parted (b ∷ rest) =
    let after : Parted = parted rest in
    if b == 10 then record { first = []; others = after.first ∷ after.others }
    else record { first = b ∷ after.first; others = after.others }

-- does a line count: it has a token, so it is neither blank nor a comment
abbrev pub counts : List ℕ → Bool
counts line = elim (lexemes line) [ [] ↦ false | t ∷ rest ↦ true ]

-- a line in front of others, where it counts
abbrev pub onto : Numbered → List Numbered → List Numbered
onto line more = if counts line.text then line ∷ more else more

-- those of these lines that count, the first of them having this number
abbrev pub counting : ℕ → List (List ℕ) → List Numbered
counting number [] = []
counting number (line ∷ others) = onto (record { number = number; text = line }) (counting (number + 1) others)

-- the lines that count of a text whose first line has this number
unfoldable pub counting_from : ℕ → List ℕ → List Numbered
counting_from number text = let p : Parted = parted text in counting number (p.first ∷ p.others)

-- is a text one line, without LF
abbrev pub has_no_break : List ℕ → Bool
has_no_break text = list_all (λ b. not (b == 10)) text

-- how many LF bytes a text has
abbrev pub breaks : List ℕ → ℕ
breaks text = count_by (λ b. b == 10) text

-- the lines of a text that are still to come, and the number of the line at which the text ends
pub record Pending : Type 0 where
  pub lines : List Numbered
  pub last : ℕ

-- all lines of a text that count, numbered from 1, and the number of its end: 1 and its LF bytes
abbrev pub lines_of : List ℕ → Pending
lines_of text = record { lines = counting_from 1 text; last = 1 + breaks text }
