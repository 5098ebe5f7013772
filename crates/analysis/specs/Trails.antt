-- What stands on a trail: each variable once, and levels rise.
use Rattle.std.specs.Prelude.{◌≡◌, ◌≤◌, ℕ, Bool, false, max, List, [], ◌∷◌, ◌++◌, map}
use Rattle.linear.specs.declared.term.Lit.{Lit}
use Rattle.propagate.specs.Literals.{among}
use Rattle.analysis.specs.declared.entry.Entry.{Entry}
use Rattle.analysis.specs.declared.note.Note.{Note}
use Rattle.analysis.specs.Biting.{greatest_level}

-- what a caller sees of a trail: its entries, and how many variables it has room for
pub record TrailState : Type 0 where
  pub entries : List Entry
  pub variables : ℕ

-- the literals of entries
abbrev pub literals_of : List Entry → List Lit
literals_of = map (λ e. e.literal)

-- literals with what is noted of each
abbrev pub entries_of : List Lit → List Note → List Entry
entries_of [] notes = []
entries_of (l ∷ ls) [] = []
entries_of (l ∷ ls) (n ∷ ns) = record { literal = l; reason = n.reason; level = n.level } ∷ entries_of ls ns

-- an entry at no lower level than others
abbrev pub raised : List Entry → Entry → Entry
raised before e = record e { level = max e.level (greatest_level before) }

-- an entry may stand behind others: its variable is none of theirs, and no level is above its own
abbrev pub StandsBehind : List Entry → Entry → Type 0
StandsBehind before e =
    ((negated : Bool) → among (literals_of before) (e.literal.var.0) negated ≡ false) × (greatest_level before ≤ e.level)

-- each of these entries stands behind those before it
abbrev pub GoesOnAsTrail : List Entry → List Entry → Type 0
GoesOnAsTrail before [] = Unit {0}
GoesOnAsTrail before (e ∷ es) = StandsBehind before e × GoesOnAsTrail (before ++ e ∷ []) es

abbrev pub IsTrail : List Entry → Type 0
IsTrail entries = GoesOnAsTrail [] entries
