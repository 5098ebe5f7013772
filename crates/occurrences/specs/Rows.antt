-- Lists of entries as they are kept, small ones before the rest.
use Rattle.std.specs.Prelude.{List, [], ◌∷◌, ◌++◌, map}
use Rattle.occurrences.specs.declared.occurrence.Occurrence.{Occurrence}
use Rattle.occurrences.specs.declared.occurrence.SmallOccurrence.{SmallOccurrence}
use Rattle.occurrences.specs.declared.occurrence.Row.{Row}

-- the entry that is meant
abbrev pub widened : SmallOccurrence → Occurrence
widened e = record { place = e.place; coef = e.coef }

-- the entries of one literal
abbrev pub all_in : Row → List Occurrence
all_in r = map widened r.small.now ++ r.rest.now

-- the lists of both kinds by number
abbrev pub joined : List (List SmallOccurrence) → List (List Occurrence) → List (List Occurrence)
joined [] rest = []
joined (small ∷ smalls) [] = map widened small ∷ joined smalls []
joined (small ∷ smalls) (row ∷ rows) = (map widened small ++ row) ∷ joined smalls rows
