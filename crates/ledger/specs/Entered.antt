-- The entries of a literal, in constraints that are counted and in clauses that are watched.
use Rattle.std.specs.Prelude.{◌≡◌, List, ◌++◌, Option}
use Rattle.linear.specs.declared.term.Lit.{Lit}
use Rattle.normal_form.specs.Normal.{NormalConstraint}
use Rattle.occurrences.specs.declared.occurrence.Occurrence.{Occurrence}
use Rattle.ledger.specs.declared.entries.Entries.{Entries}
use Rattle.ledger.specs.declared.pair.Pair.{Pair}
use Rattle.ledger.specs.Ledgers.{AreParted}
use Rattle.occurrences.specs.Occurrences.{occurrences_of}
use Rattle.occurrences.specs.Rows.{all_in}

-- the entries of both kinds, those that are counted first
abbrev pub all_of : Entries → List Occurrence
all_of e = all_in e.counted ++ all_in e.watched

-- the entries of a literal, those of places that are empty among them
abbrev pub AreEntriesOf : List (Option NormalConstraint) → Lit → List Occurrence → Type 0
AreEntriesOf slots l os =
    (counted : List NormalConstraint) × (watched : List NormalConstraint) × (pairs : List (Option Pair)) × AreParted slots counted watched pairs × (os ≡ occurrences_of l 0 counted ++ occurrences_of l 0 watched)
