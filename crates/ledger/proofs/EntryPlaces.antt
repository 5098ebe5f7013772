-- The entries of a literal in the tables of a ledger.
use Rattle.std.proofs.Common.{◌≡◌, ℕ, ◌<◌, All, Option, List, [], ◌++◌, length, take, get_or, ap, sym, subst, ◌∙◌, arith}
use Rattle.std.proofs.Math.Seq.{take-length}
use Rattle.std.proofs.lemmas.List.Elements.{All-append}
use Rattle.linear.specs.declared.term.Lit.{Lit}
use Rattle.normal_form.specs.Normal.{NormalConstraint}
use Rattle.occurrences.specs.declared.occurrence.Occurrence.{Occurrence}
use Rattle.ledger.specs.declared.pair.Pair.{Pair}
use Rattle.ledger.specs.Entered.{AreEntriesOf}
use Rattle.ledger.specs.Ledgers.{IsIndex, IsLedger}
use Rattle.occurrences.specs.Occurrences.{Listed}
use Rattle.linear.specs.Literal.{code}
use Rattle.occurrences.specs.Occurrences.{occurrences_of}
use Rattle.ledger.proofs.EntrySums.{places_from, shares_from}
use Rattle.ledger.proofs.Standing.{AreEntries}

abbrev Slots : Type 0
Slots = List (Option NormalConstraint)

-- the entries of a literal
pub entries_at : (ns : List NormalConstraint) (count : ℕ) (table : List (List Occurrence)) (l : Lit) (number : ℕ) (os : List Occurrence) → IsIndex ns count table → number ≡ code l → os ≡ get_or table number [] → AreEntries ns l os
entries_at ns count table l number os x named is =
    let there : os ≡ occurrences_of l 0 ns = is ∙ ap (λ (k : ℕ). get_or table k []) named ∙ x.entries l in
    subst (λ (ys : List Occurrence). AreEntries ns l ys) (sym there) (places_from l 0 (length ns) ns (omega arith), λ k low. shares_from l 0 k k ns low (omega arith))

-- the entries are of places that are there
pub entries_below : (slots : Slots) (l : Lit) (os : List Occurrence) → AreEntriesOf slots l os → All (λ e. e.place < length slots) os
entries_below slots l os x =
    subst (λ (ys : List Occurrence). All (λ e. e.place < length slots) ys) (sym x.4)
    (All-append (λ (o : Occurrence). o.place < length slots) (occurrences_of l 0 x.0) (occurrences_of l 0 x.1) (places_from l 0 (length slots) x.0 (omega (arith, x.3.count))) (places_from l 0 (length slots) x.1 (omega (arith, x.3.watched_count))))

-- a ledger's lists for a literal, where all clauses are listed
pub entries_are : (slots : Slots) (assigned : List Lit) (variables : ℕ) (table : List (List Occurrence)) (clauses : Listed) (counters limits : List ℕ) (pairs : List (Option Pair)) (l : Lit) (number : ℕ) (os rest : List Occurrence) → IsLedger slots assigned variables table clauses counters limits pairs
    → clauses.count ≡ length slots → number ≡ code l → os ≡ get_or table number [] → rest ≡ get_or clauses.rows number [] → AreEntriesOf slots l (os ++ rest)
entries_are slots assigned variables table clauses counters limits pairs l number os rest e listed named is more =
    let all : take clauses.count e.watched ≡ e.watched = ap (λ (k : ℕ). take k e.watched) (omega (arith, listed, e.slots_are.watched_count)) ∙ take-length e.watched in
    let index : rest ≡ occurrences_of l 0 e.watched = more ∙ ap (λ (k : ℕ). get_or clauses.rows k []) named ∙ e.watched_index.index.entries l ∙ ap (occurrences_of l 0) all in (
      e.counted,
      e.watched,
      pairs,
      e.slots_are,
      ap (λ (xs : List Occurrence). xs ++ rest) (is ∙ ap (λ (k : ℕ). get_or table k []) named ∙ e.index.entries l) ∙ ap (λ (xs : List Occurrence). occurrences_of l 0 e.counted ++ xs) index,
    )
