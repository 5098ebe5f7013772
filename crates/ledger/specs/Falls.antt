-- A literal falls: the clauses that it watches are looked at, one entry of its row after another.
use Rattle.std.specs.Prelude.{◌≡◌, ◌⊎◌, ℕ, ◌-◌, ◌<◌, ◌≤◌, true, List, [], Option, Some, None, MatchOption, Contains, length, slice_index_or}
use Rattle.linear.specs.declared.term.Lit.{Lit}
use Rattle.normal_form.specs.Normal.{NormalConstraint}
use Rattle.propagate.specs.Literals.{lists}
use Rattle.propagate.specs.Slack.{IsFalsified}
use Rattle.ledger.specs.declared.finding.Finding.{Finding}
use Rattle.ledger.specs.declared.finding.Finding.TheVariants as findings
use Rattle.ledger.specs.declared.finding.Move.{Move}
use Rattle.ledger.specs.declared.finding.Progress.{Progress}
use Rattle.ledger.specs.declared.finding.Progress.TheVariants as progresses
use Rattle.ledger.specs.declared.pair.Pair.{Pair}
use Rattle.linear.specs.Literal.{code}
use Rattle.trail.specs.Trails.{on_trail}
use Rattle.ledger.specs.Watched.{AreOthersFalse, AreWatched, IsOpen, IsPairOf, Watching, pair_of}

-- one of two literals is true
abbrev pub IsOneTrue : List Lit → Pair → Type 0
IsOneTrue assigned p = (lists assigned p.first ≡ true) ⊎ (lists assigned p.second ≡ true)

-- a literal is one of two
abbrev pub IsOneOf : Pair → Lit → Type 0
IsOneOf p l = (p.first ≡ l) ⊎ (p.second ≡ l)

-- a place has two literals, of which one is this and the other that
abbrev pub IsBeside : Option Pair → Lit → Lit → Type 0
IsBeside None l other = ⊥
IsBeside (Some p) l other = ((p.first ≡ l) × (p.second ≡ other)) ⊎ ((p.second ≡ l) × (p.first ≡ other))

-- in place of a literal that falls another open one of the clause watches it, beside the one that stays
pub record IsMoved (assigned : List Lit) (n : NormalConstraint) (p : Pair) (fallen : Lit) (q : Pair) : Type 0 where
  pub of_it : IsPairOf n q
  pub stays : IsOneOf p q.second
  pub not_first : q.first ≡ fallen → ⊥
  pub not_second : q.second ≡ fallen → ⊥
  pub first : IsOpen assigned q.first
  pub second : IsOpen assigned q.second

-- two literals come first in a list, and of two others the first stands behind them, and the second beside the one that falls
pub record IsMoveIn (ls : List Lit) (p : Pair) (fallen : Lit) (m : Move) : Type 0 where
  pub pair : pair_of ls ≡ Some p
  pub rest : 2 ≤ m.index
  pub below : m.index < length ls
  pub there : (d : Lit) → slice_index_or ls m.index d ≡ m.pair.first
  pub beside : IsBeside (Some p) fallen m.pair.second

-- the clause at a place, and the two literals that watch it
abbrev pub IsAt : List (Option NormalConstraint) → List (Option Pair) → ℕ → NormalConstraint → Pair → Type 0
IsAt slots pairs k n p = (slice_index_or slots k None ≡ Some n) × (slice_index_or pairs k None ≡ Some p)

-- the constraint at a place is falsified under all literals that are assigned
abbrev pub IsFalsifiedThere : List (Option NormalConstraint) → List Lit × ℕ × List Lit → ℕ → Type 0
IsFalsifiedThere slots trail k = (n : NormalConstraint) × (slice_index_or slots k None ≡ Some n) × IsFalsified (on_trail trail) n

-- what is found of the clause at a place when a literal falls
abbrev pub IsFound : List (Option NormalConstraint) → List Lit × ℕ × List Lit → Watching → ℕ → Lit → Finding → Type 0
IsFound slots trail w k fallen findings.Elsewhere = (n : NormalConstraint) (p : Pair) → IsAt slots w.pairs k n p → IsOneOf p fallen → ⊥
IsFound slots trail w k fallen findings.Satisfied = (n : NormalConstraint) × (p : Pair) × IsAt slots w.pairs k n p × IsOneTrue trail.0 p
IsFound slots trail w k fallen findings.Falsified = IsFalsifiedThere slots trail k
IsFound slots trail w k fallen findings.Last =
    (n : NormalConstraint) × (p : Pair) × IsAt slots w.pairs k n p × AreOthersFalse trail.0 n p × ((l : Lit) → IsBeside (Some p) fallen l → IsOpen (on_trail trail) l)
IsFound slots trail w k fallen (findings.Moved m) =
    (n : NormalConstraint) × (p : Pair) × IsAt slots w.pairs k n p × IsMoved trail.0 n p fallen m.pair × IsMoveIn (slice_index_or w.literals k []) p fallen m

-- nothing more is to be done for a clause that a falling literal watches
abbrev pub IsHandled : List Lit → NormalConstraint → Pair → List ℕ → ℕ → Type 0
IsHandled assigned n p queue k = IsOneTrue assigned p ⊎ (AreOthersFalse assigned n p × Contains queue k)

-- a place stands in a row from an index on
abbrev pub IsAhead : List ℕ → ℕ → ℕ → Type 0
IsAhead row index k = (m : ℕ) × (index ≤ m) × (m < length row) × (slice_index_or row m 0 ≡ k)

-- the clauses that a falling literal watches are handled, but for those from an index of its row on
pub record IsFalling (slots : List (Option NormalConstraint)) (assigned : List Lit) (variables : ℕ) (fallen : Lit) (w : Watching) (queue : List ℕ) (index : ℕ) : Type 0 where
  pub watched : AreWatched slots assigned variables w
  pub handled : (k : ℕ) (n : NormalConstraint) (p : Pair) → slice_index_or slots k None ≡ Some n → slice_index_or w.pairs k None ≡ Some p → IsOneOf p fallen
      → IsAhead (slice_index_or w.rows (code fallen) []) index k ⊎ IsHandled assigned n p queue k

-- all clauses that a falling literal watches are handled
abbrev pub AreHandled : List (Option NormalConstraint) → List Lit → Lit → Watching → List ℕ → Type 0
AreHandled slots assigned fallen w queue = (k : ℕ) (n : NormalConstraint) (p : Pair) → slice_index_or slots k None ≡ Some n
    → slice_index_or w.pairs k None ≡ Some p → IsOneOf p fallen → IsHandled assigned n p queue k

-- how a row is gone on with: the clauses before an index are handled, or one of the row is falsified, and the others are watched as before
abbrev pub IsPassed : List (Option NormalConstraint) → List Lit × ℕ × List Lit → Lit → Watching → List ℕ → Progress → Type 0
IsPassed slots trail fallen w queue (progresses.At index) = IsFalling slots trail.0 trail.1 fallen w queue index
IsPassed slots trail fallen w queue (progresses.Falsified k) = AreWatched slots trail.0 trail.1 w × IsFalsifiedThere slots trail k

-- how a row ends: all clauses that the literal watches are handled, or one is falsified
abbrev pub IsRowEnd : List (Option NormalConstraint) → List Lit × ℕ × List Lit → Lit → Watching → List ℕ → Option ℕ → Type 0
IsRowEnd slots trail fallen w queue falsified = MatchOption falsified (AreHandled slots trail.0 fallen w queue) (IsFalsifiedThere slots trail)

-- the row of a literal is shorter from the index on, if it is gone on with
abbrev pub IsNearer : List ℕ → ℕ → List ℕ → Progress → Type 0
IsNearer before index after (progresses.At next) = length after - next < length before - index
IsNearer before index after (progresses.Falsified k) = Unit {0}
