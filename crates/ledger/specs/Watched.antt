-- Clauses that are watched by two of their literals.
use Rattle.std.specs.Prelude.{◌≡◌, ◌⊎◌, ℕ, ◌-◌, ◌*◌, ◌<◌, ◌≤◌, true, false, List, [], ◌∷◌, Option, Some, None, Contains, length, take, is_some, slice_index_or, slice_set}
use Rattle.linear.specs.declared.term.Lit.{Lit}
use Rattle.normal_form.specs.declared.term.NormalTerm.{NormalTerm}
use Rattle.normal_form.specs.Normal.{NormalConstraint}
use Rattle.linear.specs.Literal.{opposite}
use Rattle.propagate.specs.Literals.{coefficient_of, lists}
use Rattle.propagate.specs.Passes.{literal_of}
use Rattle.ledger.specs.declared.pair.Pair.{Pair}
use Rattle.linear.specs.Literal.{code}

-- any one of its literals satisfies the constraint
abbrev pub IsClause : NormalConstraint → Type 0
IsClause n = (l : Lit) → 0 < coefficient_of n l → n.degree ≤ coefficient_of n l

-- two literals of a clause that asks for one
pub record IsPairOf (n : NormalConstraint) (p : Pair) : Type 0 where
  pub clause : IsClause n
  pub asks : 0 < n.degree
  pub first : 0 < coefficient_of n p.first
  pub second : 0 < coefficient_of n p.second
  pub differ : p.first ≡ p.second → ⊥

-- a literal that is not made false
abbrev pub IsOpen : List Lit → Lit → Type 0
IsOpen assigned l = lists assigned (opposite l) ≡ false

-- a literal is one of two, or made false
abbrev pub IsFalseBeside : List Lit → Pair → Lit → Type 0
IsFalseBeside assigned p l = (l ≡ p.first → ⊥) → (l ≡ p.second → ⊥) → lists assigned (opposite l) ≡ true

-- a literal is none of two
abbrev pub IsApart : Pair → Lit → Type 0
IsApart p l = (l ≡ p.first → ⊥) × (l ≡ p.second → ⊥)

-- the literals of a list are of the variables
abbrev pub AreWithin : ℕ → List Lit → Type 0
AreWithin variables ls = (k : ℕ) (d : Lit) → k < length ls → (slice_index_or ls k d).var.0 < variables

-- all literals of a constraint but two are made false
abbrev pub AreOthersFalse : List Lit → NormalConstraint → Pair → Type 0
AreOthersFalse assigned n p = (l : Lit) → 0 < coefficient_of n l → IsFalseBeside assigned p l

-- the literals of a list from an index to another are made false, or one of two
abbrev pub AreFalseWithin : List Lit → List Lit → Pair → ℕ → ℕ → Type 0
AreFalseWithin assigned ls p from to = (i : ℕ) (d : Lit) → from ≤ i → i < to → IsFalseBeside assigned p (slice_index_or ls i d)

-- those behind the first two are
abbrev pub AreRestFalse : List Lit → List Lit → Pair → Type 0
AreRestFalse assigned ls p = AreFalseWithin assigned ls p 2 (length ls)

-- an index behind the first two of a list, at which there is an open literal beside two
pub record IsOpenAt (assigned : List Lit) (ls : List Lit) (p : Pair) (index : ℕ) : Type 0 where
  pub rest : 2 ≤ index
  pub below : index < length ls
  pub unset : (d : Lit) → IsOpen assigned (slice_index_or ls index d)
  pub apart : (d : Lit) → IsApart p (slice_index_or ls index d)

-- an open literal of a constraint beside two
pub record IsOpenBeside (assigned : List Lit) (n : NormalConstraint) (p : Pair) (l : Lit) : Type 0 where
  pub occurs : 0 < coefficient_of n l
  pub unset : IsOpen assigned l
  pub not_first : l ≡ p.first → ⊥
  pub not_second : l ≡ p.second → ⊥

-- Two literals tell whether a clause is falsified or forces: both are open, or one of them is true, or all others are false.
abbrev pub Tell : List Lit → NormalConstraint → Pair → Type 0
Tell assigned n p = (IsOpen assigned p.first × IsOpen assigned p.second)
    ⊎ ((lists assigned p.first ≡ true) ⊎ (lists assigned p.second ≡ true)) ⊎ AreOthersFalse assigned n p

-- a literal is open under each beginning of the assignment under which another one is
abbrev pub Outlasts : List Lit → Lit → Lit → Type 0
Outlasts assigned l other = (h : ℕ) → IsOpen (take h assigned) other → IsOpen (take h assigned) l

-- the same of the literals of two terms
abbrev pub OutlastsTerm : List Lit → List NormalTerm → ℕ → ℕ → Type 0
OutlastsTerm assigned terms k other = (d : NormalTerm) → Outlasts assigned (literal_of (slice_index_or terms k d)) (literal_of (slice_index_or terms other d))

-- a place is in the row of a literal
abbrev pub StandsIn : List (List ℕ) → Lit → ℕ → Type 0
StandsIn rows l place = Contains (slice_index_or rows (code l) []) place

-- the row of a literal ends with a place
abbrev pub EndsWith : List (List ℕ) → Lit → ℕ → Type 0
EndsWith rows l place =
    (0 < length (slice_index_or rows (code l) [])) × (slice_index_or (slice_index_or rows (code l) []) (length (slice_index_or rows (code l) []) - 1) place ≡ place)

-- Either literal leads to the clause at a place. The two tell of it under each beginning of the assignment: so nothing is to be
-- mended where literals are backtracked.
pub record IsWatched (rows : List (List ℕ)) (assigned : List Lit) (place : ℕ) (n : NormalConstraint) (p : Pair) : Type 0 where
  pub of_it : IsPairOf n p
  pub first : StandsIn rows p.first place
  pub second : StandsIn rows p.second place
  pub tell : (h : ℕ) → Tell (take h assigned) n p

-- the first two of a list
abbrev pub pair_of : List Lit → Option Pair
pair_of [] = None
pair_of (l ∷ []) = None
pair_of (l ∷ m ∷ ls) = Some (record { first = l; second = m })

-- the literals of a constraint, all of them and no others
pub record AreLiteralsOf (n : NormalConstraint) (ls : List Lit) : Type 0 where
  pub all : (l : Lit) → 0 < coefficient_of n l → Contains ls l
  pub own : (i : ℕ) (d : Lit) → i < length ls → 0 < coefficient_of n (slice_index_or ls i d)

-- a list in which two literals come first, and the one that fell stands where the first of them stood
abbrev pub exchanged : List Lit → ℕ → Lit → Pair → List Lit
exchanged ls index fallen p = slice_set (slice_set (slice_set ls index fallen) 0 p.first) 1 p.second

-- rows of places by literal, among them places that are not watched any more; the two literals of each place; and all literals of its
-- clause, those two first
pub record Watching : Type 0 where
  pub rows : List (List ℕ)
  pub pairs : List (Option Pair)
  pub literals : List (List Lit)

-- both literals are of the variables
abbrev pub IsPairWithin : ℕ → Pair → Type 0
IsPairWithin variables p = (p.first.var.0 < variables) × (p.second.var.0 < variables)

-- places with two literals have a clause, and these are watched
pub record AreWatched (slots : List (Option NormalConstraint)) (assigned : List Lit) (variables : ℕ) (w : Watching) : Type 0 where
  pub size : 2 * variables ≤ length w.rows
  pub within : (k : ℕ) (p : Pair) → slice_index_or w.pairs k None ≡ Some p → IsPairWithin variables p
  pub there : (k : ℕ) (p : Pair) → slice_index_or w.pairs k None ≡ Some p → (n : NormalConstraint) × (slice_index_or slots k None ≡ Some n)
  pub each : (k : ℕ) (n : NormalConstraint) (p : Pair) → slice_index_or slots k None ≡ Some n → slice_index_or w.pairs k None ≡ Some p
      → IsWatched w.rows assigned k n p
  pub listed : (k : ℕ) (n : NormalConstraint) (p : Pair) → slice_index_or slots k None ≡ Some n → slice_index_or w.pairs k None ≡ Some p
      → AreLiteralsOf n (slice_index_or w.literals k [])

-- the same places have two literals
pub record AreSameKinds (before after : List (Option Pair)) : Type 0 where
  pub count : length after ≡ length before
  pub kinds : (k : ℕ) → is_some (slice_index_or after k None) ≡ is_some (slice_index_or before k None)
