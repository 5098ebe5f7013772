-- Small constraints, to compute the definitions on.
use Rattle.std.specs.Prelude.{ℕ, true, false, List, [], ◌∷◌, Option}
use Rattle.std.specs.FinMap as fin
use Rattle.linear.specs.declared.term.Lit.{Lit}
use Rattle.normal_form.specs.Normal.{NormalConstraint}
use Rattle.normal_form.specs.Cases.{plain, negated, normal}
use Rattle.propagate.specs.declared.trace.Decided.{Decided}
use Rattle.propagate.specs.Content.{Content}

-- the literals x and ~x of a variable
abbrev pub x : ℕ → Lit
x v = record { var = record { 0 = v }; negated = false }

abbrev pub not_x : ℕ → Lit
not_x v = record { var = record { 0 = v }; negated = true }

-- 1 x1 >= 1 and the like: a clause of one literal
abbrev pub unit : ℕ → NormalConstraint
unit v = normal (plain 1 v ∷ []) 1

abbrev pub unit_not : ℕ → NormalConstraint
unit_not v = normal (negated 1 v ∷ []) 1

-- 1 ~x2 1 x3 >= 1 ; 1 ~x1 1 x2 >= 1 ; 1 x1 >= 1 ; 1 ~x3 >= 1
abbrev pub four_clauses : List NormalConstraint
four_clauses = normal (negated 1 2 ∷ plain 1 3 ∷ []) 1 ∷ normal (negated 1 1 ∷ plain 1 2 ∷ []) 1 ∷ unit 1 ∷ unit_not 3 ∷ []

-- 1 x1 1 x2 >= 1
abbrev pub one_of_two : NormalConstraint
one_of_two = normal (plain 1 1 ∷ plain 1 2 ∷ []) 1

-- 3 x1 2 x2 1 x3 >= 4
abbrev pub weighted : NormalConstraint
weighted = normal (plain 3 1 ∷ plain 2 2 ∷ plain 1 3 ∷ []) 4

-- three pigeons, each in one of two holes, and no two in one hole
abbrev pub pigeons : List NormalConstraint
pigeons =
    normal (plain 1 1 ∷ plain 1 2 ∷ []) 1 ∷ normal (plain 1 3 ∷ plain 1 4 ∷ []) 1 ∷ normal (plain 1 5 ∷ plain 1 6 ∷ []) 1
    ∷ normal (negated 1 1 ∷ negated 1 3 ∷ negated 1 5 ∷ []) 2 ∷ normal (negated 1 2 ∷ negated 1 4 ∷ negated 1 6 ∷ []) 2 ∷ []

-- 1 x1 1 x2 1 x3 >= 2
abbrev pub two_of_three : NormalConstraint
two_of_three = normal (plain 1 1 ∷ plain 1 2 ∷ plain 1 3 ∷ []) 2

-- 1 ~x1 1 ~x2 1 ~x3 >= 2, its negation
abbrev pub two_of_three_negated : NormalConstraint
two_of_three_negated = normal (negated 1 1 ∷ negated 1 2 ∷ negated 1 3 ∷ []) 2

-- 1 x1 1 ~x5 >= 1 ; 1 ~x1 1 ~x2 1 ~x3 1 ~x4 >= 3 ; 1 ~x6 >= 1, and 1 x2 1 x3 1 x4 1 x5 >= 2
abbrev pub improving_moved : List NormalConstraint
improving_moved =
    normal (plain 1 1 ∷ negated 1 5 ∷ []) 1 ∷ normal (negated 1 1 ∷ negated 1 2 ∷ negated 1 3 ∷ negated 1 4 ∷ []) 3 ∷ unit_not 6
    ∷ normal (plain 1 2 ∷ plain 1 3 ∷ plain 1 4 ∷ plain 1 5 ∷ []) 2 ∷ []

-- 1 x1 1 x2 >= 1 under the id 2, and 1 ~x2 >= 1 under the id 5
abbrev pub two_ids : Content
two_ids = fin.from_entries ((2, one_of_two) ∷ (5, unit_not 2) ∷ [])

-- a decision, with what it forces and where that ends
abbrev pub decision : Lit → List (Lit × ℕ) → Option ℕ → Decided
decision l forced conflict = record { literal = l; trace = record { forced = forced; conflict = conflict } }
