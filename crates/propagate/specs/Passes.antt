-- A slow program beside the definitions, computed by the checker in worked cases: look for a forced literal, add it,
-- and begin anew, until there is a conflict or nothing is forced.
use Rattle.std.specs.Prelude.{ℕ, zero, suc, ◌+◌, Bool, not, ◌&&◌, List, [], ◌∷◌, ◌++◌, Option, None, Some, nat_lt, if◌then◌else◌}
use Rattle.std.specs.List.{list_any}
use Rattle.linear.specs.declared.term.Lit.{Lit}
use Rattle.normal_form.specs.declared.term.NormalTerm.{NormalTerm}
use Rattle.normal_form.specs.Normal.{NormalConstraint, sum_over}
use Rattle.linear.specs.Literal.{opposite}
use Rattle.propagate.specs.Literals.{coefficient_of, lists}
use Rattle.propagate.specs.Slack.{not_false}

-- whether the slack is negative
abbrev pub is_falsified : List Lit → NormalConstraint → Bool
is_falsified assigned n = nat_lt (sum_over (not_false assigned) n.terms) n.degree

-- whether the constraint forces the literal
abbrev pub is_forced : List Lit → NormalConstraint → Lit → Bool
is_forced assigned n l =
    not (lists assigned l) && not (lists assigned (opposite l)) && nat_lt 0 (coefficient_of n l)
    && nat_lt (sum_over (not_false assigned) n.terms) (n.degree + coefficient_of n l)

-- the literal of a term
abbrev pub literal_of : NormalTerm → Lit
literal_of t = record { var = t.var; negated = t.negated }

-- the first of some terms' literals that the constraint forces
abbrev pub first_forced : List Lit → NormalConstraint → List NormalTerm → Option Lit
first_forced assigned n [] = None
first_forced assigned n (t ∷ ts) =
    if is_forced assigned n (literal_of t) then Some (literal_of t) else first_forced assigned n ts

-- the one or, where there is none, the other
abbrev pub or_else : Option Lit → Option Lit → Option Lit
or_else (Some l) other = Some l
or_else None other = other

-- the first literal that a constraint forces
abbrev pub next_forced : List Lit → List NormalConstraint → Option Lit
next_forced assigned [] = None
next_forced assigned (n ∷ ns) = or_else (first_forced assigned n n.terms) (next_forced assigned ns)

-- what the search comes to: a conflict, an assignment from which nothing is forced, or neither in the steps allowed
pub data Outcome : Type 0 where
  Conflict : Outcome
  Fixpoint : List Lit → Outcome
  Unfinished : Outcome

-- what comes after an assignment, whose next forced literal is known
abbrev pub onward : (List Lit → Outcome) → List Lit → Option Lit → Outcome
onward rest assigned None = Fixpoint assigned
onward rest assigned (Some l) = rest (assigned ++ l ∷ [])

-- the outcome from an assignment, in so many steps
abbrev pub outcome : ℕ → List NormalConstraint → List Lit → Outcome
outcome zero constraints assigned = Unfinished
outcome (suc steps) constraints assigned =
    if list_any (is_falsified assigned) constraints
    then Conflict
    else onward (outcome steps constraints) assigned (next_forced assigned constraints)
