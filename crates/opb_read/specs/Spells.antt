-- What it is for a text to spell a problem.
use Rattle.std.specs.Prelude.{◌≡◌, ℕ, if◌then◌else◌, Option, Some, None, List, [], ◌∷◌, drop}
use Rattle.std.specs.Option.{option_map}
use Rattle.pb_text.specs.Lexeme.{Lexeme, lexemes}
use Rattle.linear.specs.Opb.{Opb}
use Rattle.opb_read.specs.Kinds.{begins_objective}
use Rattle.opb_read.specs.Pieces.{Pieces, pieces}
use Rattle.opb_read.specs.Forms.{objective_of, constraints_of, names_in}

-- no objective: a constraint in each piece
abbrev pub decision_problem : List (List ℕ) → Pieces → Option Opb
decision_problem names p =
    option_map
    (λ cs. record { names = names; objective = None; constraints = cs })
    (constraints_of names p.first p.others)

-- the sum of an objective in the first piece, and a constraint in each of the others
abbrev pub optimisation_problem : List (List ℕ) → Pieces → Option Opb
optimisation_problem names p =
    elim p.others [
      | [] ↦ None
      | next ∷ others ↦ elim (objective_of names p.first) [
        | None ↦ None
        | Some terms ↦ option_map
            (λ cs. record { names = names; objective = Some terms; constraints = cs })
            (constraints_of names next others)
      ]
    ]

-- the problem that tokens say, its variables numbered in order of first occurrence
unfoldable pub problem_of : List Lexeme → Option Opb
problem_of tokens =
    if begins_objective tokens then optimisation_problem (names_in [] (drop 2 tokens)) (pieces (drop 2 tokens))
    else decision_problem (names_in [] tokens) (pieces tokens)

-- The text spells the problem: its pieces, at each `;`, are the statements and an empty last one. The first may be
-- an objective, all others are constraints, and the names are those that occur, in order of first occurrence.
unfoldable pub Spells : List ℕ → Opb → Type 0
Spells text p = problem_of (lexemes text) ≡ Some p
