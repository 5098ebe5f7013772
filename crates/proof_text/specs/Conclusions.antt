-- What a proof's conclusion says.
use Rattle.std.specs.Prelude.{ℕ, ◌&&◌, ◌||◌, Bool, true, is_some, if◌then◌else◌, Option, Some, None, List, [], ◌∷◌, drop, codes, bytes_eq}
use Rattle.pb_text.specs.Lexeme.{kind_of}
use Rattle.pb_text.specs.Number.{integer_value}
use Rattle.linear.specs.declared.term.Lit.{Lit}
use Rattle.proof_steps.specs.declared.conclusion.Lower.{Lower}
use Rattle.proof_steps.specs.declared.conclusion.Lower.TheVariants as lowers
use Rattle.proof_steps.specs.declared.conclusion.Upper.{Upper}
use Rattle.proof_steps.specs.declared.conclusion.Upper.TheVariants as uppers
use Rattle.proof_steps.specs.declared.conclusion.Conclusion.{Conclusion}
use Rattle.proof_steps.specs.declared.conclusion.Conclusion.TheVariants as conclusions
use Rattle.proof_text.specs.declared.keyword.ConclusionKind.{ConclusionKind}
use Rattle.proof_text.specs.declared.keyword.ConclusionKind.TheVariants as kinds
use Rattle.proof_text.specs.Kinds.{is_integer, is_colon}
use Rattle.proof_text.specs.Words.{is_empty, is_first, unclosed}
use Rattle.proof_text.specs.Forms.{are_literals, literals_of}

-- the word with which a conclusion begins
unfoldable pub conclusion_kind_of : List ℕ → Option ConclusionKind
conclusion_kind_of word =
    if bytes_eq word (codes "NONE") then Some kinds.Nothing
    else if bytes_eq word (codes "SAT") then Some kinds.Sat
    else if bytes_eq word (codes "UNSAT") then Some kinds.Unsat
    else if bytes_eq word (codes "BOUNDS") then Some kinds.Bounds
    else None

-- a hint of literals: nothing, or `:` and literals
abbrev pub is_hint : List (List ℕ) → Bool
is_hint [] = true
is_hint (w ∷ rest) = is_colon (kind_of w) && are_literals rest

-- the words of the literals of a hint
abbrev pub hinted : List (List ℕ) → List (List ℕ)
hinted [] = []
hinted (w ∷ rest) = rest

-- a hint without literals is one; none is another thing
abbrev pub hint_of : List (List ℕ) → List (List ℕ) → Option (List Lit)
hint_of names [] = None
hint_of names (w ∷ rest) = Some (literals_of names rest)

-- `:` and an integer, which is a hint of an id and counts for nothing
abbrev pub is_id_hint : List ℕ → List ℕ → Bool
is_id_hint a b = is_colon (kind_of a) && is_integer (kind_of b)

-- the words behind a hint of an id, if one stands first
abbrev pub past_id : List (List ℕ) → List (List ℕ)
past_id [] = []
past_id (a ∷ []) = a ∷ []
past_id (a ∷ b ∷ rest) = if is_id_hint a b then rest else a ∷ b ∷ rest

-- a lower bound: an integer, `INF` or `-INF`
abbrev pub is_lower : List ℕ → Bool
is_lower w = is_integer (kind_of w) || bytes_eq w (codes "INF") || bytes_eq w (codes "-INF")

abbrev pub lower_of : List ℕ → Lower
lower_of w =
    if is_integer (kind_of w) then lowers.At (integer_value w)
    else if bytes_eq w (codes "INF") then lowers.Inf
    else lowers.MinusInf

-- an upper bound: an integer or `INF`
abbrev pub is_upper : List ℕ → Bool
is_upper w = is_integer (kind_of w) || bytes_eq w (codes "INF")

abbrev pub upper_of : List ℕ → Upper
upper_of w = if is_integer (kind_of w) then uppers.At (integer_value w) else uppers.Inf

-- a lower bound with an upper one and perhaps a hint of literals
abbrev pub bounds_by : List (List ℕ) → Lower → List (List ℕ) → Option Conclusion
bounds_by names lower [] = None
bounds_by names lower (u ∷ rest) = if is_upper u && is_hint rest then Some (conclusions.Bounds lower (upper_of u) (hint_of names rest)) else None

-- a lower bound, perhaps a hint of an id, and an upper bound with perhaps a hint of literals
abbrev pub bounds_of : List (List ℕ) → List (List ℕ) → Option Conclusion
bounds_of names [] = None
bounds_of names (l ∷ rest) = if is_lower l then bounds_by names (lower_of l) (past_id rest) else None

-- the conclusion that the words behind its first one say
abbrev pub conclusion_by : ConclusionKind → List (List ℕ) → List (List ℕ) → Option Conclusion
conclusion_by kinds.Nothing names ws = if is_empty ws then Some conclusions.Nothing else None
conclusion_by kinds.Sat names ws = if is_hint ws then Some (conclusions.Sat (hint_of names ws)) else None
conclusion_by kinds.Unsat names ws = if is_empty (past_id ws) then Some conclusions.Unsat else None
conclusion_by kinds.Bounds names ws = bounds_of names ws

-- the words of the literals that a conclusion hints at
abbrev pub literals_by : ConclusionKind → List (List ℕ) → List (List ℕ)
literals_by kinds.Sat ws = hinted ws
literals_by kinds.Bounds ws = hinted (drop 1 (past_id (drop 1 ws)))
literals_by _ ws = []

-- whether the words behind its first one are a conclusion; no table matters
abbrev pub is_conclusion : ConclusionKind → List (List ℕ) → Bool
is_conclusion kind ws = is_some (conclusion_by kind [] ws)

-- the conclusion that words say behind the word `conclusion`
abbrev pub conclusion_said : List (List ℕ) → List (List ℕ) → Option Conclusion
conclusion_said names [] = None
conclusion_said names (w ∷ rest) = elim (conclusion_kind_of w) [ None ↦ None | Some kind ↦ conclusion_by kind names rest ]

abbrev pub literals_said : List (List ℕ) → List (List ℕ)
literals_said [] = []
literals_said (w ∷ rest) = elim (conclusion_kind_of w) [ None ↦ [] | Some kind ↦ literals_by kind rest ]

-- the conclusion that a line's words say
unfoldable pub conclusion_of : List (List ℕ) → List (List ℕ) → Option Conclusion
conclusion_of names ws = if is_first (codes "conclusion") ws then conclusion_said names (unclosed (drop 1 ws)) else None

-- the words of the literals that a conclusion's line hints at
unfoldable pub conclusion_literals : List (List ℕ) → List (List ℕ)
conclusion_literals ws = literals_said (unclosed (drop 1 ws))
