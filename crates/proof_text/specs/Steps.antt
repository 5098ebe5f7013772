-- What the line of a step says.
use Rattle.std.specs.Prelude.{◌≡◌, ◌≤◌, ℕ, length, ◌&&◌, Bool, true, false, if◌then◌else◌, Option, Some, None, List, [], ◌∷◌, ◌++◌, drop, codes, bytes_eq, ⊤}
use Rattle.std.specs.Option.{option_map}
use Rattle.pb_text.specs.Lexeme.{kind_of}
use Rattle.pb_text.specs.Number.{integer_value}
use Rattle.linear.specs.declared.term.Var.{Var}
use Rattle.linear.specs.declared.constraint.Signed.{Signed}
use Rattle.linear.specs.declared.constraint.Relation.TheVariants as relations
use Rattle.substitution.specs.declared.image.Image.{Image}
use Rattle.substitution.specs.Images.{NamesOnce}
use Rattle.proof_steps.specs.declared.step.GoalName.{GoalName}
use Rattle.proof_steps.specs.declared.step.GoalName.TheVariants as goals
use Rattle.proof_steps.specs.declared.step.Step.{Step}
use Rattle.proof_steps.specs.declared.step.Step.TheVariants as steps
use Rattle.proof_text.specs.declared.keyword.Rule.{Rule}
use Rattle.proof_text.specs.declared.keyword.Rule.TheVariants as rules
use Rattle.proof_text.specs.Kinds.{is_integer}
use Rattle.proof_text.specs.Words.{is_first, are_words, unclosed, Halves, halves, AreSmall}
use Rattle.linear.specs.Largest.{most_names}
use Rattle.proof_text.specs.Numbering.{names_in}
use Rattle.proof_text.specs.Forms.{are_literals, literals_of, are_integers, integers_of, terms_of, behind_terms, closing_of, are_items, items_of, are_images, images_of}
use Rattle.proof_text.specs.Rules.{rule_of}

-- terms, `>=` and an integer: a constraint
abbrev pub constraint_of : List (List ℕ) → List (List ℕ) → Option Signed
constraint_of names ws =
    option_map (λ right. record { terms = terms_of names ws; relation = relations.AtLeast; right = right }) (closing_of (behind_terms ws))

-- a constraint, `;`, and whatever follows
abbrev pub rup_by : List (List ℕ) → List (List ℕ) → Option (List (List ℕ)) → Option Step
rup_by names front None = None
rup_by names front (Some hints) = option_map (λ c. steps.Rup c) (constraint_of names front)

-- whether a block begins behind a substitution: not where nothing follows or `;` alone, and where `;` and `begin` do;
-- nothing else may follow
abbrev pub begins_block : Option (List (List ℕ)) → Option Bool
begins_block None = Some false
begins_block (Some []) = Some false
begins_block (Some (w ∷ rest)) = if are_words (codes "begin" ∷ []) (unclosed (w ∷ rest)) then Some true else None

-- a step of redundance, with or without a block
abbrev pub red_step : Signed → List (Var × Image) → Bool → Step
red_step c images true = steps.RedBegin c images
red_step c images false = steps.Red c images

abbrev pub red_with : List (List ℕ) → Halves → Option Signed → Option Step
red_with names witness None = None
red_with names witness (Some c) =
    if are_images witness.front then option_map (λ block. red_step c (images_of names witness.front) block) (begins_block witness.behind) else None

-- a constraint, `;`, a substitution, and perhaps `;` and `begin`
abbrev pub red_by : List (List ℕ) → List (List ℕ) → Option (List (List ℕ)) → Option Step
red_by names front None = None
red_by names front (Some witness) = red_with names (halves witness) (constraint_of names front)

-- `id` and integers
abbrev pub is_deletion : List (List ℕ) → Bool
is_deletion ws = is_first (codes "id") ws && are_integers (unclosed (drop 1 ws))

-- the goal that a word names: an id, `#1` or `#2`
abbrev pub goal_named : List ℕ → Option GoalName
goal_named w =
    if is_integer (kind_of w) then Some (goals.Live (integer_value w))
    else if bytes_eq w (codes "#1") then Some goals.Itself
    else if bytes_eq w (codes "#2") then Some goals.Objective
    else None

-- the goal that words name: one word does
abbrev pub goal_of : List (List ℕ) → Option GoalName
goal_of (w ∷ []) = goal_named w
goal_of _ = None

-- an id, which counts for nothing, or no word
abbrev pub is_closing : List (List ℕ) → Bool
is_closing [] = true
is_closing (w ∷ []) = is_integer (kind_of w)
is_closing _ = false

-- the step of a rule that the words behind its own word say
abbrev pub step_by : Rule → List (List ℕ) → List (List ℕ) → Option Step
step_by rules.Pol names ws = if are_items (unclosed ws) then Some (steps.Pol (items_of names (unclosed ws))) else None
step_by rules.Rup names ws = rup_by names (halves ws).front (halves ws).behind
step_by rules.Red names ws = red_by names (halves ws).front (halves ws).behind
step_by rules.Sol names ws = if are_literals (unclosed ws) then Some (steps.Sol (literals_of names (unclosed ws))) else None
step_by rules.Soli names ws = if are_literals (unclosed ws) then Some (steps.Soli (literals_of names (unclosed ws))) else None
step_by rules.Del names ws = if is_deletion ws then Some (steps.Del (integers_of (unclosed (drop 1 ws)))) else None
step_by rules.Goal names ws = option_map (λ goal. steps.Goal goal) (goal_of (unclosed ws))
step_by rules.End names ws = if is_closing (unclosed ws) then Some steps.End else None

-- the words of a substitution, if a `;` stands before it
abbrev pub witness_words : Option (List (List ℕ)) → List (List ℕ)
witness_words None = []
witness_words (Some ws) = (halves ws).front

-- the words of a step that count, of those behind its rule's own word: nothing behind the `;` of `rup` does, and no
-- `begin` of a block
abbrev pub counted_by : Rule → List (List ℕ) → List (List ℕ)
counted_by rules.Pol ws = unclosed ws
counted_by rules.Rup ws = (halves ws).front
counted_by rules.Red ws = (halves ws).front ++ witness_words (halves ws).behind
counted_by rules.Sol ws = unclosed ws
counted_by rules.Soli ws = unclosed ws
counted_by rules.Del ws = unclosed (drop 1 ws)
counted_by rules.Goal ws = unclosed ws
counted_by rules.End ws = unclosed ws

-- no name stands twice on the left of a substitution
abbrev pub IsProper : Step → Type 0
IsProper (steps.Red c images) = NamesOnce images
IsProper (steps.Pol items) = ⊤
IsProper (steps.Rup c) = ⊤
IsProper (steps.Sol listing) = ⊤
IsProper (steps.Soli listing) = ⊤
IsProper (steps.Del ids) = ⊤
IsProper (steps.RedBegin c images) = NamesOnce images
IsProper (steps.Goal goal) = ⊤
IsProper steps.End = ⊤

-- the step that a line's words say, wherever it may stand, its variables numbered by the table `names`
unfoldable pub step_of : List (List ℕ) → List (List ℕ) → Option Step
step_of names [] = None
step_of names (w ∷ rest) = elim (rule_of w) [ None ↦ None | Some rule ↦ step_by rule names rest ]

-- the words of a step's line that count
unfoldable pub counted : List (List ℕ) → List (List ℕ)
counted [] = []
counted (w ∷ rest) = elim (rule_of w) [ None ↦ [] | Some rule ↦ counted_by rule rest ]

-- The words of a line are this step: its variables are numbered by the table `new`, which is the table `old` and the
-- names that the step brings, in order, and has no more than can be numbered; no name stands twice on the left; and the
-- integers are within 2^120.
pub record IsStep (old : List (List ℕ)) (ws : List (List ℕ)) (step : Step) (new : List (List ℕ)) : Type 0 where
  pub names : new ≡ names_in old (counted ws)
  pub few : length new ≤ most_names
  pub says : step_of new ws ≡ Some step
  pub proper : IsProper step
  pub small : AreSmall (counted ws)
