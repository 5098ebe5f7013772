-- The forms of which the lines of a proof are made: for each, whether words have it and what they then say. `names` is
-- the table that numbers the variables.
use Rattle.std.specs.Prelude.{ℕ, ℤ, Bool, true, false, not, ◌&&◌, ◌||◌, if◌then◌else◌, Option, Some, None, List, [], ◌∷◌, map, codes, bytes_eq}
use Rattle.std.specs.List.{list_all, list_any}
use Rattle.pb_text.specs.Lexeme.{kind_of}
use Rattle.pb_text.specs.Word.{is_negated, name_of}
use Rattle.pb_text.specs.Number.{integer_value}
use Rattle.linear.specs.Table.{place_of}
use Rattle.linear.specs.declared.term.Lit.{Lit}
use Rattle.linear.specs.declared.term.Var.{Var}
use Rattle.linear.specs.declared.term.Term.{Term}
use Rattle.substitution.specs.declared.image.Image.{Image}
use Rattle.substitution.specs.declared.image.Image.TheVariants as images
use Rattle.proof_steps.specs.declared.step.Item.{Item}
use Rattle.proof_steps.specs.declared.step.Item.TheVariants as items
use Rattle.proof_text.specs.Kinds.{is_integer, is_literal, is_at_least, is_arrow}
use Rattle.proof_text.specs.Numbering.{lit_of}

-- literals alone
abbrev pub are_literals : List (List ℕ) → Bool
are_literals ws = list_all (λ w. is_literal (kind_of w)) ws

abbrev pub literals_of : List (List ℕ) → List (List ℕ) → List Lit
literals_of names ws = map (lit_of names) ws

-- integers alone
abbrev pub are_integers : List (List ℕ) → Bool
are_integers ws = list_all (λ w. is_integer (kind_of w)) ws

abbrev pub integers_of : List (List ℕ) → List ℤ
integers_of ws = map integer_value ws

-- a name without `~`
abbrev pub is_variable : List ℕ → Bool
is_variable w = is_literal (kind_of w) && not (is_negated w)

-- the variable of a name
abbrev pub variable_of : List (List ℕ) → List ℕ → Var
variable_of names w = record { 0 = place_of names (name_of w) }

-- an integer and a literal: a term
abbrev pub is_term : List ℕ → List ℕ → Bool
is_term a b = is_integer (kind_of a) && is_literal (kind_of b)

abbrev pub term_of : List (List ℕ) → List ℕ → List ℕ → Term
term_of names a b = record {
  coef = integer_value a;
  var = variable_of names b;
  negated = is_negated b;
}

-- the terms with which words begin
abbrev pub terms_of : List (List ℕ) → List (List ℕ) → List Term
terms_of names [] = []
terms_of names (a ∷ []) = []
terms_of names (a ∷ b ∷ rest) = if is_term a b then term_of names a b ∷ terms_of names rest else []

-- the words behind those terms
abbrev pub behind_terms : List (List ℕ) → List (List ℕ)
behind_terms [] = []
behind_terms (a ∷ []) = a ∷ []
behind_terms (a ∷ b ∷ rest) = if is_term a b then behind_terms rest else a ∷ b ∷ rest

-- `>=` and an integer, and nothing behind them: the right side of a constraint
abbrev pub closing_of : List (List ℕ) → Option ℤ
closing_of (a ∷ b ∷ []) = if is_at_least (kind_of a) && is_integer (kind_of b) then Some (integer_value b) else None
closing_of _ = None

-- an item of two words: a factor with its operation, or a variable with the weakening by it
abbrev pub is_pair : List ℕ → List ℕ → Bool
is_pair a b =
    (is_integer (kind_of a) && (bytes_eq b (codes "*") || bytes_eq b (codes "d")))
    || (is_variable a && bytes_eq b (codes "w"))

abbrev pub pair_of : List (List ℕ) → List ℕ → List ℕ → Item
pair_of names a b =
    if bytes_eq b (codes "*") then items.Multiply (integer_value a)
    else if bytes_eq b (codes "d") then items.Divide (integer_value a)
    else items.Weaken (variable_of names a)

-- an item of one word: an id, an axiom, an addition or a saturation
abbrev pub is_single : List ℕ → Bool
is_single a = is_integer (kind_of a) || is_literal (kind_of a) || bytes_eq a (codes "+") || bytes_eq a (codes "s")

abbrev pub single_of : List (List ℕ) → List ℕ → Item
single_of names a =
    if is_integer (kind_of a) then items.Id (integer_value a)
    else if is_literal (kind_of a) then items.Axiom (lit_of names a)
    else if bytes_eq a (codes "+") then items.Add
    else items.Saturate

-- the items of a `pol` line: words that can be an item of two words are one
abbrev pub are_items : List (List ℕ) → Bool
are_items [] = true
are_items (a ∷ []) = is_single a
are_items (a ∷ b ∷ rest) = if is_pair a b then are_items rest else is_single a && are_items (b ∷ rest)

abbrev pub items_of : List (List ℕ) → List (List ℕ) → List Item
items_of names [] = []
items_of names (a ∷ []) = single_of names a ∷ []
items_of names (a ∷ b ∷ rest) = if is_pair a b then pair_of names a b ∷ items_of names rest else single_of names a ∷ items_of names (b ∷ rest)

-- an image: a literal, or the very text `0` or `1`
abbrev pub is_image : List ℕ → Bool
is_image w = is_literal (kind_of w) || bytes_eq w (codes "0") || bytes_eq w (codes "1")

abbrev pub image_of : List (List ℕ) → List ℕ → Image
image_of names w =
    if is_literal (kind_of w) then images.Lit (lit_of names w)
    else if bytes_eq w (codes "0") then images.Zero
    else images.One

-- names and images in turn; between the two an arrow may stand
abbrev pub are_images : List (List ℕ) → Bool
are_images [] = true
are_images (x ∷ []) = false
are_images (x ∷ i ∷ []) = is_variable x && is_image i
are_images (x ∷ i ∷ j ∷ rest) =
    if is_arrow (kind_of i) then is_variable x && (is_image j && are_images rest)
    else is_variable x && (is_image i && are_images (j ∷ rest))

abbrev pub images_of : List (List ℕ) → List (List ℕ) → List (Var × Image)
images_of names [] = []
images_of names (x ∷ []) = []
images_of names (x ∷ i ∷ []) = (variable_of names x, image_of names i) ∷ []
images_of names (x ∷ i ∷ j ∷ rest) =
    if is_arrow (kind_of i) then (variable_of names x, image_of names j) ∷ images_of names rest
    else (variable_of names x, image_of names i) ∷ images_of names (j ∷ rest)

-- the names on the left of a substitution
abbrev pub lefts : List (List ℕ) → List (List ℕ)
lefts [] = []
lefts (x ∷ []) = []
lefts (x ∷ i ∷ []) = x ∷ []
lefts (x ∷ i ∷ j ∷ rest) = x ∷ (if is_arrow (kind_of i) then lefts rest else lefts (j ∷ rest))

-- does a word stand twice
abbrev pub repeats : List (List ℕ) → Bool
repeats [] = false
repeats (w ∷ ws) = list_any (λ v. bytes_eq v w) ws || repeats ws
