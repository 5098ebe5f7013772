-- Constraints that move from the front of a row to the end of another.
use Rattle.std.proofs.Common.{◌≡◌, ◌<◌, ◌++◌, ◌∷◌, [], List, Option, length, drop, get_or, set, ap, ◌∙◌, arith}
use Rattle.std.proofs.lemmas.List.{append_assoc}
use Rattle.normal_form.specs.Normal.{NormalConstraint}

abbrev Slots : Type 0
Slots = List (Option NormalConstraint)

-- the first one stands behind the others now, and all is the same in order
pub first_moved : (slots after waiting rest : Slots) (first left : Option NormalConstraint) → 0 < length waiting → first ≡ get_or waiting 0 first → after ≡ slots ++ first ∷ [] → rest ≡ drop 1 (set waiting 0 left) → after ++ rest ≡ slots ++ waiting
first_moved slots after [] rest first left some is more fewer = absurd (omega (arith, some))
first_moved slots after (s ∷ waiting) rest first left some is more fewer =
    ap (λ (xs : Slots). xs ++ rest) more ∙ ap (λ (ys : Slots). slots ++ first ∷ [] ++ ys) fewer ∙ append_assoc slots (first ∷ []) waiting ∙ ap (λ (x : Option NormalConstraint). slots ++ x ∷ waiting) is
