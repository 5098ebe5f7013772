-- The `pol` line of an analysis: it begins with the conflict, and goes on from there.
use Rattle.std.specs.Prelude.{◌≡◌, ℕ, pos, List, ◌∷◌, ◌++◌}
use Rattle.proof_steps.specs.declared.step.Item.{Item}
use Rattle.proof_steps.specs.declared.step.Item.TheVariants as items

-- the line begins with the constraint of an id
abbrev pub BeginsWith : ℕ → List Item → Type 0
BeginsWith id line = (rest : List Item) × (line ≡ items.Id (pos id) ∷ rest)

-- the one line goes on where the other ends
abbrev pub GoesOnFrom : List Item → List Item → Type 0
GoesOnFrom before line = (rest : List Item) × (line ≡ before ++ rest)
