-- A table of the literals that stand. The private functions that look at a sum speak of this.
use Rattle.std.specs.Prelude.{◌≡◌, Bool, false, List, slice_index_or}
use Rattle.linear.specs.declared.term.Lit.{Lit}
use Rattle.linear.specs.Literal.{code}
use Rattle.propagate.specs.Literals.{lists}

-- the table has just the literals that are listed
abbrev pub AreJust : List Lit → List Bool → Type 0
AreJust listed stands = (l : Lit) → slice_index_or stands (code l) false ≡ lists listed l
