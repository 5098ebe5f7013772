-- Deleting constraints one after another.
use Rattle.std.specs.Prelude.{◌≡◌, ℕ, ℤ, List, None, cond}
use Rattle.std.specs.FinMap as map
use Rattle.std.specs.FinSet as set
use Rattle.std.specs.Ordering.{nat_cmp}
use Rattle.proof_rules.specs.Legal.{LegalDel}
use Rattle.proof_rules.specs.State.{State}

-- each of the ids is to be deleted in its turn
abbrev pub AreDeletable : State → List ℤ → Type 0
AreDeletable s ids = (t : State) × LegalDel s ids t

-- the second state is the first one without the constraints of some ids
pub record IsWithout (gone : set.FinSet nat_cmp) (s t : State) : Type 0 where
  pub live : (id : ℕ) → map.get t.live id ≡ cond (set.contains gone id) None (map.get s.live id)
  pub next : t.next ≡ s.next
