-- Literals that may be made true before a search: that breaks no constraint of the file, and costs nothing.
use Rattle.std.specs.Prelude.{◌≡◌, ◌↔◌, ℕ, ◌<◌, Bool, true, false, not, ℤ, pos, neg_ℤ, ◌≤ℤ◌, List, Option, AllPairs, Contains, IfSome, length, if◌then◌else◌}
use Rattle.linear.specs.Opb.{Opb}
use Rattle.linear.specs.declared.term.Lit.{Lit}
use Rattle.linear.specs.declared.term.Term.{Term}
use Rattle.normal_form.specs.NormalOf.{net}
use Rattle.presolve.specs.Standing.{StandsNowhere}

-- by how much an objective is greater where a literal is true than where it is false
abbrev pub price : List Term → ℕ → Bool → ℤ
price objective v negated = if negated then neg_ℤ (net objective v) else net objective v

-- the truth of a literal does not raise the objective, if there is one
abbrev pub CostsNothing : Option (List Term) → ℕ → Bool → Type 0
CostsNothing objective v negated = IfSome objective (λ terms. price terms v negated ≤ℤ pos 0)

-- a literal of the problem may be made true: its opposite stands in no normal constraint, and its truth costs nothing
pub record IsFixable (p : Opb) (l : Lit) : Type 0 where
  pub variable : l.var.0 < length p.names
  pub opposite : StandsNowhere p.constraints (l.var.0) (not l.negated)
  pub objective : CostsNothing p.objective (l.var.0) l.negated

-- it is the one that is fixed: where both literals of a variable may be, that is the one without `~`
pub record IsFixed (p : Opb) (l : Lit) : Type 0 where
  pub fixable : IsFixable p l
  pub first : l.negated ≡ true → IsFixable p (record l { negated = false }) → ⊥

-- just these literals are fixed, by rising variable
pub record AreFixed (p : Opb) (ls : List Lit) : Type 0 where
  pub order : AllPairs (λ k l. k.var.0 < l.var.0) ls
  pub exact : (l : Lit) → Contains ls l ↔ IsFixed p l
