-- Terms that stand as a normal constraint has them.
use Rattle.std.specs.Prelude.{ℕ, ◌+◌, ◌≤◌, pos, ◌<ℤ◌, unsigned_abs, List, [], ◌∷◌}
use Rattle.linear.specs.declared.term.Term.{Term}
use Rattle.normal_form.specs.declared.term.NormalTerm.{NormalTerm}

-- the coefficients are above 0, and the variables rise strictly, none below `low`
abbrev pub ArePlain : ℕ → List Term → Type 0
ArePlain low [] = Unit {0}
ArePlain low (t ∷ ts) = (low ≤ t.var.0) × (pos 0 <ℤ t.coef) × ArePlain (t.var.0 + 1) ts

-- a term as one of a normal constraint
abbrev pub plain_term : Term → NormalTerm
plain_term t = record { coef = unsigned_abs t.coef; var = t.var; negated = t.negated }
