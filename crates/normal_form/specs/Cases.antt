-- Small constraints, to compute the definitions on.
use Rattle.std.specs.Prelude.{ℕ, ℤ, pos, neg_ℤ, true, false, List, [], ◌∷◌}
use Rattle.linear.specs.declared.term.Term.{Term}
use Rattle.linear.specs.declared.constraint.Relation.TheVariants.{AtLeast, Equal}
use Rattle.linear.specs.declared.constraint.Signed.{Signed}
use Rattle.normal_form.specs.declared.term.NormalTerm.{NormalTerm}
use Rattle.normal_form.specs.Normal.{NormalConstraint}

-- signed terms of a variable, and of its negation
abbrev pub signed : ℤ → ℕ → Term
signed c v = record { coef = c; var = record { 0 = v }; negated = false }

abbrev pub signed_not : ℤ → ℕ → Term
signed_not c v = record { coef = c; var = record { 0 = v }; negated = true }

-- the same of normal constraints
abbrev pub plain : ℕ → ℕ → NormalTerm
plain c v = record { coef = c; var = record { 0 = v }; negated = false }

abbrev pub negated : ℕ → ℕ → NormalTerm
negated c v = record { coef = c; var = record { 0 = v }; negated = true }

abbrev pub normal : List NormalTerm → ℕ → NormalConstraint
normal terms degree = record { terms = terms; degree = degree }

-- -2 x1 3 x2 -2 x1 >= -1
abbrev pub repeated : Signed
repeated = record { terms = signed (neg_ℤ (pos 2)) 1 ∷ signed (pos 3) 2 ∷ signed (neg_ℤ (pos 2)) 1 ∷ []; relation = AtLeast; right = neg_ℤ (pos 1) }

-- 1 x1 1 ~x1 >= 1
abbrev pub cancelling : Signed
cancelling = record { terms = signed (pos 1) 1 ∷ signed_not (pos 1) 1 ∷ []; relation = AtLeast; right = pos 1 }

-- 2 x1 2 x2 = 1
abbrev pub equality : Signed
equality = record { terms = signed (pos 2) 1 ∷ signed (pos 2) 2 ∷ []; relation = Equal; right = pos 1 }
