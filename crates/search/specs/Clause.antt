-- The clause that a solver learns from literals that lead to a conflict.
use Rattle.std.specs.Prelude.{pos, not, List, map}
use Rattle.linear.specs.declared.constraint.Relation.TheVariants.{AtLeast}
use Rattle.linear.specs.declared.constraint.Signed.{Signed}
use Rattle.linear.specs.declared.term.Lit.{Lit}
use Rattle.linear.specs.declared.term.Term.{Term}

-- 1 ~l
abbrev pub opposite_term : Lit → Term
opposite_term l = record { coef = pos 1; var = l.var; negated = not l.negated }

-- 1 ~l1 .. 1 ~ln >= 1: not all of these literals are true
abbrev pub negated_clause : List Lit → Signed
negated_clause assigned = record { terms = map opposite_term assigned; relation = AtLeast; right = pos 1 }
