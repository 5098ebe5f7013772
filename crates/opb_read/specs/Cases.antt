-- Short words for the worked cases: terms, constraints and problems written out.
use Rattle.std.specs.Prelude.{ℕ, ℤ, true, false, Option, Some, List}
use Rattle.pb_text.specs.Lexeme.{lexemes}
use Rattle.linear.specs.declared.term.Term.{Term}
use Rattle.linear.specs.declared.constraint.Signed.{Signed}
use Rattle.linear.specs.declared.constraint.Relation.TheVariants.{AtLeast, Equal}
use Rattle.linear.specs.Opb.{Opb}
use Rattle.opb_read.specs.Spells.{problem_of}

-- what a text spells, if it does
abbrev pub spelled : List ℕ → Option Opb
spelled text = problem_of (lexemes text)

abbrev pub plain : ℤ → ℕ → Term
plain c v = record { coef = c; var = record { 0 = v }; negated = false }

abbrev pub negated : ℤ → ℕ → Term
negated c v = record { coef = c; var = record { 0 = v }; negated = true }

abbrev pub at_least : List Term → ℤ → Signed
at_least ts right = record { terms = ts; relation = AtLeast; right = right }

abbrev pub equal : List Term → ℤ → Signed
equal ts right = record { terms = ts; relation = Equal; right = right }

abbrev pub problem : List (List ℕ) → Option (List Term) → List Signed → Option Opb
problem names objective constraints = Some (record { names = names; objective = objective; constraints = constraints })
