-- The worked cases' vocabulary: a file's names, and the parts of steps made short.
use Rattle.std.specs.Prelude.{◌≡◌, ℕ, ℤ, pos, neg_ℤ, true, false, None, Some, List, [], ◌∷◌, codes}
use Rattle.linear.specs.declared.term.Lit.{Lit}
use Rattle.linear.specs.declared.term.Var.{Var}
use Rattle.linear.specs.declared.term.Term.{Term}
use Rattle.linear.specs.declared.constraint.Signed.{Signed}
use Rattle.linear.specs.declared.constraint.Relation.TheVariants.{AtLeast}
use Rattle.proof_steps.specs.declared.step.Item.TheVariants.{Id, Axiom, Add, Weaken}
use Rattle.proof_steps.specs.declared.step.GoalName.TheVariants as goals
use Rattle.proof_steps.specs.declared.step.Step.{Step}
use Rattle.proof_steps.specs.declared.step.Step.TheVariants as steps
use Rattle.proof_steps.specs.declared.conclusion.Lower.TheVariants as lowers
use Rattle.proof_steps.specs.declared.conclusion.Upper.TheVariants as uppers
use Rattle.proof_steps.specs.declared.conclusion.Conclusion.{Conclusion}
use Rattle.proof_steps.specs.declared.conclusion.Conclusion.TheVariants as conclusions
use Rattle.proof_text.specs.Words.{words}
use Rattle.proof_lines.specs.Lines.{Numbered, lines_of}
use Rattle.proof_text.specs.Spells.{IsLine}
use Rattle.proof_text.specs.ProofSpells.{SpellsProof}
use Rattle.proof_text.specs.declared.line.Line.{Line}
use Rattle.proof_text.specs.declared.line.Section.{Section}

-- the names of the file
abbrev pub file : List (List ℕ)
file = codes "x1" ∷ codes "x2" ∷ []

-- its variables are 0 and 1, and new names come from 2 on
abbrev pub variable : ℕ → Var
variable n = record { 0 = n }

abbrev pub plain : ℕ → Lit
plain n = record { var = variable n; negated = false }

abbrev pub negated : ℕ → Lit
negated n = record { var = variable n; negated = true }

abbrev pub term : ℤ → Lit → Term
term c l = record { coef = c; var = l.var; negated = l.negated }

abbrev pub at_least : List Term → ℤ → Signed
at_least ts right = record { terms = ts; relation = AtLeast; right = right }

abbrev pub minus : ℕ → ℤ
minus n = neg_ℤ (pos n)

-- the line spells this at its section, and leaves these names
abbrev pub Spells : Section → List ℕ → Line → List (List ℕ) → Type 0
Spells section text line names = IsLine section file (words text) line names

-- the line spells nothing at its section, whatever names there are
abbrev pub SpellsNothing : Section → List ℕ → Type 0
SpellsNothing section text = (old : List (List ℕ)) (line : Line) (new : List (List ℕ)) → IsLine section old (words text) line new → ⊥

-- a line with its number
abbrev pub line_at : ℕ → List ℕ → Numbered
line_at n text = record { number = n; text = text }

-- these lines of the text count, and the text ends on the line of this number
abbrev pub AreLines : List ℕ → List Numbered → ℕ → Type 0
AreLines text ls end = lines_of text ≡ record { lines = ls; last = end }

-- an improving solution, a sum, and bounds
abbrev pub improving_proof : List ℕ
improving_proof = codes "pseudo-Boolean proof version 2.0\nf 1\nsoli x1 ~x2\npol 1 2 +\noutput NONE\nconclusion BOUNDS 1 1\nend pseudo-Boolean proof\n"

abbrev pub improving_steps : List Step
improving_steps = steps.Soli (plain 0 ∷ negated 1 ∷ []) ∷ steps.Pol (Id (pos 1) ∷ Id (pos 2) ∷ Add ∷ []) ∷ []

abbrev pub one_and_one : Conclusion
one_and_one = conclusions.Bounds (lowers.At (pos 1)) (uppers.At (pos 1)) None

-- each line's new names stand behind those of the lines before; comments and blank lines part the lines, and the last has
-- no LF
abbrev pub growing_proof : List ℕ
growing_proof = codes "* x7\npseudo-Boolean proof version 2.0;\nf 3 ;\n\npol 1 ~x3 +\n * x8\npol x4 x3 w ;\noutput NONE ;\nconclusion SAT : x5 ~x3\n\r\nend pseudo-Boolean proof"

abbrev pub growing_steps : List Step
growing_steps = steps.Pol (Id (pos 1) ∷ Axiom (negated 2) ∷ Add ∷ []) ∷ steps.Pol (Axiom (plain 3) ∷ Weaken (variable 2) ∷ []) ∷ []

abbrev pub growing_conclusion : Conclusion
growing_conclusion = conclusions.Sat (Some (plain 4 ∷ negated 2 ∷ []))

-- a block with a goal, and steps in both
abbrev pub nested_proof : List ℕ
nested_proof = codes "pseudo-Boolean proof version 2.0\nf 5\nred >= 1 ; ; begin\nproofgoal #1\npol 1 2 +\nend 8\nrup >= 0 ;\nend\noutput NONE\nconclusion UNSAT : 9\nend pseudo-Boolean proof\n"

abbrev pub nested_steps : List Step
nested_steps =
    steps.RedBegin (at_least [] (pos 1)) []
    ∷ steps.Goal goals.Itself
    ∷ steps.Pol (Id (pos 1) ∷ Id (pos 2) ∷ Add ∷ [])
    ∷ steps.End
    ∷ steps.Rup (at_least [] (pos 0))
    ∷ steps.End
    ∷ []

-- a text that is no proof of any steps and any conclusion
abbrev pub IsNoProof : List ℕ → Type 0
IsNoProof text = (names : List (List ℕ)) (count : ℤ) (all : List Step) (c : Conclusion) → SpellsProof text names count all c → ⊥
