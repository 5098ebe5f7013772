-- A text spells at most one problem.
use Rattle.std.proofs.Common.{◌≡◌, ℕ, List, Some, sym, ap, ◌∙◌}
use Rattle.pb_text.specs.Lexeme.{Lexeme, lexemes}
use Rattle.linear.specs.Opb.{Opb}
use Rattle.opb_read.specs.Spells.{Spells, problem_of}

pub one_problem : (text : List ℕ) (p q : Opb) → Spells text p → Spells text q → p ≡ q
unfolding Spells
one_problem text p q a b = cc

pub spells_text : (text : List ℕ) (left : List Lexeme) (p q : Opb) → left ≡ lexemes text → problem_of left ≡ Some p → q ≡ p → Spells text q
unfolding Spells
spells_text text left p q e h same = sym (ap problem_of e) ∙ h ∙ ap (λ x. Some x) (sym same)
