use Rattle.std.proofs.Common.{refl, codes, arith}
use Rattle.pb_text.specs.Lexeme.{lexemes, lexemes_from, kind_of, kind_of_word}
use Rattle.pb_text.specs.Word.{is_integer as integer_word, is_literal as literal_word, is_misspelt}
use Rattle.pb_text.specs.Name.{is_name}
use Rattle.pb_text.specs.Number.{integer_size, integer_value}
use Rattle.proof_text.specs.Words.{words}
use Rattle.proof_text.specs.Rules.{rule_of}
use Rattle.proof_text.specs.Steps.{step_of, counted}
use Rattle.proof_text.specs.Spells.{measured}
use Rattle.proof_text.specs.declared.line.Section.TheVariants.{Step as StepSection}
use Rattle.proof_text.proofs.Computed.{all_small, nothing}
use Rattle.proof_text.proofs.cases.solutions.Goals as goal

pub returns-clause-improving : goal.returns-clause-improving
unfolding words step_of counted rule_of lexemes lexemes_from kind_of kind_of_word integer_word literal_word is_misspelt is_name integer_size integer_value
returns-clause-improving c = record { names = refl; few = omega arith; says = refl; proper = tt; small = all_small (measured StepSection (words (codes "soli x1 ~x2"))) refl }

pub returns-clause-solution : goal.returns-clause-solution
unfolding words step_of counted rule_of lexemes lexemes_from kind_of kind_of_word integer_word literal_word is_misspelt is_name integer_size integer_value
returns-clause-solution c = record { names = refl; few = omega arith; says = refl; proper = tt; small = all_small (measured StepSection (words (codes "sol ~x3 x1 ;"))) refl }

pub returns-clause-empty_solution : goal.returns-clause-empty_solution
unfolding words step_of counted rule_of lexemes lexemes_from kind_of kind_of_word integer_word literal_word is_misspelt is_name integer_size integer_value
returns-clause-empty_solution c = record { names = refl; few = omega arith; says = refl; proper = tt; small = all_small (measured StepSection (words (codes "sol"))) refl }

pub returns-clause-solution_of_integers : goal.returns-clause-solution_of_integers
unfolding words step_of counted rule_of lexemes lexemes_from kind_of kind_of_word integer_word literal_word is_misspelt is_name integer_size integer_value
returns-clause-solution_of_integers c = nothing StepSection (codes "sol 1") (λ names. refl)
