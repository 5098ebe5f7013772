use Rattle.std.proofs.Common.{refl, codes, arith}
use Rattle.pb_text.specs.Lexeme.{lexemes, lexemes_from, kind_of, kind_of_word}
use Rattle.pb_text.specs.Word.{is_integer as integer_word, is_literal as literal_word, is_misspelt}
use Rattle.pb_text.specs.Name.{is_name}
use Rattle.pb_text.specs.Number.{integer_size, integer_value}
use Rattle.proof_text.specs.Words.{words}
use Rattle.proof_text.specs.Rules.{rule_of}
use Rattle.proof_text.specs.Steps.{step_of, counted}
use Rattle.proof_text.specs.Spells.{measured}
use Rattle.proof_text.specs.declared.line.Section.TheVariants.{Step as StepSection}
use Rattle.proof_text.proofs.Computed.{all_small, nothing}
use Rattle.proof_text.proofs.cases.deletions.Goals as goal

pub returns-clause-deletion : goal.returns-clause-deletion
unfolding words step_of counted rule_of lexemes lexemes_from kind_of kind_of_word integer_word literal_word is_misspelt is_name integer_size integer_value
returns-clause-deletion c = record { names = refl; few = omega arith; says = refl; proper = tt; small = all_small (measured StepSection (words (codes "del id 2 -1"))) refl }

pub returns-clause-empty_deletion : goal.returns-clause-empty_deletion
unfolding words step_of counted rule_of lexemes lexemes_from kind_of kind_of_word integer_word literal_word is_misspelt is_name integer_size integer_value
returns-clause-empty_deletion c = record { names = refl; few = omega arith; says = refl; proper = tt; small = all_small (measured StepSection (words (codes "del id ;"))) refl }

pub returns-clause-deletion_of_range : goal.returns-clause-deletion_of_range
unfolding words step_of counted rule_of lexemes lexemes_from kind_of kind_of_word integer_word literal_word is_misspelt is_name integer_size integer_value
returns-clause-deletion_of_range c = nothing StepSection (codes "del range 1 2") (λ names. refl)

pub returns-clause-deletion_of_spec : goal.returns-clause-deletion_of_spec
unfolding words step_of counted rule_of lexemes lexemes_from kind_of kind_of_word integer_word literal_word is_misspelt is_name integer_size integer_value
returns-clause-deletion_of_spec c = nothing StepSection (codes "del spec 1 x1 >= 1 ;") (λ names. refl)

pub returns-clause-deletion_without_word : goal.returns-clause-deletion_without_word
unfolding words step_of counted rule_of lexemes lexemes_from kind_of kind_of_word integer_word literal_word is_misspelt is_name integer_size integer_value
returns-clause-deletion_without_word c = nothing StepSection (codes "del 1") (λ names. refl)
