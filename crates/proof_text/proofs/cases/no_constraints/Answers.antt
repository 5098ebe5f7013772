use Rattle.std.proofs.Common.{refl, codes}
use Rattle.pb_text.specs.Lexeme.{lexemes, lexemes_from, kind_of, kind_of_word}
use Rattle.pb_text.specs.Word.{is_integer as integer_word, is_literal as literal_word, is_misspelt}
use Rattle.pb_text.specs.Name.{is_name}
use Rattle.pb_text.specs.Number.{integer_size, integer_value}
use Rattle.proof_text.specs.Words.{words}
use Rattle.proof_text.specs.Rules.{rule_of}
use Rattle.proof_text.specs.Steps.{step_of, counted}
use Rattle.proof_text.specs.declared.line.Section.TheVariants.{Step as StepSection}
use Rattle.proof_text.proofs.Computed.{nothing}
use Rattle.proof_text.proofs.cases.no_constraints.Goals as goal

pub returns-clause-equality : goal.returns-clause-equality
unfolding words step_of counted rule_of lexemes lexemes_from kind_of kind_of_word integer_word literal_word is_misspelt is_name integer_size integer_value
returns-clause-equality c = nothing StepSection (codes "rup 1 x1 = 1 ;") (λ names. refl)

pub returns-clause-at_most : goal.returns-clause-at_most
unfolding words step_of counted rule_of lexemes lexemes_from kind_of kind_of_word integer_word literal_word is_misspelt is_name integer_size integer_value
returns-clause-at_most c = nothing StepSection (codes "rup 1 x1 <= 1 ;") (λ names. refl)

pub returns-clause-not_closed : goal.returns-clause-not_closed
unfolding words step_of counted rule_of lexemes lexemes_from kind_of kind_of_word integer_word literal_word is_misspelt is_name integer_size integer_value
returns-clause-not_closed c = nothing StepSection (codes "rup 1 x1 >= 1") (λ names. refl)

pub returns-clause-no_coefficient : goal.returns-clause-no_coefficient
unfolding words step_of counted rule_of lexemes lexemes_from kind_of kind_of_word integer_word literal_word is_misspelt is_name integer_size integer_value
returns-clause-no_coefficient c = nothing StepSection (codes "rup x1 >= 1 ;") (λ names. refl)

pub returns-clause-no_right_side : goal.returns-clause-no_right_side
unfolding words step_of counted rule_of lexemes lexemes_from kind_of kind_of_word integer_word literal_word is_misspelt is_name integer_size integer_value
returns-clause-no_right_side c = nothing StepSection (codes "rup 1 x1 >= ;") (λ names. refl)

pub returns-clause-two_right_sides : goal.returns-clause-two_right_sides
unfolding words step_of counted rule_of lexemes lexemes_from kind_of kind_of_word integer_word literal_word is_misspelt is_name integer_size integer_value
returns-clause-two_right_sides c = nothing StepSection (codes "rup 1 x1 >= 1 1 ;") (λ names. refl)
