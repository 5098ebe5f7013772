use Rattle.std.proofs.Common.{refl, codes}
use Rattle.pb_text.specs.Lexeme.{lexemes, lexemes_from, kind_of, kind_of_word}
use Rattle.pb_text.specs.Word.{is_integer as integer_word, is_literal as literal_word, is_misspelt}
use Rattle.pb_text.specs.Name.{is_name}
use Rattle.pb_text.specs.Number.{integer_size, integer_value}
use Rattle.proof_text.specs.Words.{words}
use Rattle.proof_text.specs.Rules.{rule_of}
use Rattle.proof_text.specs.Steps.{step_of, counted}
use Rattle.proof_text.specs.declared.line.Section.TheVariants.{Step as StepSection}
use Rattle.proof_text.proofs.Computed.{nothing, twice_left}
use Rattle.proof_text.proofs.cases.no_substitutions.Goals as goal

pub returns-clause-no_substitution : goal.returns-clause-no_substitution
unfolding words step_of counted rule_of lexemes lexemes_from kind_of kind_of_word integer_word literal_word is_misspelt is_name integer_size integer_value
returns-clause-no_substitution c = nothing StepSection (codes "red 1 x1 >= 1") (λ names. refl)

pub returns-clause-image_zeros : goal.returns-clause-image_zeros
unfolding words step_of counted rule_of lexemes lexemes_from kind_of kind_of_word integer_word literal_word is_misspelt is_name integer_size integer_value
returns-clause-image_zeros c = nothing StepSection (codes "red 1 x1 >= 1 ; x1 00") (λ names. refl)

pub returns-clause-image_signed : goal.returns-clause-image_signed
unfolding words step_of counted rule_of lexemes lexemes_from kind_of kind_of_word integer_word literal_word is_misspelt is_name integer_size integer_value
returns-clause-image_signed c = nothing StepSection (codes "red 1 x1 >= 1 ; x1 +1") (λ names. refl)

pub returns-clause-no_image : goal.returns-clause-no_image
unfolding words step_of counted rule_of lexemes lexemes_from kind_of kind_of_word integer_word literal_word is_misspelt is_name integer_size integer_value
returns-clause-no_image c = nothing StepSection (codes "red 1 x1 >= 1 ; x1 ->") (λ names. refl)

pub returns-clause-two_arrows : goal.returns-clause-two_arrows
unfolding words step_of counted rule_of lexemes lexemes_from kind_of kind_of_word integer_word literal_word is_misspelt is_name integer_size integer_value
returns-clause-two_arrows c = nothing StepSection (codes "red 1 x1 >= 1 ; x1 -> -> 1") (λ names. refl)

pub returns-clause-left_negated : goal.returns-clause-left_negated
unfolding words step_of counted rule_of lexemes lexemes_from kind_of kind_of_word integer_word literal_word is_misspelt is_name integer_size integer_value
returns-clause-left_negated c = nothing StepSection (codes "red 1 x1 >= 1 ; ~x1 -> 0") (λ names. refl)

pub returns-clause-name_twice : goal.returns-clause-name_twice
unfolding words step_of counted rule_of lexemes lexemes_from kind_of kind_of_word integer_word literal_word is_misspelt is_name integer_size integer_value
returns-clause-name_twice c old line new l = twice_left _ _ line l.says l.proper
