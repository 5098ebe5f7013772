use Rattle.std.proofs.Common.{◌+◌, ◌≤◌, [], refl, codes, arith}
use Rattle.pb_text.specs.Lexeme.{lexemes, lexemes_from, kind_of, kind_of_word}
use Rattle.pb_text.specs.Word.{is_integer as integer_word, is_literal as literal_word, is_misspelt}
use Rattle.pb_text.specs.Name.{is_name}
use Rattle.pb_text.specs.Number.{integer_size, integer_value, largest_number}
use Rattle.proof_text.specs.Words.{words}
use Rattle.proof_text.specs.Rules.{rule_of}
use Rattle.proof_text.specs.Steps.{step_of, counted}
use Rattle.proof_text.specs.declared.line.Section.TheVariants.{Step as StepSection}
use Rattle.proof_text.proofs.Computed.{nothing}
use Rattle.proof_text.proofs.cases.no_expressions.Goals as goal

pub returns-clause-too_large : goal.returns-clause-too_large
unfolding words step_of counted rule_of lexemes lexemes_from kind_of kind_of_word integer_word literal_word is_misspelt is_name integer_size integer_value
returns-clause-too_large c old line new l = let small : largest_number + 1 ≤ largest_number = l.small 1 [] (omega arith) refl in
    absurd (omega (arith, small))

pub returns-clause-d_alone : goal.returns-clause-d_alone
unfolding words step_of counted rule_of lexemes lexemes_from kind_of kind_of_word integer_word literal_word is_misspelt is_name integer_size integer_value
returns-clause-d_alone c = nothing StepSection (codes "pol s d") (λ names. refl)

pub returns-clause-times_alone : goal.returns-clause-times_alone
unfolding words step_of counted rule_of lexemes lexemes_from kind_of kind_of_word integer_word literal_word is_misspelt is_name integer_size integer_value
returns-clause-times_alone c = nothing StepSection (codes "pol x1 + *") (λ names. refl)

pub returns-clause-integer_taken : goal.returns-clause-integer_taken
unfolding words step_of counted rule_of lexemes lexemes_from kind_of kind_of_word integer_word literal_word is_misspelt is_name integer_size integer_value
returns-clause-integer_taken c = nothing StepSection (codes "pol 1 2 * d") (λ names. refl)

pub returns-clause-w_alone : goal.returns-clause-w_alone
unfolding words step_of counted rule_of lexemes lexemes_from kind_of kind_of_word integer_word literal_word is_misspelt is_name integer_size integer_value
returns-clause-w_alone c = nothing StepSection (codes "pol 1 w") (λ names. refl)

pub returns-clause-w_negated : goal.returns-clause-w_negated
unfolding words step_of counted rule_of lexemes lexemes_from kind_of kind_of_word integer_word literal_word is_misspelt is_name integer_size integer_value
returns-clause-w_negated c = nothing StepSection (codes "pol ~x1 w") (λ names. refl)

pub returns-clause-two_semicolons : goal.returns-clause-two_semicolons
unfolding words step_of counted rule_of lexemes lexemes_from kind_of kind_of_word integer_word literal_word is_misspelt is_name integer_size integer_value
returns-clause-two_semicolons c = nothing StepSection (codes "pol 1 ; ;") (λ names. refl)
