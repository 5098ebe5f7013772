use Rattle.std.proofs.Common.{refl, codes, arith}
use Rattle.pb_text.specs.Lexeme.{lexemes, lexemes_from, kind_of, kind_of_word}
use Rattle.pb_text.specs.Word.{is_integer as integer_word, is_literal as literal_word, is_misspelt}
use Rattle.pb_text.specs.Name.{is_name}
use Rattle.pb_text.specs.Number.{integer_size, integer_value}
use Rattle.proof_text.specs.Words.{words}
use Rattle.proof_text.specs.Rules.{rule_of}
use Rattle.proof_text.specs.Steps.{step_of, counted}
use Rattle.proof_text.specs.Spells.{measured}
use Rattle.proof_text.specs.declared.line.Section.TheVariants.{Step as StepSection}
use Rattle.proof_text.proofs.Computed.{all_small}
use Rattle.proof_text.proofs.cases.propagations.Goals as goal

pub returns-clause-hints : goal.returns-clause-hints
unfolding words step_of counted rule_of lexemes lexemes_from kind_of kind_of_word integer_word literal_word is_misspelt is_name integer_size integer_value
returns-clause-hints c = record { names = refl; few = omega arith; says = refl; proper = tt; small = all_small (measured StepSection (words (codes "rup 1 x1 1 x2 >= 1 ; 7 ~ 99"))) refl }

pub returns-clause-hinted_names : goal.returns-clause-hinted_names
unfolding words step_of counted rule_of lexemes lexemes_from kind_of kind_of_word integer_word literal_word is_misspelt is_name integer_size integer_value
returns-clause-hinted_names c = record { names = refl; few = omega arith; says = refl; proper = tt; small = all_small (measured StepSection (words (codes "u 1 x1 1 x2 >= 1 ; x3 1329227995784915872903807060280344577"))) refl }

pub returns-clause-any_terms : goal.returns-clause-any_terms
unfolding words step_of counted rule_of lexemes lexemes_from kind_of kind_of_word integer_word literal_word is_misspelt is_name integer_size integer_value
returns-clause-any_terms c = record { names = refl; few = omega arith; says = refl; proper = tt; small = all_small (measured StepSection (words (codes "rup 0 x2 -2 ~x2 +3 x2 >= -0 ;"))) refl }

pub returns-clause-no_terms : goal.returns-clause-no_terms
unfolding words step_of counted rule_of lexemes lexemes_from kind_of kind_of_word integer_word literal_word is_misspelt is_name integer_size integer_value
returns-clause-no_terms c = record { names = refl; few = omega arith; says = refl; proper = tt; small = all_small (measured StepSection (words (codes "rup >= 1 ;"))) refl }
