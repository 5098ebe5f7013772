use Rattle.std.proofs.Common.{refl, codes, arith}
use Rattle.pb_text.specs.Lexeme.{lexemes, lexemes_from, kind_of, kind_of_word}
use Rattle.pb_text.specs.Word.{is_integer as integer_word, is_literal as literal_word, is_misspelt}
use Rattle.pb_text.specs.Name.{is_name}
use Rattle.pb_text.specs.Number.{integer_size, integer_value}
use Rattle.substitution.specs.declared.image.Image.TheVariants as images
use Rattle.proof_text.specs.Words.{words}
use Rattle.proof_text.specs.Rules.{rule_of}
use Rattle.proof_text.specs.Steps.{step_of, counted}
use Rattle.proof_text.specs.Spells.{measured}
use Rattle.proof_text.specs.declared.line.Section.TheVariants.{Step as StepSection}
use Rattle.proof_text.proofs.Computed.{all_small, one_left, three_left}
use Rattle.proof_text.proofs.cases.substitutions.Goals as goal

pub returns-clause-no_arrow : goal.returns-clause-no_arrow
unfolding words step_of counted rule_of lexemes lexemes_from kind_of kind_of_word integer_word literal_word is_misspelt is_name integer_size integer_value
returns-clause-no_arrow c = record { names = refl; few = omega arith; says = refl; proper = one_left images.One; small = all_small (measured StepSection (words (codes "red 1 x1 >= 1 ; x1 1"))) refl }

pub returns-clause-arrow : goal.returns-clause-arrow
unfolding words step_of counted rule_of lexemes lexemes_from kind_of kind_of_word integer_word literal_word is_misspelt is_name integer_size integer_value
returns-clause-arrow c = record { names = refl; few = omega arith; says = refl; proper = one_left images.One; small = all_small (measured StepSection (words (codes "red 1 x1 >= 1 ; x1 -> 1"))) refl }

pub returns-clause-every_image : goal.returns-clause-every_image
unfolding words step_of counted rule_of lexemes lexemes_from kind_of kind_of_word integer_word literal_word is_misspelt is_name integer_size integer_value
returns-clause-every_image c = record { names = refl; few = omega arith; says = refl; proper = three_left _ _ _; small = all_small (measured StepSection (words (codes "red 1 x1 >= 1 ; x1 -> ~x3 x3 -> x2 x2 0 ;"))) refl }

pub returns-clause-no_images : goal.returns-clause-no_images
unfolding words step_of counted rule_of lexemes lexemes_from kind_of kind_of_word integer_word literal_word is_misspelt is_name integer_size integer_value
returns-clause-no_images c = record { names = refl; few = omega arith; says = refl; proper = λ i j d lt below. absurd (omega arith); small = all_small (measured StepSection (words (codes "red 1 x1 >= 1 ;"))) refl }
