use Rattle.std.proofs.Common.{refl, codes, arith}
use Rattle.pb_text.specs.Lexeme.{lexemes, lexemes_from, kind_of, kind_of_word}
use Rattle.pb_text.specs.Word.{is_integer as integer_word, is_literal as literal_word, is_misspelt}
use Rattle.pb_text.specs.Name.{is_name}
use Rattle.pb_text.specs.Number.{integer_size, integer_value}
use Rattle.proof_text.specs.Words.{words}
use Rattle.proof_text.specs.Rules.{rule_of}
use Rattle.proof_text.specs.Steps.{step_of, counted}
use Rattle.proof_text.specs.Spells.{measured}
use Rattle.proof_text.specs.declared.line.Section.TheVariants.{Step as StepSection}
use Rattle.proof_text.proofs.Computed.{all_small}
use Rattle.proof_text.proofs.cases.expressions.Goals as goal

pub returns-clause-all_items : goal.returns-clause-all_items
unfolding words step_of counted rule_of lexemes lexemes_from kind_of kind_of_word integer_word literal_word is_misspelt is_name integer_size integer_value
returns-clause-all_items c = record { names = refl; few = omega arith; says = refl; proper = tt; small = all_small (measured StepSection (words (codes "pol 1 2 + 3 d s x3 w ~x1 4 * ;"))) refl }

pub returns-clause-dense : goal.returns-clause-dense
unfolding words step_of counted rule_of lexemes lexemes_from kind_of kind_of_word integer_word literal_word is_misspelt is_name integer_size integer_value
returns-clause-dense c = record { names = refl; few = omega arith; says = refl; proper = tt; small = all_small (measured StepSection (words (codes "p 007 -1 +;"))) refl }

pub returns-clause-factor : goal.returns-clause-factor
unfolding words step_of counted rule_of lexemes lexemes_from kind_of kind_of_word integer_word literal_word is_misspelt is_name integer_size integer_value
returns-clause-factor c = record { names = refl; few = omega arith; says = refl; proper = tt; small = all_small (measured StepSection (words (codes "pol 1 d"))) refl }

pub returns-clause-no_items : goal.returns-clause-no_items
unfolding words step_of counted rule_of lexemes lexemes_from kind_of kind_of_word integer_word literal_word is_misspelt is_name integer_size integer_value
returns-clause-no_items c = record { names = refl; few = omega arith; says = refl; proper = tt; small = all_small (measured StepSection (words (codes "pol"))) refl }

pub returns-clause-axiom_alone : goal.returns-clause-axiom_alone
unfolding words step_of counted rule_of lexemes lexemes_from kind_of kind_of_word integer_word literal_word is_misspelt is_name integer_size integer_value
returns-clause-axiom_alone c = record { names = refl; few = omega arith; says = refl; proper = tt; small = all_small (measured StepSection (words (codes "pol x1 s x2 w"))) refl }

pub returns-clause-in_order : goal.returns-clause-in_order
unfolding words step_of counted rule_of lexemes lexemes_from kind_of kind_of_word integer_word literal_word is_misspelt is_name integer_size integer_value
returns-clause-in_order c = record { names = refl; few = omega arith; says = refl; proper = tt; small = all_small (measured StepSection (words (codes "pol zz ~x2 yy zz ~xx"))) refl }

pub returns-clause-largest : goal.returns-clause-largest
unfolding words step_of counted rule_of lexemes lexemes_from kind_of kind_of_word integer_word literal_word is_misspelt is_name integer_size integer_value
returns-clause-largest c = record { names = refl; few = omega arith; says = refl; proper = tt; small = all_small (measured StepSection (words (codes "pol 1 -1329227995784915872903807060280344576 *"))) refl }
