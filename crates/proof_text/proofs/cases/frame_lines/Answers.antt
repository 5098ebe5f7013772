use Rattle.std.proofs.Common.{refl, codes, arith}
use Rattle.pb_text.specs.Lexeme.{lexemes, lexemes_from, kind_of, kind_of_word}
use Rattle.pb_text.specs.Word.{is_integer as integer_word, is_literal as literal_word, is_misspelt}
use Rattle.pb_text.specs.Name.{is_name}
use Rattle.pb_text.specs.Number.{integer_size, integer_value}
use Rattle.proof_text.specs.Words.{words}
use Rattle.proof_text.specs.Rules.{rule_of}
use Rattle.proof_text.specs.Steps.{step_of, counted}
use Rattle.proof_text.specs.Spells.{measured}
use Rattle.proof_text.specs.declared.line.Section.TheVariants.{Header, Count, Step as StepSection, End}
use Rattle.proof_text.proofs.Computed.{all_small, nothing}
use Rattle.proof_text.proofs.cases.frame_lines.Goals as goal

pub returns-clause-header : goal.returns-clause-header
unfolding words lexemes lexemes_from kind_of kind_of_word integer_word literal_word is_misspelt is_name
returns-clause-header c = record { names = refl; few = omega arith; says = refl; proper = tt; small = all_small (measured Header (words (codes "pseudo-Boolean proof version 2.0"))) refl }

pub returns-clause-header_closed : goal.returns-clause-header_closed
unfolding words lexemes lexemes_from kind_of kind_of_word integer_word literal_word is_misspelt is_name
returns-clause-header_closed c = record { names = refl; few = omega arith; says = refl; proper = tt; small = all_small (measured Header (words (codes "pseudo-Boolean proof version 2.0 ;"))) refl }

pub returns-clause-header_of_other_version : goal.returns-clause-header_of_other_version
unfolding words lexemes lexemes_from kind_of kind_of_word integer_word literal_word is_misspelt is_name
returns-clause-header_of_other_version c = nothing Header (codes "pseudo-Boolean proof version 1.2") (λ names. refl)

pub returns-clause-header_cut : goal.returns-clause-header_cut
unfolding words lexemes lexemes_from kind_of kind_of_word integer_word literal_word is_misspelt is_name
returns-clause-header_cut c = nothing Header (codes "pseudo-Boolean proof version") (λ names. refl)

pub returns-clause-header_late : goal.returns-clause-header_late
unfolding words step_of counted rule_of lexemes lexemes_from kind_of kind_of_word integer_word literal_word is_misspelt is_name integer_size integer_value
returns-clause-header_late c = nothing StepSection (codes "pseudo-Boolean proof version 2.0") (λ names. refl)

pub returns-clause-count : goal.returns-clause-count
unfolding words lexemes lexemes_from kind_of kind_of_word integer_word literal_word is_misspelt is_name integer_size integer_value
returns-clause-count c = record { names = refl; few = omega arith; says = refl; proper = tt; small = all_small (measured Count (words (codes "f 5 ;"))) refl }

pub returns-clause-count_open : goal.returns-clause-count_open
unfolding words lexemes lexemes_from kind_of kind_of_word integer_word literal_word is_misspelt is_name integer_size integer_value
returns-clause-count_open c = record { names = refl; few = omega arith; says = refl; proper = tt; small = all_small (measured Count (words (codes "f 5"))) refl }

pub returns-clause-no_count : goal.returns-clause-no_count
unfolding words lexemes lexemes_from kind_of kind_of_word integer_word literal_word is_misspelt is_name integer_size integer_value
returns-clause-no_count c = nothing Count (codes "f") (λ names. refl)

pub returns-clause-count_of_name : goal.returns-clause-count_of_name
unfolding words lexemes lexemes_from kind_of kind_of_word integer_word literal_word is_misspelt is_name integer_size integer_value
returns-clause-count_of_name c = nothing Count (codes "f x1") (λ names. refl)

pub returns-clause-second_count : goal.returns-clause-second_count
unfolding words step_of counted rule_of lexemes lexemes_from kind_of kind_of_word integer_word literal_word is_misspelt is_name integer_size integer_value
returns-clause-second_count c = nothing StepSection (codes "f 5") (λ names. refl)

pub returns-clause-output : goal.returns-clause-output
unfolding words step_of counted rule_of lexemes lexemes_from kind_of kind_of_word integer_word literal_word is_misspelt is_name integer_size integer_value
returns-clause-output c = record { names = refl; few = omega arith; says = refl; proper = tt; small = all_small (measured StepSection (words (codes "output NONE"))) refl }

pub returns-clause-output_closed : goal.returns-clause-output_closed
unfolding words step_of counted rule_of lexemes lexemes_from kind_of kind_of_word integer_word literal_word is_misspelt is_name integer_size integer_value
returns-clause-output_closed c = record { names = refl; few = omega arith; says = refl; proper = tt; small = all_small (measured StepSection (words (codes "output NONE ;"))) refl }

pub returns-clause-other_output : goal.returns-clause-other_output
unfolding words step_of counted rule_of lexemes lexemes_from kind_of kind_of_word integer_word literal_word is_misspelt is_name integer_size integer_value
returns-clause-other_output c = nothing StepSection (codes "output DERIVABLE") (λ names. refl)

pub returns-clause-no_output : goal.returns-clause-no_output
unfolding words step_of counted rule_of lexemes lexemes_from kind_of kind_of_word integer_word literal_word is_misspelt is_name integer_size integer_value
returns-clause-no_output c = nothing StepSection (codes "output") (λ names. refl)

pub returns-clause-ending : goal.returns-clause-ending
unfolding words lexemes lexemes_from kind_of kind_of_word integer_word literal_word is_misspelt is_name
returns-clause-ending c = record { names = refl; few = omega arith; says = refl; proper = tt; small = all_small (measured End (words (codes "end pseudo-Boolean proof"))) refl }

pub returns-clause-ending_closed : goal.returns-clause-ending_closed
unfolding words lexemes lexemes_from kind_of kind_of_word integer_word literal_word is_misspelt is_name
returns-clause-ending_closed c = record { names = refl; few = omega arith; says = refl; proper = tt; small = all_small (measured End (words (codes "end pseudo-Boolean proof ;"))) refl }

pub returns-clause-end_alone : goal.returns-clause-end_alone
unfolding words lexemes lexemes_from kind_of kind_of_word integer_word literal_word is_misspelt is_name
returns-clause-end_alone c = nothing End (codes "end") (λ names. refl)
