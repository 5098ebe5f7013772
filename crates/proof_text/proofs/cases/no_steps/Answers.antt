use Rattle.std.proofs.Common.{refl, codes}
use Rattle.pb_text.specs.Lexeme.{lexemes, lexemes_from, kind_of, kind_of_word}
use Rattle.pb_text.specs.Word.{is_integer as integer_word, is_literal as literal_word, is_misspelt}
use Rattle.pb_text.specs.Name.{is_name}
use Rattle.pb_text.specs.Number.{integer_size, integer_value}
use Rattle.proof_text.specs.Words.{words}
use Rattle.proof_text.specs.Rules.{rule_of}
use Rattle.proof_text.specs.Steps.{step_of, counted}
use Rattle.proof_text.specs.Conclusions.{conclusion_kind_of, conclusion_of, conclusion_literals}
use Rattle.proof_text.specs.declared.line.Section.TheVariants.{Step as StepSection, Conclusion as ConclusionSection}
use Rattle.proof_text.proofs.Computed.{nothing}
use Rattle.proof_text.proofs.cases.no_steps.Goals as goal

pub returns-clause-no_rule : goal.returns-clause-no_rule
unfolding words step_of counted rule_of lexemes lexemes_from kind_of kind_of_word integer_word literal_word is_misspelt is_name integer_size integer_value
returns-clause-no_rule c = nothing StepSection (codes "foo 1") (λ names. refl)

pub returns-clause-rule_left_out : goal.returns-clause-rule_left_out
unfolding words step_of counted rule_of lexemes lexemes_from kind_of kind_of_word integer_word literal_word is_misspelt is_name integer_size integer_value
returns-clause-rule_left_out c = nothing StepSection (codes "solx x1") (λ names. refl)

pub returns-clause-rule_joined : goal.returns-clause-rule_joined
unfolding words step_of counted rule_of lexemes lexemes_from kind_of kind_of_word integer_word literal_word is_misspelt is_name integer_size integer_value
returns-clause-rule_joined c = nothing StepSection (codes "pol+") (λ names. refl)

pub returns-clause-too_late : goal.returns-clause-too_late
unfolding words conclusion_of conclusion_literals conclusion_kind_of lexemes lexemes_from kind_of kind_of_word integer_word literal_word is_misspelt is_name integer_size integer_value
returns-clause-too_late c = nothing ConclusionSection (codes "pol 1") (λ names. refl)
