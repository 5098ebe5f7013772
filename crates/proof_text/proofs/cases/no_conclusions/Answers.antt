use Rattle.std.proofs.Common.{refl, codes}
use Rattle.pb_text.specs.Lexeme.{lexemes, lexemes_from, kind_of, kind_of_word}
use Rattle.pb_text.specs.Word.{is_integer as integer_word, is_literal as literal_word, is_misspelt}
use Rattle.pb_text.specs.Name.{is_name}
use Rattle.pb_text.specs.Number.{integer_size, integer_value}
use Rattle.proof_text.specs.Words.{words}
use Rattle.proof_text.specs.Conclusions.{conclusion_kind_of, conclusion_of, conclusion_literals}
use Rattle.proof_text.specs.declared.line.Section.TheVariants.{Conclusion as ConclusionSection}
use Rattle.proof_text.proofs.Computed.{nothing}
use Rattle.proof_text.proofs.cases.no_conclusions.Goals as goal

pub returns-clause-no_upper_bound : goal.returns-clause-no_upper_bound
unfolding words conclusion_of conclusion_literals conclusion_kind_of lexemes lexemes_from kind_of kind_of_word integer_word literal_word is_misspelt is_name integer_size integer_value
returns-clause-no_upper_bound c = nothing ConclusionSection (codes "conclusion BOUNDS 1 : 3") (λ names. refl)

pub returns-clause-no_upper_bound_at_all : goal.returns-clause-no_upper_bound_at_all
unfolding words conclusion_of conclusion_literals conclusion_kind_of lexemes lexemes_from kind_of kind_of_word integer_word literal_word is_misspelt is_name integer_size integer_value
returns-clause-no_upper_bound_at_all c = nothing ConclusionSection (codes "conclusion BOUNDS 1") (λ names. refl)

pub returns-clause-upper_bound_below_all : goal.returns-clause-upper_bound_below_all
unfolding words conclusion_of conclusion_literals conclusion_kind_of lexemes lexemes_from kind_of kind_of_word integer_word literal_word is_misspelt is_name integer_size integer_value
returns-clause-upper_bound_below_all c = nothing ConclusionSection (codes "conclusion BOUNDS 1 -INF") (λ names. refl)

pub returns-clause-lower_bound_signed : goal.returns-clause-lower_bound_signed
unfolding words conclusion_of conclusion_literals conclusion_kind_of lexemes lexemes_from kind_of kind_of_word integer_word literal_word is_misspelt is_name integer_size integer_value
returns-clause-lower_bound_signed c = nothing ConclusionSection (codes "conclusion BOUNDS +INF INF") (λ names. refl)

pub returns-clause-no_conclusion : goal.returns-clause-no_conclusion
unfolding words conclusion_of conclusion_literals conclusion_kind_of lexemes lexemes_from kind_of kind_of_word integer_word literal_word is_misspelt is_name integer_size integer_value
returns-clause-no_conclusion c = nothing ConclusionSection (codes "conclusion") (λ names. refl)

pub returns-clause-other_conclusion : goal.returns-clause-other_conclusion
unfolding words conclusion_of conclusion_literals conclusion_kind_of lexemes lexemes_from kind_of kind_of_word integer_word literal_word is_misspelt is_name integer_size integer_value
returns-clause-other_conclusion c = nothing ConclusionSection (codes "conclusion OPTIMAL 1") (λ names. refl)

pub returns-clause-hint_without_colon : goal.returns-clause-hint_without_colon
unfolding words conclusion_of conclusion_literals conclusion_kind_of lexemes lexemes_from kind_of kind_of_word integer_word literal_word is_misspelt is_name integer_size integer_value
returns-clause-hint_without_colon c = nothing ConclusionSection (codes "conclusion SAT x1") (λ names. refl)

pub returns-clause-two_id_hints : goal.returns-clause-two_id_hints
unfolding words conclusion_of conclusion_literals conclusion_kind_of lexemes lexemes_from kind_of kind_of_word integer_word literal_word is_misspelt is_name integer_size integer_value
returns-clause-two_id_hints c = nothing ConclusionSection (codes "conclusion UNSAT : 7 8") (λ names. refl)

pub returns-clause-no_id_hint : goal.returns-clause-no_id_hint
unfolding words conclusion_of conclusion_literals conclusion_kind_of lexemes lexemes_from kind_of kind_of_word integer_word literal_word is_misspelt is_name integer_size integer_value
returns-clause-no_id_hint c = nothing ConclusionSection (codes "conclusion UNSAT :") (λ names. refl)

pub returns-clause-nothing_hinted : goal.returns-clause-nothing_hinted
unfolding words conclusion_of conclusion_literals conclusion_kind_of lexemes lexemes_from kind_of kind_of_word integer_word literal_word is_misspelt is_name integer_size integer_value
returns-clause-nothing_hinted c = nothing ConclusionSection (codes "conclusion NONE : x1") (λ names. refl)
