use Rattle.std.proofs.Common.{refl, codes, arith}
use Rattle.pb_text.specs.Lexeme.{lexemes, lexemes_from, kind_of, kind_of_word}
use Rattle.pb_text.specs.Word.{is_integer as integer_word, is_literal as literal_word, is_misspelt}
use Rattle.pb_text.specs.Name.{is_name}
use Rattle.pb_text.specs.Number.{integer_size, integer_value}
use Rattle.proof_text.specs.Words.{words}
use Rattle.proof_text.specs.Conclusions.{conclusion_kind_of, conclusion_of, conclusion_literals}
use Rattle.proof_text.specs.Spells.{measured}
use Rattle.proof_text.specs.declared.line.Section.TheVariants.{Conclusion as ConclusionSection}
use Rattle.proof_text.proofs.Computed.{all_small}
use Rattle.proof_text.proofs.cases.conclusions.Goals as goal

pub returns-clause-nothing_concluded : goal.returns-clause-nothing_concluded
unfolding words conclusion_of conclusion_literals conclusion_kind_of lexemes lexemes_from kind_of kind_of_word integer_word literal_word is_misspelt is_name integer_size integer_value
returns-clause-nothing_concluded c = record { names = refl; few = omega arith; says = refl; proper = tt; small = all_small (measured ConclusionSection (words (codes "conclusion NONE"))) refl }

pub returns-clause-satisfiable : goal.returns-clause-satisfiable
unfolding words conclusion_of conclusion_literals conclusion_kind_of lexemes lexemes_from kind_of kind_of_word integer_word literal_word is_misspelt is_name integer_size integer_value
returns-clause-satisfiable c = record { names = refl; few = omega arith; says = refl; proper = tt; small = all_small (measured ConclusionSection (words (codes "conclusion SAT"))) refl }

pub returns-clause-satisfied : goal.returns-clause-satisfied
unfolding words conclusion_of conclusion_literals conclusion_kind_of lexemes lexemes_from kind_of kind_of_word integer_word literal_word is_misspelt is_name integer_size integer_value
returns-clause-satisfied c = record { names = refl; few = omega arith; says = refl; proper = tt; small = all_small (measured ConclusionSection (words (codes "conclusion SAT : x1 ~x2"))) refl }

pub returns-clause-satisfied_by_nothing : goal.returns-clause-satisfied_by_nothing
unfolding words conclusion_of conclusion_literals conclusion_kind_of lexemes lexemes_from kind_of kind_of_word integer_word literal_word is_misspelt is_name integer_size integer_value
returns-clause-satisfied_by_nothing c = record { names = refl; few = omega arith; says = refl; proper = tt; small = all_small (measured ConclusionSection (words (codes "conclusion SAT : ;"))) refl }

pub returns-clause-satisfied_by_new : goal.returns-clause-satisfied_by_new
unfolding words conclusion_of conclusion_literals conclusion_kind_of lexemes lexemes_from kind_of kind_of_word integer_word literal_word is_misspelt is_name integer_size integer_value
returns-clause-satisfied_by_new c = record { names = refl; few = omega arith; says = refl; proper = tt; small = all_small (measured ConclusionSection (words (codes "conclusion SAT : x3"))) refl }

pub returns-clause-unsatisfiable : goal.returns-clause-unsatisfiable
unfolding words conclusion_of conclusion_literals conclusion_kind_of lexemes lexemes_from kind_of kind_of_word integer_word literal_word is_misspelt is_name integer_size integer_value
returns-clause-unsatisfiable c = record { names = refl; few = omega arith; says = refl; proper = tt; small = all_small (measured ConclusionSection (words (codes "conclusion UNSAT"))) refl }

pub returns-clause-unsatisfiable_by_id : goal.returns-clause-unsatisfiable_by_id
unfolding words conclusion_of conclusion_literals conclusion_kind_of lexemes lexemes_from kind_of kind_of_word integer_word literal_word is_misspelt is_name integer_size integer_value
returns-clause-unsatisfiable_by_id c = record { names = refl; few = omega arith; says = refl; proper = tt; small = all_small (measured ConclusionSection (words (codes "conclusion UNSAT : 7"))) refl }

pub returns-clause-bounds : goal.returns-clause-bounds
unfolding words conclusion_of conclusion_literals conclusion_kind_of lexemes lexemes_from kind_of kind_of_word integer_word literal_word is_misspelt is_name integer_size integer_value
returns-clause-bounds c = record { names = refl; few = omega arith; says = refl; proper = tt; small = all_small (measured ConclusionSection (words (codes "conclusion BOUNDS 1 1"))) refl }

pub returns-clause-bounds_by_id : goal.returns-clause-bounds_by_id
unfolding words conclusion_of conclusion_literals conclusion_kind_of lexemes lexemes_from kind_of kind_of_word integer_word literal_word is_misspelt is_name integer_size integer_value
returns-clause-bounds_by_id c = record { names = refl; few = omega arith; says = refl; proper = tt; small = all_small (measured ConclusionSection (words (codes "conclusion BOUNDS 1 : 3 1"))) refl }

pub returns-clause-bounds_by_both : goal.returns-clause-bounds_by_both
unfolding words conclusion_of conclusion_literals conclusion_kind_of lexemes lexemes_from kind_of kind_of_word integer_word literal_word is_misspelt is_name integer_size integer_value
returns-clause-bounds_by_both c = record { names = refl; few = omega arith; says = refl; proper = tt; small = all_small (measured ConclusionSection (words (codes "conclusion BOUNDS -1 : 3 2 : ~x1 ;"))) refl }

pub returns-clause-no_bounds : goal.returns-clause-no_bounds
unfolding words conclusion_of conclusion_literals conclusion_kind_of lexemes lexemes_from kind_of kind_of_word integer_word literal_word is_misspelt is_name integer_size integer_value
returns-clause-no_bounds c = record { names = refl; few = omega arith; says = refl; proper = tt; small = all_small (measured ConclusionSection (words (codes "conclusion BOUNDS -INF INF : x1"))) refl }

pub returns-clause-infinite_lower_bound : goal.returns-clause-infinite_lower_bound
unfolding words conclusion_of conclusion_literals conclusion_kind_of lexemes lexemes_from kind_of kind_of_word integer_word literal_word is_misspelt is_name integer_size integer_value
returns-clause-infinite_lower_bound c = record { names = refl; few = omega arith; says = refl; proper = tt; small = all_small (measured ConclusionSection (words (codes "conclusion BOUNDS INF 2"))) refl }
