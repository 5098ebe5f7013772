use Rattle.std.proofs.Common.{zero, suc, true, false, refl, sym, ◌∙◌, arith}
use Rattle.std.proofs.lemmas.Bool.{false≢true}
use Rattle.propagate.specs.declared.value.Value.TheVariants.{True, False, Free}
use Rattle.propagate.proofs.cases.values_of_an_assignment.Goals as goal

pub returns-clause-told : goal.returns-clause-told
returns-clause-told c zero true h = refl
returns-clause-told c zero false h = refl
returns-clause-told c (suc zero) true h = refl
returns-clause-told c (suc zero) false h = refl
returns-clause-told c (suc (suc zero)) true h = refl
returns-clause-told c (suc (suc zero)) false h = refl
returns-clause-told c (suc (suc (suc v))) negated h = absurd (omega (arith, h))

pub returns-clause-turned : goal.returns-clause-turned
returns-clause-turned c are = false≢true (sym (are 0 false (omega arith)))

pub returns-clause-left_out : goal.returns-clause-left_out
returns-clause-left_out c are = false≢true (sym (are 0 false (omega arith)))

pub returns-clause-one_true : goal.returns-clause-one_true
returns-clause-one_true c assigned v True plain told = refl
returns-clause-one_true c assigned v False plain told = absurd (false≢true (sym (told false) ∙ plain))
returns-clause-one_true c assigned v Free plain told = absurd (false≢true (sym (told false) ∙ plain))

pub returns-clause-one_false : goal.returns-clause-one_false
returns-clause-one_false c assigned v False negated told = refl
returns-clause-one_false c assigned v True negated told = absurd (false≢true (sym (told true) ∙ negated))
returns-clause-one_false c assigned v Free negated told = absurd (false≢true (sym (told true) ∙ negated))
