-- Each step marks the variable of the term at this place.
use Rattle.std.proofs.Common.{arith, subst, List, length}
use Rattle.std.proofs.lemmas.List.{take_all}
use Rattle.normal_form.specs.declared.term.NormalTerm.{NormalTerm}
use Rattle.accumulate.specs.Nets.{NamesAll}
use Rattle.accumulate.proofs.NetTerms.{room_at}
use Rattle.accumulate.proofs.Marks.{names_more}
use Rattle.accumulate.proofs.cells.mark.Goals as goal

pub mark_variable-requires-clause-room : goal.mark_variable-requires-clause-room
mark_variable-requires-clause-room c = room_at c.args.other.now.terms c.loop-place.place (length c.args.nets.now.items) c.term.result (omega (arith, c.loop-place-test.true, c.len-place-end.ensures.value)) c.term.ensures.value c.requires.room

pub loop-place-preserved : goal.loop-place-preserved
loop-place-preserved c = record {
  marks = c.mark_variable.ensures.marks;
  names = names_more c.loop-place.touched.items c.mark_variable.new.touched.items c.args.other.now.terms c.loop-place.place c.term.result (omega (arith, c.loop-place-test.true, c.len-place-end.ensures.value)) c.term.ensures.value c.mark_variable.ensures.kept c.in_ok-mark_variable.ensures.named c.loop-place.invariant.names;
}

pub returns-clause-names : goal.returns-clause-names
returns-clause-names c = subst (λ (ts : List NormalTerm). NamesAll c.loop-place.touched.items ts) (take_all c.loop-place.place c.args.other.now.terms (omega (arith, c.loop-place-test.false, c.len-place-end.ensures.value))) c.loop-place.invariant.names
