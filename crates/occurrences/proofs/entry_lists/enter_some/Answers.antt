-- The entry of one term more.
use Rattle.std.proofs.Common.{List, length, ap, ◌∙◌, arith}
use Rattle.std.proofs.lemmas.List.{length-set}
use Rattle.occurrences.specs.declared.occurrence.Occurrence.{Occurrence}
use Rattle.linear.specs.Literal.{code}
use Rattle.occurrences.specs.Occurrences.{entries_of}
use Rattle.occurrences.proofs.Entering.{code_of_term, entered_more}
use Rattle.occurrences.proofs.entry_lists.enter_some.Goals as goal

pub push-requires : goal.push-requires
push-requires c =
    code_of_term c.args.constraint.now.terms c.loop-index.index c.code.result (length c.loop-index.table) c.term-term.result (omega (arith, c.loop-index-test.true, c.len-count.ensures.value)) c.term-term.ensures.value
    (omega (arith, c.requires, c.loop-index.invariant.same_length)) (c.code.ensures ∙ ap code c.literal.ensures)

pub loop-index-preserved : goal.loop-index-preserved
loop-index-preserved c = record {
  same_length = ap (length {A = List Occurrence}) c.in-Ok.ensures.ok ∙ length-set c.loop-index.table c.code.result _ ∙ c.loop-index.invariant.same_length;
  more = entered_more (entries_of c.args.table.now) c.loop-index.table c.push.new.self c.args.place c.args.constraint.now.terms c.loop-index.index c.code.result c.term-term.result c.len-count.ensures.normal.rises
      (omega (arith, c.loop-index-test.true, c.len-count.ensures.value)) c.term-term.ensures.value (omega (arith, c.requires, c.loop-index.invariant.same_length)) (c.code.ensures ∙ ap code c.literal.ensures)
      c.loop-index.invariant.more c.in-Ok.ensures.ok;
}
