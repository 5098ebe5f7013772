-- The entry of one term is taken off.
use Rattle.std.proofs.Common.{◌≡◌, ℕ, List, [], length, take, drop, ap, ◌∙◌, arith, subst}
use Rattle.std.proofs.lemmas.List.{length-set}
use Rattle.occurrences.specs.declared.occurrence.Occurrence.{Occurrence}
use Rattle.normal_form.specs.declared.term.NormalTerm.{NormalTerm}
use Rattle.linear.specs.Literal.{code}
use Rattle.occurrences.specs.Occurrences.{HasMore}
use Rattle.occurrences.proofs.Entering.{code_of_term, left_next, none_left}
use Rattle.occurrences.proofs.entry_lists.leave.Goals as goal

pub pop-requires : goal.pop-requires
pop-requires c =
    let ts : List NormalTerm = c.args.constraint.now.terms in
    code_of_term ts c.loop-index.index c.code.result (length c.loop-index.table) c.term.result (omega (arith, c.loop-index-test.true, c.requires.count)) c.term.ensures.value
    (omega (arith, c.requires.table, c.loop-index.invariant.same_length)) (c.code.ensures ∙ ap code c.literal.ensures)

pub loop-index-preserved : goal.loop-index-preserved
loop-index-preserved c = record {
  same_length = ap (length {A = List Occurrence}) c.pop.ensures ∙ length-set c.loop-index.table c.code.result _ ∙ c.loop-index.invariant.same_length;
  fewer = λ before place h.
      left_next before c.loop-index.table c.pop.new.self place c.args.count c.loop-index.index c.code.result c.term.result c.args.constraint.now.terms c.requires.normal.rises
      c.loop-index-test.true c.requires.count c.term.ensures.value (omega (arith, c.requires.table, c.loop-index.invariant.same_length)) (c.code.ensures ∙ ap code c.literal.ensures)
      (c.loop-index.invariant.fewer before place h) c.pop.ensures;
}

pub returns-clause-fewer : goal.returns-clause-fewer
returns-clause-fewer c before place h =
    let all : c.loop-index.index ≡ c.args.count = omega (arith, c.loop-index-test.false, c.loop-index.auto.index-end) in
    let ts : List NormalTerm = take c.args.count c.args.constraint.now.terms in
    let empty : drop c.loop-index.index ts ≡ [] = ap (λ (k : ℕ). drop k ts) all ∙ none_left c.args.count c.args.constraint.now.terms c.requires.count in
    subst (λ (us : List NormalTerm). HasMore before c.loop-index.table place us) empty (c.loop-index.invariant.fewer before place h)
