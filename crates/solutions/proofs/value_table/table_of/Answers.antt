use Rattle.std.proofs.Common.{List, false, take, sym, subst, ◌∙◌}
use Rattle.std.proofs.lemmas.List.{take_more}
use Rattle.linear.specs.declared.term.Lit.{Lit}
use Rattle.solutions.specs.Table.{IsTableOf}
use Rattle.solutions.proofs.value_table.table_of.Goals as goal

abbrev first : Lit
first = record { var = record { 0 = 0 }; negated = false }

pub loop-literal-preserved : goal.loop-literal-preserved
loop-literal-preserved c =
    let at = c.loop-literal in
    let assigned : List Lit = c.args.assigned.now in (
      c.note.ensures.length ∙ at.invariant.0,
      subst (λ xs. IsTableOf xs c.note.new.table.items) (sym (take_more assigned at.literal-index first c.loop-literal-test.true))
          (c.note.ensures.noted (take at.literal-index assigned) at.invariant.1),
    )
