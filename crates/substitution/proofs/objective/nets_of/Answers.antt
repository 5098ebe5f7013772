use Rattle.std.proofs.Common.{List, false, get_or, take, sym, subst, ◌∙◌, arith}
use Rattle.std.specs.Prelude.{pos}
use Rattle.std.proofs.lemmas.List.{take_more}
use Rattle.linear.specs.declared.term.Term.{Term}
use Rattle.substitution.specs.Objective.{AreNetsOf}
use Rattle.substitution.proofs.Difference.{objective_small}
use Rattle.substitution.proofs.NetTables.{net_fits}
use Rattle.substitution.proofs.objective.nets_of.Goals as goal

abbrev first : Term
first = record { coef = pos 0; var = record { 0 = 0 }; negated = false }

pub add_term-requires-clause-room : goal.add_term-requires-clause-room
add_term-requires-clause-room c =
    let ts : List Term = c.args.objective.now in
    let i = c.loop-term.term-index in
    let small = objective_small c.args.count ts c.requires in
    let fits = net_fits ((get_or ts i first).var.0) ts i first (get_or c.loop-term.nets.items ((get_or ts i first).var.0) (pos 0)) c.loop-term-test.true (c.loop-term.invariant.1 ((get_or ts i first).var.0)) in
    omega (arith, fits, small)

pub loop-term-preserved : goal.loop-term-preserved
loop-term-preserved c =
    let ts : List Term = c.args.objective.now in
    let i = c.loop-term.term-index in (
      c.add_term.ensures.length ∙ c.loop-term.invariant.0,
      subst (λ xs. AreNetsOf xs c.add_term.new.nets.items) (sym (take_more ts i first c.loop-term-test.true)) (c.add_term.ensures.added (take i ts) c.loop-term.invariant.1),
    )
