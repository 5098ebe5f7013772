-- The sum of a cube's coefficients is its degree.
use Rattle.std.proofs.Common.{sym, ◌∙◌, subst}
use Rattle.std.proofs.lemmas.List.{take_all}
use Rattle.std.proofs.lemmas.List.Elements.{All-more, All-same}
use Rattle.watch.specs.Cubes.{IsCube}
use Rattle.watch.proofs.cubes.are_cubes.Goals as goal

pub loop-constraint-preserved : goal.loop-constraint-preserved
loop-constraint-preserved c =
    let n = c.constraint-item.result in
    let here : IsCube n = record { whole = sym c.sum.ensures.value ∙ c.if-sum-degree.false ∙ c.degree.ensures.value; rises = c.sum.ensures.normal.rises } in
    All-more IsCube c.args.constraints.now c.loop-constraint.constraint-index n c.loop-constraint-test.true c.loop-constraint.invariant (subst IsCube c.constraint-item.is here)

pub returns : goal.returns
returns c = λ _. All-same IsCube c.args.constraints.now _ (sym (take_all c.loop-constraint.constraint-index c.args.constraints.now c.loop-constraint-test.false)) c.loop-constraint.invariant
