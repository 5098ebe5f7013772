-- Each variable is above those before it.
use Rattle.std.proofs.Common.{arith}
use Rattle.std.proofs.lemmas.List.Kept.{AllPairs-from_increasing}
use Rattle.substitution.proofs.Gathering.{gathered_more}
use Rattle.substitution.proofs.part.terms_of.Goals as goal

pub loop-variable-preserved : goal.loop-variable-preserved
loop-variable-preserved c =
    let at = c.loop-variable in
    let variables = c.args.variables.now in
    let i = at.variable-index in
    let above = at.invariant.1 i (omega arith) (omega arith) in (
      gathered_more c.args.constraint.now variables i 0 at.part c.push_term.new.part (omega arith) at.invariant.0 above c.in_ok-push_term.ensures.coefficients,
      λ j later inside.
          let rises = AllPairs-from_increasing variables c.requires i j 0 (omega (arith, later)) inside in
          omega (arith, rises, c.in_ok-push_term.ensures.bound),
    )
