use Rattle.std.proofs.Common.{◌≡◌, ◌∙◌, ◌<◌, All, get_or, length, ap, subst, sym, arith}
use Rattle.linear.specs.declared.constraint.Signed.{Signed}
use Rattle.linear.specs.Opb.{Opb}
use Rattle.presolve.specs.declared.swapping.Swap.{Swap}
use Rattle.substitution.specs.Images.{Images}
use Rattle.proof_steps.specs.declared.step.Step.{Step}
use Rattle.proof_steps.specs.declared.step.Step.TheVariants.{Red}
use Rattle.proof_text.specs.Writable.{IsConstraintWritable, IsPairWritable, IsStepWritable}
use Rattle.proof_log.specs.Log.{Logbook}
use Rattle.search.specs.Presolving.{Tries, exchange, in_order, swapping}
use Rattle.search.proofs.Trying.{tries_more}
use Rattle.search.proofs.Written.{swapping_writable}
use Rattle.search.proofs.presolving.order.Goals as goal

-- the step of a pair of the file can be written
pub attempt-requires-clause-writable : goal.attempt-requires-clause-writable
attempt-requires-clause-writable g c =
    let ss = c.args.swaps.now in
    let i = c.loop-swap.swap-index in
    let d : Swap = record { first = record { 0 = 0 }; second = record { 0 = 0 } } in
    let l : Logbook = c.loop-swap.log in
    let x : Swap = get_or ss i d in
    let count = length l.problem.names in
    let pair = c.requires i d c.loop-swap-test.true in
    let second : x.second.0 < count = subst (λ (p : Opb). x.second.0 < length p.names) (sym c.loop-swap.invariant.0) pair.named in
    let written : IsStepWritable count (swapping x) = swapping_writable count x (omega (arith, pair.order, second)) second in
    let constraint : c.in_ok-in_order.field-0 ≡ in_order x = c.in_ok-in_order.ensures {u = tt} in
    let witness : c.in_ok-exchange.field-0 ≡ exchange x = c.in_ok-exchange.ensures {u = tt} in
    (subst (IsConstraintWritable count) (sym constraint) written.0, subst (All (IsPairWritable count)) (sym witness) written.1)

pub loop-swap-preserved : goal.loop-swap-preserved
loop-swap-preserved g c =
    let ss = c.args.swaps.now in
    let i = c.loop-swap.swap-index in
    let d : Swap = record { first = record { 0 = 0 }; second = record { 0 = 0 } } in
    let x : Swap = get_or ss i d in
    let a = c.in_ok-in_order.field-0 in
    let b = c.in_ok-exchange.field-0 in
    let constraint : a ≡ in_order x = c.in_ok-in_order.ensures {u = tt} in
    let witness : b ≡ exchange x = c.in_ok-exchange.ensures {u = tt} in
    let step : Red a b ≡ swapping x = ap (λ (s : Signed). Red s b) constraint ∙ ap (λ (m : Images). Red (in_order x) m) witness in
    let tried = subst (λ (s : Step). Tries s c.loop-swap.log c.attempt.new.log) step c.in_ok-attempt.ensures.tried in
    (c.in_ok-attempt.ensures.problem ∙ c.loop-swap.invariant.0, tries_more swapping ss i d c.args.log.now c.loop-swap.log c.attempt.new.log c.loop-swap-test.true c.loop-swap.invariant.1 tried)
