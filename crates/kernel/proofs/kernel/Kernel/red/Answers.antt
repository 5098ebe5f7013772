use Rattle.std.proofs.Common.{inr, refl, ap, subst, sym}
use Rattle.std.proofs.lemmas.Result.{err_from_is_err_and}
use Rattle.proof_steps.specs.declared.step.Step.TheVariants as steps
use Rattle.proof_rules.specs.Fault.{IsRedFault}
use Rattle.proof_rules.specs.State.{HasRoom, with_constraint}
use Rattle.proof_rules.proofs.PolFaults.{or_memory}
use Rattle.kernel.specs.Held.{Held, IsKept}
use Rattle.kernel.specs.Redundance.{AreGoalsShown, IsGoalOpen}
use Rattle.kernel.proofs.Keeping.{kept_step}
use Rattle.kernel.proofs.kernel.Kernel.red.Goals as goal

pub returns-in_err-judge_goals-clause-fault : goal.returns-in_err-judge_goals-clause-fault
returns-in_err-judge_goals-clause-fault g c =
    let k : Held = c.args.self.now in
    let n = c.in_ok-constraint.constraint in
    let room : HasRoom k.state = subst HasRoom (ap (λ (x : Held). x.state) c.self.view_is) (c.if-not-has_room.ensures.0 refl) in
    let f = c.in_err-judge_goals.field-0.0 in
    let p = err_from_is_err_and c.from_residual-in_err-judge_goals.result c.from_residual-in_err-judge_goals.ensures.1 in
    rw (p.1, p.2)
    (or_memory f (IsGoalOpen k c.args.witness.now n f) (IsRedFault k.problem k.state c.args.constraint.now c.args.witness.now f)
    (λ (m, negated, open_goal). inr (n, m, c.in_ok-constraint.ensures.form, room, negated, open_goal)) c.in_err-judge_goals.ensures.fault)

pub add-requires-clause-kept : goal.add-requires-clause-kept
add-requires-clause-kept g c =
    let k : Held = c.args.self.now in
    let n = c.in_ok-constraint.constraint in
    let state = ap (λ (x : Held). x.state) c.self.view_is in
    let kept : IsKept k = subst IsKept c.self.view_is c.self.invariant.kept in
    let room : HasRoom k.state = subst HasRoom state (c.if-not-has_room.ensures.0 refl) in
    let shown : AreGoalsShown k c.args.witness.now n = c.in_ok-judge_goals.ensures.shown in
    let after : IsKept (record { problem = k.problem; state = with_constraint n k.state }) =
    kept_step k.problem k.state (with_constraint n k.state) (steps.Red c.args.constraint.now c.args.witness.now) kept (c.requires.outside, (n, shown.0, c.in_ok-constraint.ensures.form, shown.1, (room, refl))) in
    subst (λ (x : Held). IsKept (record { problem = x.problem; state = with_constraint n x.state })) (sym c.in_ok-judge_goals.ensures.same) after
