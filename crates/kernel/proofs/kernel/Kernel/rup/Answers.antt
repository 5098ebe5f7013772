use Rattle.std.proofs.Common.{refl, ap, subst, sym}
use Rattle.proof_steps.specs.declared.step.Step.TheVariants as steps
use Rattle.proof_rules.specs.State.{HasRoom, with_constraint}
use Rattle.kernel.specs.Held.{Held, IsKept}
use Rattle.kernel.proofs.Keeping.{kept_step}
use Rattle.kernel.proofs.kernel.Kernel.rup.Goals as goal

pub add-requires-clause-kept : goal.add-requires-clause-kept
add-requires-clause-kept g c =
    let k : Held = c.args.self.now in
    let n = c.in_ok-constraint.constraint in
    let state = ap (λ (x : Held). x.state) c.self.view_is in
    let kept : IsKept k = subst IsKept c.self.view_is c.self.invariant.kept in
    let room : HasRoom k.state = subst HasRoom state (c.if-not-has_room.ensures.0 refl) in
    let shown = c.in_ok-shows.ensures.shown.0 c.if-not-branch.false in
    let after : IsKept (record { problem = k.problem; state = with_constraint n k.state }) =
    kept_step k.problem k.state (with_constraint n k.state) (steps.Rup c.args.constraint.now) kept (n, c.in_ok-constraint.ensures.form, shown, (room, refl)) in
    subst (λ (x : Held). IsKept (record { problem = x.problem; state = with_constraint n x.state })) (sym c.in_ok-shows.ensures.same) after
