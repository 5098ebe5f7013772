use Rattle.std.proofs.Common.{refl, subst}
use Rattle.proof_steps.specs.declared.step.Step.TheVariants as steps
use Rattle.proof_rules.specs.State.{HasRoom, with_constraint}
use Rattle.kernel.specs.Held.{Held, IsKept}
use Rattle.kernel.proofs.Keeping.{kept_step}
use Rattle.kernel.proofs.kernel.Kernel.add_derived.Goals as goal

pub add-requires-clause-kept : goal.add-requires-clause-kept
add-requires-clause-kept g c =
    let k : Held = c.args.self.now in
    let n = c.args.value in
    let d = c.requires.derived in
    let kept : IsKept k = subst IsKept c.self.view_is c.self.invariant.kept in
    let room : HasRoom k.state = subst (λ (k : Held). HasRoom k.state) c.self.view_is (c.if-not-has_room.ensures.0 refl) in
    kept_step k.problem k.state (with_constraint n k.state) (steps.Pol d.0) kept (n, d.1, (room, refl))
