use Rattle.std.proofs.Common.{refl, sym, subst, ◌∙◌}
use Rattle.proof_steps.specs.declared.step.Step.TheVariants as steps
use Rattle.proof_rules.specs.Legal.{Logs, with_solution}
use Rattle.proof_rules.specs.State.{State, IsOutside}
use Rattle.kernel.specs.Held.{Held, Keeps, state_with}
use Rattle.kernel.proofs.Keeping.{kept_step}
use Rattle.kernel.proofs.kernel.Kernel.sol.Goals as goal

pub invariant_of-self-2 : goal.invariant_of-self-2
invariant_of-self-2 g c =
    let k = c.self.inside in
    let p = k.source.now in
    let s : State = state_with k.database k.log k.block in
    let solution = c.in_ok-solution.solution in
    let logs : Logs p s c.args.assigned.now solution =
    subst (λ (x : Held). Logs x.problem x.state c.args.assigned.now solution) (sym (c.self.view_is ∙ c.in_ok-solution.ensures.same)) c.in_ok-solution.ensures.logs in
    let outside : IsOutside s = subst (λ (x : Held). IsOutside x.state) (sym (c.self.view_is ∙ c.in_ok-solution.ensures.same)) c.requires.outside in
    let after = kept_step p s (with_solution solution s) (steps.Sol c.args.assigned.now) c.self.invariant.kept (outside, (solution, logs, refl)) in
    subst (λ l. Keeps (record { problem = p; state = state_with k.database l k.block }) k.problem_ids k.objective) (sym c.in_ok-push.ensures.ok) (record { kept = after; file = c.self.invariant.file; objective_is = c.self.invariant.objective_is })
