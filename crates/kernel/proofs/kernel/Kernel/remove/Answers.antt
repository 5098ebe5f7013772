use Rattle.std.proofs.Common.{FitsSigned, IsSome, [], ◌∷◌, refl, sym, subst, rules}
use Rattle.std.proofs.lemmas.Int.{to_z-of_z}
use mir.Syntax.{w128}
use Rattle.proof_steps.specs.declared.step.Step.TheVariants as steps
use Rattle.linear.specs.Opb.{Opb}
use Rattle.proof_rules.specs.Legal.{without}
use Rattle.proof_rules.specs.State.{State, IsOutside, constraint_of, id_of}
use Rattle.database.specs.Database.{removed}
use Rattle.kernel.specs.Held.{Held, Keeps, state_with}
use Rattle.kernel.proofs.Keeping.{kept_step}
use Rattle.kernel.proofs.kernel.Kernel.remove.Goals as goal

pub invariant_of-self : goal.invariant_of-self
invariant_of-self g c =
    let k = c.self.inside in
    let p : Opb = k.source.now in
    let fits : FitsSigned w128 c.args.number = search rules in
    let s : State = state_with k.database k.log k.block in
    let live : IsSome (constraint_of s c.args.number) = subst (λ (x : Held). IsSome (constraint_of x.state c.args.number)) (sym c.self.view_is) c.requires.live in
    let outside : IsOutside s = subst (λ (x : Held). IsOutside x.state) (sym c.self.view_is) c.requires.outside in
    let after = kept_step p s (without (id_of s.next c.args.number) s) (steps.Del (c.args.number ∷ [])) c.self.invariant.kept (outside, (live, refl)) in
    let kept : Keeps (record { problem = p; state = state_with (removed (id_of k.database.next c.args.number) k.database) k.log k.block }) k.problem_ids k.objective =
    record { kept = after; file = c.self.invariant.file; objective_is = c.self.invariant.objective_is } in
    subst (λ d. Keeps (record { problem = p; state = state_with d k.log k.block }) k.problem_ids k.objective) (sym c.remove.ensures)
    (subst (λ z. Keeps (record { problem = p; state = state_with (removed (id_of k.database.next z) k.database) k.log k.block }) k.problem_ids k.objective)
    (sym (to_z-of_z w128 c.args.number fits)) kept)
