use Rattle.std.proofs.Common.{◌≡◌, ℤ, FitsSigned, IsSome, None, [], ◌∷◌, refl, sym, subst, rules}
use mir.Syntax.{w128}
use Rattle.std.proofs.lemmas.Int.{to_z-of_z}
use Rattle.std.proofs.lemmas.Result.{err_from_is_err_and}
use Rattle.proof_rules.specs.Fault.{OrMemory, IsDelFault}
use Rattle.proof_rules.specs.Legal.{without}
use Rattle.proof_rules.specs.State.{State, constraint_of, id_of}
use Rattle.kernel.specs.Deletion.{IsWithout}
use Rattle.kernel.proofs.Deleting.{none_gone}
use Rattle.kernel.proofs.kernel.Kernel.judge_alone.Goals as goal

pub returns-in_err-live_after-clause-fault : goal.returns-in_err-live_after-clause-fault
returns-in_err-live_after-clause-fault g c =
    let s : State = c.args.self.now.state in
    let fits : FitsSigned w128 c.args.number = search rules in
    let p = err_from_is_err_and c.from_residual.result c.from_residual.ensures.1 in
    let dead = c.in_err-live_after.ensures.dead s (subst (λ gone. IsWithout gone s s) (sym c.empty-none.ensures) (none_gone s)) in
    let none = subst (λ (z : ℤ). constraint_of s z ≡ None) (to_z-of_z w128 c.args.number fits) dead.1 in
    rw (p.1, p.2) (subst (λ f. OrMemory f (IsDelFault s (c.args.number ∷ []) f)) (sym dead.0) ([], c.args.number, [], s, refl, refl, none))

pub returns-clause-ok : goal.returns-clause-ok
returns-clause-ok g c =
    let s : State = c.args.self.now.state in
    let fits : FitsSigned w128 c.args.number = search rules in
    let live = c.in_ok-live_after.ensures.live s (subst (λ gone. IsWithout gone s s) (sym c.empty-none.ensures) (none_gone s)) in
    (without (id_of s.next c.args.number) s, (subst (λ (z : ℤ). IsSome (constraint_of s z)) (to_z-of_z w128 c.args.number fits) live, refl))
