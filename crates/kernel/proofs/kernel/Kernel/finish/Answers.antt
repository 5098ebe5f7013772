use Rattle.std.proofs.Common.{◌≡◌, ◌+◌, ◌≤◌, None, IfSome, sym, ap, subst, ◌∙◌, arith}
use Rattle.std.specs.FinMap as map
use Rattle.proof_rules.specs.Block.{finished}
use Rattle.proof_rules.specs.Preserved.{IsBlockKept}
use Rattle.proof_rules.specs.State.{State, Block, up_to}
use Rattle.proof_rules.proofs.NotLegal.{one_block}
use Rattle.database.specs.Database.{Constraints, pushed, without_between}
use Rattle.kernel.specs.Held.{Held, IsKept, Keeps, state_with}
use Rattle.database.proofs.Between.{between_pushed}
use Rattle.kernel.proofs.kernel.Kernel.finish.Given.{Over}
use Rattle.kernel.proofs.kernel.Kernel.finish.Goals as goal
use Rattle.kernel.proofs.kernel.Kernel.finish.Goals.{Joined-self-2}

-- the constraints of the block are gone, and the new one is there
ended : (g : Over) (c : Joined-self-2 g)
    → c.remove_between.new.self
    ≡ record { live = map.insert (up_to c.in-Some.block.first c.self.inside.database.live) c.self.inside.database.next c.in-Some.block.constraint; next = c.self.inside.database.next + 1 }
ended g c =
    let k = c.self.inside in
    let d : Constraints = k.database in
    let b : Block = c.in-Some.block in
    let s : State = state_with k.database k.log k.block in
    let block : IsBlockKept k.source.now s b = subst (λ o. IfSome o (IsBlockKept k.source.now s)) c.in-Some.is c.self.invariant.kept.preserved.block in
    let low : b.first ≤ d.next = omega (arith, block.begun) in
    c.remove_between.ensures
    ∙ ap (λ first. without_between first c.from.result c.push.new.self) (c.from-first.ensures ∙ ap (λ (x : Block). x.first) c.block.view_is)
    ∙ ap (λ end. without_between b.first end c.push.new.self) (c.from.ensures ∙ c.in_ok-id.ensures.id)
    ∙ ap (λ e. without_between b.first d.next e) (c.in_ok-id.ensures.ok ∙ ap (λ n. pushed n d) (c.in_ok-constraint.ensures.value ∙ ap (λ (x : Block). x.constraint) c.block.view_is))
    ∙ between_pushed d b.first b.constraint low c.in_ok-id.ensures.numbered

pub invariant_of-self-2 : goal.invariant_of-self-2
invariant_of-self-2 g c =
    let k = c.self.inside in
    let b : Block = c.in-Some.block in
    let some = sym (ap (λ (x : Held). x.state.block) c.self.view_is) ∙ c.in-Some.is in
    let kept : IsKept (record { problem = k.source.now; state = finished b (state_with k.database k.log k.block) }) =
    subst (λ (x : Held). IsKept (record { problem = x.problem; state = finished b x.state })) (sym c.self.view_is) (c.requires.kept b some) in
    subst (λ d. Keeps (record { problem = k.source.now; state = state_with d k.log None }) k.problem_ids k.objective) (sym (ended g c))
    (record { kept = kept; file = c.self.invariant.file; objective_is = c.self.invariant.objective_is })

pub returns-clause-ok : goal.returns-clause-ok
returns-clause-ok g c j here =
    let k = c.self.inside in
    let b : Block = c.in-Some.block in
    let some = sym (ap (λ (x : Held). x.state.block) c.self.view_is) ∙ c.in-Some.is in
    ap (λ d. state_with d k.log None) (ended g c) ∙ ap (λ (x : Held). finished b x.state) c.self.view_is
    ∙ ap (λ z. finished z c.args.self.now.state) (one_block c.args.self.now.state.block b j some here)
