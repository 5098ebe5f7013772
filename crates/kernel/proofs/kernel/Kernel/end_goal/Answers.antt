use Rattle.std.proofs.Common.{◌≡◌, Some, None, sym, ap, subst, refl, ◌∙◌}
use Rattle.std.proofs.lemmas.Bool.{false≢true}
use Rattle.proof_steps.specs.declared.step.Step.TheVariants as steps
use Rattle.proof_rules.specs.Block.{EndsOpen, closed}
use Rattle.proof_rules.specs.Fault.{IsEndFault}
use Rattle.proof_rules.specs.Shown.{IsShown, absurdity}
use Rattle.proof_rules.specs.State.{Block, constraints, up_to}
use Rattle.proof_rules.specs.declared.fault.StepFault.TheVariants as faults
use Rattle.database.specs.Database.{Constraints, without_between}
use Rattle.kernel.specs.Held.{Held, IsKept, Keeps, state_with}
use Rattle.database.proofs.Between.{all_between}
use Rattle.kernel.proofs.Keeping.{kept_step}
use Rattle.kernel.proofs.kernel.Kernel.end_goal.Given.{Over}
use Rattle.kernel.proofs.kernel.Kernel.end_goal.Goals as goal
use Rattle.kernel.proofs.kernel.Kernel.end_goal.Goals.{After-drop-contradiction-inside-3}

pub returns-then-not-branch-clause-fault : goal.returns-then-not-branch-clause-fault
returns-then-not-branch-clause-fault g c =
    let k : Held = c.args.self.now in
    let place = c.requires in
    let never : IsShown (constraints k.state) absurdity → ⊥ =
    λ shown. false≢true (sym c.if-not-branch.true ∙ c.in_ok-shows.ensures.shown.1 (subst (IsShown (constraints k.state)) (sym c.absurd-contradiction.ensures) shown)) in
    (place.0, place.1, subst (λ o. IsEndFault k.problem k.state place.0 o faults.GoalNotClosed) (sym place.2) never)

-- the constraints of the goal are gone
taken_out : (g : Over) (c : After-drop-contradiction-inside-3 g) → c.remove_between.new.self ≡ record { live = up_to c.args.first c.self-2.inside.database.live; next = c.self-2.inside.database.next }
taken_out g c =
    let d : Constraints = c.self-2.inside.database in
    c.remove_between.ensures
    ∙ ap (λ first. without_between first c.next_id-next.result d) c.from.ensures
    ∙ ap (λ end. without_between c.args.first end d) c.next_id-next.ensures.value
    ∙ all_between d c.args.first c.next_id-next.ensures.numbered

noted : (g : Over) (c : After-drop-contradiction-inside-3 g) → c.close.new.block ≡ Some (record (c.requires.0) { goal = None })
noted g c = c.close.ensures c.requires.0 (ap (λ (x : Held). x.state.block) (c.self-2.view_is ∙ c.in_ok-shows.ensures.same) ∙ c.requires.1)

shown_absurd : (g : Over) (c : After-drop-contradiction-inside-3 g) → IsShown (constraints c.args.self.now.state) absurdity
shown_absurd g c = subst (IsShown (constraints c.args.self.now.state)) c.absurd-contradiction.ensures (c.in_ok-shows.ensures.shown.0 c.if-not-branch.false)

pub invariant_of-self : goal.invariant_of-self
invariant_of-self g c =
    let k = c.self-2.inside in
    let h : Held = c.args.self.now in
    let place = c.requires in
    let j : Block = place.0 in
    let same = c.self-2.view_is ∙ c.in_ok-shows.ensures.same in
    let kept : IsKept h = subst IsKept same c.self-2.invariant.kept in
    let after = kept_step h.problem h.state (closed c.args.first j h.state) steps.End kept
    (j, place.1, subst (λ o. EndsOpen h.problem h.state j o (closed c.args.first j h.state)) (sym place.2) (shown_absurd g c, refl)) in
    let inside : IsKept (record { problem = k.source.now; state = closed c.args.first j (state_with k.database k.log k.block) }) =
    subst (λ (x : Held). IsKept (record { problem = x.problem; state = closed c.args.first j x.state })) (sym same) after in
    subst (λ d. Keeps (record { problem = k.source.now; state = state_with d k.log c.close.new.block }) k.problem_ids k.objective) (sym (taken_out g c))
    (subst (λ b. Keeps (record { problem = k.source.now; state = state_with (record { live = up_to c.args.first k.database.live; next = k.database.next }) k.log b }) k.problem_ids k.objective)
    (sym (noted g c)) (record { kept = inside; file = c.self-2.invariant.file; objective_is = c.self-2.invariant.objective_is }))

pub returns-clause-ok : goal.returns-clause-ok
returns-clause-ok g c =
    let k = c.self-2.inside in
    let h : Held = c.args.self.now in
    let place = c.requires in
    let j : Block = place.0 in
    let same = c.self-2.view_is ∙ c.in_ok-shows.ensures.same in
    let becomes : state_with c.remove_between.new.self k.log c.close.new.block ≡ closed c.args.first j h.state =
    ap (λ d. state_with d k.log c.close.new.block) (taken_out g c)
    ∙ ap (λ b. state_with (record { live = up_to c.args.first k.database.live; next = k.database.next }) k.log b) (noted g c)
    ∙ ap (λ (x : Held). closed c.args.first j x.state) same in
    (j, place.1, subst (λ o. EndsOpen h.problem h.state j o (state_with c.remove_between.new.self k.log c.close.new.block)) (sym place.2) (shown_absurd g c, becomes))
