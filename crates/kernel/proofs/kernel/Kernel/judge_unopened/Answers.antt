use Rattle.std.proofs.Common.{◌≡◌, false, Some, IfSome, sym, ap, subst, ◌∙◌}
use Rattle.std.proofs.lemmas.Bool.{false≢true}
use Rattle.std.proofs.lemmas.Result.{err_from_is_err_and}
use Rattle.std.specs.FinMap as map
use Rattle.proof_rules.specs.Block.{AreLiveShown, IsItselfShown}
use Rattle.proof_rules.specs.Fault.{IsUnopenedFault}
use Rattle.proof_rules.specs.Redundant.{IsShownNotRaised, IsShownUnder}
use Rattle.proof_rules.specs.State.{Block, constraints}
use Rattle.proof_rules.specs.declared.fault.StepFault.TheVariants as faults
use Rattle.proof_rules.proofs.NotLegal.{one_block}
use Rattle.proof_rules.proofs.PolFaults.{or_memory}
use Rattle.database.specs.Database.{Constraints}
use Rattle.kernel.specs.Held.{Held}
use Rattle.kernel.specs.Place.{AreUnopenedShown}
use Rattle.kernel.specs.Redundance.{AreAskedShown, IsOpenLive}
use Rattle.kernel.proofs.GoalsShown.{may_rise}
use Rattle.kernel.proofs.OpenBlocks.{unopened_live, unshown}
use Rattle.kernel.proofs.kernel.Kernel.judge_unopened.Goals as goal

pub returns-in_err-judge_unopened_live-clause-fault : goal.returns-in_err-judge_unopened_live-clause-fault
returns-in_err-judge_unopened_live-clause-fault g c j here =
    let k : Held = c.args.self.now in
    let b : Block = c.in-Some.block in
    let d : Constraints = c.self.inside.database in
    let live : d.live ≡ k.state.live = ap (λ (x : Held). x.state.live) c.self.view_is in
    let some : k.state.block ≡ Some b = sym (ap (λ (x : Held). x.state.block) c.self.view_is) ∙ c.in-Some.is in
    let f = c.in_err-judge_unopened_live.field-0.0 in
    let p = err_from_is_err_and c.from_residual.result c.from_residual.ensures.1 in
    rw (p.1, p.2)
    (or_memory f (IsOpenLive d.live b.first b.opened (map.values d.live) b.images f) (IsUnopenedFault k.problem k.state j f)
    (λ h. subst (λ x. IsUnopenedFault k.problem k.state x f) (one_block k.state.block b j some here)
    (unopened_live k.problem k.state b f (subst (λ l. IsOpenLive l b.first b.opened (map.values l) b.images f) live h)))
    c.in_err-judge_unopened_live.ensures.fault)

pub returns-then-not-branch-clause-fault : goal.returns-then-not-branch-clause-fault
returns-then-not-branch-clause-fault g c j here =
    let k : Held = c.args.self.now in
    let b : Block = c.in-Some.block in
    let live : c.self.inside.database.live ≡ k.state.live = ap (λ (x : Held). x.state.live) c.self.view_is in
    let some : k.state.block ≡ Some b = sym (ap (λ (x : Held). x.state.block) c.self.view_is) ∙ c.in-Some.is in
    let each : AreLiveShown k.state b = subst (λ l. AreAskedShown l b.first b.opened (map.values l) b.images) live c.in_ok-judge_unopened_live.ensures.shown in
    let then : map.values c.judge_unopened_live.new.database.live ≡ constraints k.state = ap (λ (x : Constraints). map.values x.live) c.in_ok-judge_unopened_live.ensures.same ∙ ap (map.values) live in
    let own = unshown b.itself (IsShownUnder (constraints k.state) b.images b.constraint)
    (λ h. false≢true (sym c.if-not-branch.true ∙ c.in_ok-shows_own.ensures.shown.1 (λ e. subst (λ xs. IsShownUnder xs b.images b.constraint) (sym then) (h e)))) in
    subst (λ x. IsUnopenedFault k.problem k.state x faults.GoalOpenSelf) (one_block k.state.block b j some here) (each, own.0, own.1)

pub returns-then-not-branch-2-clause-fault : goal.returns-then-not-branch-2-clause-fault
returns-then-not-branch-2-clause-fault g c j here =
    let k : Held = c.args.self.now in
    let b : Block = c.in-Some.block in
    let live : c.self.inside.database.live ≡ k.state.live = ap (λ (x : Held). x.state.live) c.self.view_is in
    let some : k.state.block ≡ Some b = sym (ap (λ (x : Held). x.state.block) c.self.view_is) ∙ c.in-Some.is in
    let objective : c.self.inside.objective ≡ k.problem.objective = c.self.invariant.objective_is ∙ ap (λ (x : Held). x.problem.objective) c.self.view_is in
    let each : AreLiveShown k.state b = subst (λ l. AreAskedShown l b.first b.opened (map.values l) b.images) live c.in_ok-judge_unopened_live.ensures.shown in
    let then : map.values c.judge_unopened_live.new.database.live ≡ constraints k.state = ap (λ (x : Constraints). map.values x.live) c.in_ok-judge_unopened_live.ensures.same ∙ ap (map.values) live in
    let last : map.values c.shows_own.new.database.live ≡ constraints k.state = ap (λ (x : Constraints). map.values x.live) c.in_ok-shows_own.ensures.same ∙ then in
    let itself : IsItselfShown k.state b = λ e. subst (λ xs. IsShownUnder xs b.images b.constraint) then (c.in_ok-shows_own.ensures.shown.0 c.if-not-branch.false e) in
    let raised = unshown b.objective (IfSome k.problem.objective (IsShownNotRaised (constraints k.state) b.images))
    (λ h. false≢true (sym c.if-not-branch-2.true ∙ c.in_ok-shows_objective.ensures.shown.1
    (λ e. subst (λ xs. IfSome c.self.inside.objective (IsShownNotRaised xs b.images)) (sym last) (subst (λ o. IfSome o (IsShownNotRaised (constraints k.state) b.images)) (sym objective) (h e))))) in
    subst (λ x. IsUnopenedFault k.problem k.state x faults.GoalOpenObjective) (one_block k.state.block b j some here)
    (each, itself, raised.0, may_rise k.problem.objective (constraints k.state) b.images raised.1)

pub returns-clause-shown : goal.returns-clause-shown
returns-clause-shown g c j here =
    let k : Held = c.args.self.now in
    let b : Block = c.in-Some.block in
    let live : c.self.inside.database.live ≡ k.state.live = ap (λ (x : Held). x.state.live) c.self.view_is in
    let some : k.state.block ≡ Some b = sym (ap (λ (x : Held). x.state.block) c.self.view_is) ∙ c.in-Some.is in
    let objective : c.self.inside.objective ≡ k.problem.objective = c.self.invariant.objective_is ∙ ap (λ (x : Held). x.problem.objective) c.self.view_is in
    let then : map.values c.judge_unopened_live.new.database.live ≡ constraints k.state = ap (λ (x : Constraints). map.values x.live) c.in_ok-judge_unopened_live.ensures.same ∙ ap (map.values) live in
    let last : map.values c.shows_own.new.database.live ≡ constraints k.state = ap (λ (x : Constraints). map.values x.live) c.in_ok-shows_own.ensures.same ∙ then in
    let all : AreUnopenedShown k.problem k.state b = record {
      each_live = subst (λ l. AreAskedShown l b.first b.opened (map.values l) b.images) live c.in_ok-judge_unopened_live.ensures.shown;
      itself = λ e. subst (λ xs. IsShownUnder xs b.images b.constraint) then (c.in_ok-shows_own.ensures.shown.0 c.if-not-branch.false e);
      objective = λ e. subst (λ o. IfSome o (IsShownNotRaised (constraints k.state) b.images)) objective
          (subst (λ xs. IfSome c.self.inside.objective (IsShownNotRaised xs b.images)) last (c.in_ok-shows_objective.ensures.shown.0 c.if-not-branch-2.false e));
    } in
    subst (AreUnopenedShown k.problem k.state) (one_block k.state.block b j some here) all
