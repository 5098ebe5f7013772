-- All that is live is asked.
use Rattle.std.proofs.Common.{◌≡◌, ℕ, ◌++◌, All, IfErr, List, OnOk, Some, ap, subst}
use Rattle.std.proofs.lemmas.Result.{IfErr-weaker, on_ok_weaker}
use Rattle.std.specs.FinMap as map
use Rattle.normal_form.specs.Normal.{NormalConstraint}
use Rattle.proof_rules.specs.Fault.{OrMemory, IsGoalFault}
use Rattle.proof_rules.specs.Redundant.{IsShownUnder}
use Rattle.proof_rules.specs.State.{constraints}
use Rattle.proof_rules.proofs.PolFaults.{or_memory}
use Rattle.kernel.specs.Held.{Held}
use Rattle.kernel.specs.Redundance.{IsAsked, IsOpenLive}
use Rattle.kernel.proofs.GoalsShown.{all_asked_shown, asked_all, open_live}
use Rattle.kernel.proofs.kernel.Kernel.judge_all_live.Goals as goal

pub returns-clause-shown : goal.returns-clause-shown
returns-clause-shown g c =
    let k : Held = c.args.self.now in
    let d = c.self.inside.database in
    let beside : List NormalConstraint = c.args.beside.now.items in
    let images = c.args.witness.now in
    let end = c.next_id-end.result in
    let opened = c.empty-opened.result in
    let live : d.live ≡ k.state.live = ap (λ (x : Held). x.state.live) c.self.view_is in
    let asked = asked_all d.live d.next end opened c.next_id-end.ensures.numbered c.next_id-end.ensures.value c.empty-opened.ensures in
    subst (λ l. OnOk c.judge_live.result (All (IsShownUnder (map.values l ++ beside) images) (map.values l))) live
    (on_ok_weaker c.judge_live.result (all_asked_shown d.live end opened (map.values d.live ++ beside) images asked) c.judge_live.ensures.shown)

pub returns-clause-fault : goal.returns-clause-fault
returns-clause-fault g c n =
    let k : Held = c.args.self.now in
    let d = c.self.inside.database in
    let beside : List NormalConstraint = c.args.beside.now.items in
    let from : List NormalConstraint = constraints k.state ++ beside in
    let images = c.args.witness.now in
    let end = c.next_id-end.result in
    let opened = c.empty-opened.result in
    let live : d.live ≡ k.state.live = ap (λ (x : Held). x.state.live) c.self.view_is in
    let asked = subst (λ l. (q : ℕ) (x : NormalConstraint) → map.get l q ≡ Some x → IsAsked end opened q) live
    (asked_all d.live d.next end opened c.next_id-end.ensures.numbered c.next_id-end.ensures.value c.empty-opened.ensures) in
    IfErr-weaker c.judge_live.result (λ f. OrMemory f (IsOpenLive k.state.live end opened from images f)) (λ f. OrMemory f (IsGoalFault k.problem k.state from images n f))
    (λ f. or_memory f (IsOpenLive k.state.live end opened from images f) (IsGoalFault k.problem k.state from images n f) (open_live k.problem k.state end opened from images n f asked))
    (subst (λ l. IfErr c.judge_live.result (λ f. OrMemory f (IsOpenLive l end opened (map.values l ++ beside) images f))) live c.judge_live.ensures.fault)
