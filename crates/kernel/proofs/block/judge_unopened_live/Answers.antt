-- Outside goals nothing stands beside what is live.
use Rattle.std.proofs.Common.{◌≡◌, ◌++◌, List, IfErr, OnOk, ap, subst, ◌∙◌}
use Rattle.std.proofs.lemmas.List.{append-nil}
use Rattle.std.specs.FinMap as map
use Rattle.normal_form.specs.Normal.{NormalConstraint}
use Rattle.proof_rules.specs.Fault.{OrMemory}
use Rattle.proof_rules.specs.State.{Block}
use Rattle.kernel.specs.Redundance.{AreAskedShown, IsOpenLive}
use Rattle.kernel.proofs.block.judge_unopened_live.Goals as goal

pub returns-clause-shown : goal.returns-clause-shown
returns-clause-shown g c =
    let b : Block = c.args.block.now in
    let live = c.args.database.now.live in
    let items : List NormalConstraint = c.new-beside.result.items in
    let alone : map.values live ++ items ≡ map.values live = ap (λ xs. map.values live ++ xs) c.new-beside.ensures.items ∙ append-nil (map.values live) in
    subst (λ xs. OnOk c.judge_live.result (AreAskedShown live b.first b.opened xs b.images)) alone
    (subst (λ (x : Block). OnOk c.judge_live.result (AreAskedShown live x.first x.opened (map.values live ++ items) x.images)) c.block.view_is
    (subst (λ first. OnOk c.judge_live.result (AreAskedShown live first c.block.inside.opened (map.values live ++ items) c.block.inside.witness)) c.from.ensures c.judge_live.ensures.shown))

pub returns-clause-fault : goal.returns-clause-fault
returns-clause-fault g c =
    let b : Block = c.args.block.now in
    let live = c.args.database.now.live in
    let items : List NormalConstraint = c.new-beside.result.items in
    let alone : map.values live ++ items ≡ map.values live = ap (λ xs. map.values live ++ xs) c.new-beside.ensures.items ∙ append-nil (map.values live) in
    subst (λ xs. IfErr c.judge_live.result (λ f. OrMemory f (IsOpenLive live b.first b.opened xs b.images f))) alone
    (subst (λ (x : Block). IfErr c.judge_live.result (λ f. OrMemory f (IsOpenLive live x.first x.opened (map.values live ++ items) x.images f))) c.block.view_is
    (subst (λ first. IfErr c.judge_live.result (λ f. OrMemory f (IsOpenLive live first c.block.inside.opened (map.values live ++ items) c.block.inside.witness f))) c.from.ensures
    c.judge_live.ensures.fault))
