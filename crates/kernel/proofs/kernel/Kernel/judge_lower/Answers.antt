use Rattle.std.proofs.Common.{FitsSigned, IfErr, sym, ap, subst, ◌∙◌, rules}
use Rattle.std.proofs.lemmas.Int.{to_z-of_z}
use Rattle.std.proofs.lemmas.Result.{IfErr-weaker, on_ok_weaker}
use mir.Syntax.{w128}
use Rattle.proof_steps.specs.declared.conclusion.Lower.TheVariants as lowers
use Rattle.proof_rules.specs.Fault.{OrMemory, IsBoundFault, IsLowerFault}
use Rattle.proof_rules.specs.Justified.{EntitlesLower}
use Rattle.proof_rules.specs.State.{State}
use Rattle.proof_rules.proofs.PolFaults.{or_memory}
use Rattle.kernel.specs.Held.{with_extra}
use Rattle.kernel.proofs.Concluded.{bound_beside, bound_entitled}
use Rattle.kernel.proofs.kernel.Kernel.judge_lower.Goals as goal

pub returns-in-At-clause-ok : goal.returns-in-At-clause-ok
returns-in-At-clause-ok g c =
    let s : State = c.args.self.now.state in
    let objective = c.args.objective.now in
    let fits : FitsSigned w128 c.in-At.bound = search rules in
    let is = ap lowers.At (to_z-of_z w128 c.in-At.bound fits) ∙ sym c.in-At.is in
    on_ok_weaker c.judge_bound.result (λ entitled. bound_entitled c.args.extra.now s objective c.args.lower (subst (EntitlesLower s objective) is entitled) _ (sym is)) c.judge_bound.ensures.ok

pub returns-in-At-clause-fault : goal.returns-in-At-clause-fault
returns-in-At-clause-fault g c =
    let s : State = c.args.self.now.state in
    let objective = c.args.objective.now in
    let t : State = with_extra c.args.extra.now s in
    let fits : FitsSigned w128 c.in-At.bound = search rules in
    let is = ap lowers.At (to_z-of_z w128 c.in-At.bound fits) ∙ sym c.in-At.is in
    subst (λ l. IfErr c.judge_bound.result (λ f. OrMemory f (IsLowerFault t objective l f))) is
    (IfErr-weaker c.judge_bound.result (λ f. OrMemory f (IsBoundFault s objective _ f)) (λ f. OrMemory f (IsBoundFault t objective _ f))
    (λ f. or_memory f (IsBoundFault s objective _ f) (IsBoundFault t objective _ f) (bound_beside c.args.extra.now s objective _ f))
    c.judge_bound.ensures.fault)
