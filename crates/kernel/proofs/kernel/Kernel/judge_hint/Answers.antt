use Rattle.std.proofs.Common.{sym, subst}
use Rattle.std.proofs.lemmas.Result.{err_from_is_err_and}
use Rattle.proof_rules.specs.Fault.{OrMemory, IsHintFault, IsSolFault}
use Rattle.kernel.specs.Held.{Held}
use Rattle.kernel.proofs.kernel.Kernel.judge_hint.Goals as goal

pub returns-in_err-solution-in-Some-clause-fault : goal.returns-in_err-solution-in-Some-clause-fault
returns-in_err-solution-in-Some-clause-fault g c =
    let k : Held = c.args.self.now in
    let f = c.in_err-solution-in-Some.field-0.0 in
    let p = err_from_is_err_and c.from_residual.result c.from_residual.ensures.1 in
    rw (p.1, p.2)
    (subst (λ h. OrMemory f (IsHintFault k.problem k.state h f)) (sym c.in-Some.is)
    (subst (λ l. OrMemory f (IsSolFault k.problem k.state l f)) c.as_slice.ensures c.in_err-solution-in-Some.ensures.fault))
