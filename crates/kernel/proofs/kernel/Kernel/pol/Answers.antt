use Rattle.std.proofs.Common.{subst}
use Rattle.std.proofs.lemmas.Result.{err_from_is_err_and}
use Rattle.proof_rules.specs.Fault.{OrMemory, IsWritingFault, IsPolFault}
use Rattle.proof_rules.specs.State.{State, constraint_of}
use Rattle.proof_rules.proofs.PolFaults.{or_memory, writing_pol}
use Rattle.kernel.specs.Held.{Held, state_with}
use Rattle.kernel.proofs.kernel.Kernel.pol.Goals as goal

pub returns-in_err-value-clause-fault : goal.returns-in_err-value-clause-fault
returns-in_err-value-clause-fault g c =
    let h = c.self.inside in
    let s : State = state_with h.database h.log h.block in
    let f = c.in_err-value.field-0.0 in
    let p = err_from_is_err_and c.from_residual.result c.from_residual.ensures.1 in
    let whole = or_memory f (IsWritingFault (constraint_of s) c.args.items.now f) (IsPolFault s c.args.items.now f) (writing_pol s c.args.items.now f) c.in_err-value.ensures.fault in
    rw (p.1, p.2) (subst (λ (k : Held). OrMemory f (IsPolFault k.state c.args.items.now f)) c.self.view_is whole)
