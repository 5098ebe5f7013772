use Rattle.std.proofs.Common.{subst, sym, ◌∙◌, ap}
use Rattle.proof_log.specs.Log.{Logbook, IsFalling, last_of, IsProof}
use Rattle.proof_log.proofs.Improving.{values_fall}
use Rattle.proof_log.proofs.log.Log.improved.Goals as goal

pub returns-clause-falling : goal.returns-clause-falling
returns-clause-falling g c =
    let proof : IsProof c.args.self.now = subst IsProof c.self.view_is c.self.invariant.1 in
    let values = ap (λ (l : Logbook). l.improved) c.self.view_is in
    subst IsFalling (sym (c.as_slice.ensures.value ∙ values)) (values_fall c.args.self.now proof).0

pub returns-clause-last : goal.returns-clause-last
returns-clause-last g c =
    let proof : IsProof c.args.self.now = subst IsProof c.self.view_is c.self.invariant.1 in
    let values = ap (λ (l : Logbook). l.improved) c.self.view_is in
    ap last_of (c.as_slice.ensures.value ∙ values) ∙ (values_fall c.args.self.now proof).1
