use Rattle.std.proofs.Common.{sym, ap, subst}
use Rattle.std.proofs.lemmas.Result.{err_from_is_err_and}
use Rattle.proof_rules.specs.Claim.{Claim}
use Rattle.proof_rules.specs.Fault.{IsConclusionFault, IsUnjustified}
use Rattle.proof_rules.specs.Justified.{IsJustified}
use Rattle.proof_rules.proofs.BlocksJudged.{outside_fault}
use Rattle.proof_rules.proofs.Concluding.{justified_claim}
use Rattle.proof_rules.proofs.ConclusionJudged.{no_block_fault}
use Rattle.proof_rules.proofs.PolFaults.{or_memory}
use Rattle.kernel.specs.Accepted.{Judgement}
use Rattle.kernel.specs.Held.{Held, IsKept}
use Rattle.kernel.proofs.kernel.Kernel.conclude.Goals as goal

pub returns-clause-justified : goal.returns-clause-justified
returns-clause-justified g c =
    let k : Held = c.args.self.now in
    subst (IsJustified k.problem k.state c.args.conclusion.now) (sym (ap (λ (a : Judgement). a.best) c.new.ensures)) (c.in_ok-stand_outside.ensures.outside, c.in_ok-best.ensures.justified)

pub returns-clause-claim : goal.returns-clause-claim
returns-clause-claim g c =
    let k : Held = c.args.self.now in
    let kept : IsKept k = c.reveal.ensures in
    let claim : Claim k.problem c.args.conclusion.now c.in_ok-best.best =
    justified_claim k.problem k.state c.args.conclusion.now c.in_ok-best.best kept.preserved kept.normal (c.in_ok-stand_outside.ensures.outside, c.in_ok-best.ensures.justified) in
    subst (λ (a : Judgement). Claim k.problem a.conclusion a.best) (sym c.new.ensures)
    (subst (λ x. Claim k.problem x c.in_ok-best.best) (sym c.in_ok-copied_conclusion.ensures) claim)

pub returns-in_err-best-clause-fault : goal.returns-in_err-best-clause-fault
returns-in_err-best-clause-fault g c =
    let k : Held = c.args.self.now in
    let f = c.in_err-best.field-0.0 in
    let p = err_from_is_err_and c.from_residual-in_err-best.result c.from_residual-in_err-best.ensures.1 in
    rw (p.1, p.2)
    (or_memory f (IsUnjustified k.problem k.state c.args.conclusion.now f) (IsConclusionFault k.problem k.state c.args.conclusion.now f)
    (outside_fault k.state (IsUnjustified k.problem k.state c.args.conclusion.now) f c.in_ok-stand_outside.ensures.outside (no_block_fault k.problem k.state c.args.conclusion.now)) c.in_err-best.ensures.fault)
