-- What a proof proves is true of the problem.
use Rattle.std.proofs.Common.{ℕ, List}
use Rattle.linear.specs.Opb.{Opb}
use Rattle.kernel.specs.Accepted.{Judgement}
use Rattle.proof_rules.proofs.Concluding.{justified_claim}
use Rattle.proof_rules.proofs.FileForms.{start_preserved, start_normal}
use Rattle.proof_rules.proofs.Preserving.{steps_preserve}
use Rattle.proof_rules.specs.Claim.{Claim}
use Rattle.checker.specs.Verdicts.{IsProved}

pub proved_claim : (p : Opb) (proof : List ℕ) (a : Judgement) → IsProved p proof a → Claim p a.conclusion a.best
proved_claim p proof a proved =
    let legal = proved.legal in
    let kept = steps_preserve p legal.start proved.steps legal.end (start_preserved p legal.start legal.starts) (start_normal p legal.start legal.starts) legal.leads in
    justified_claim p legal.end a.conclusion a.best kept.0 kept.1 legal.justified
