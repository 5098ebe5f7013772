use Rattle.proof_rules.proofs.Concluding.{justified_claim}
use Rattle.proof_rules.proofs.FileForms.{start_preserved, start_normal}
use Rattle.proof_rules.proofs.Preserving.{steps_preserve}
use Rattle.proof_rules.proofs.laws.legal_proof_is_true.Goals as goal

pub returns : goal.returns
returns _ p steps c best proof =
    let kept = steps_preserve p proof.start steps proof.end (start_preserved p proof.start proof.starts) (start_normal p proof.start proof.starts) proof.leads in
    justified_claim p proof.end c best kept.0 kept.1 proof.justified
