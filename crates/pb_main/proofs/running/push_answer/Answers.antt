use Rattle.pb_main.proofs.running.push_answer.Goals as goal

pub returns-in-Err : goal.returns-in-Err
returns-in-Err g c = λ opb proof limit decided.
    c.push_text-in-Err.ensures opb proof limit (record { outcome_is = decided.proof_is; proof_is = decided.proof_is })
