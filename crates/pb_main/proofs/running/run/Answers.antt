use Rattle.std.proofs.Common.{option_map, refl, subst, sym}
use Rattle.pb_main.specs.Running.{IsDecided}
use Rattle.pb_main.proofs.Ran.{ran}
use Rattle.pb_main.proofs.running.run.Goals as goal

pub returns-in-Ok : goal.returns-in-Ok
returns-in-Ok g c =
    let decided = c.decide-decided.result in
    let made : IsDecided c.args.opb.now c.as_slice.result.now c.args.limit decided.outcome =
    subst (λ proof. IsDecided c.args.opb.now proof c.args.limit decided.outcome) (sym c.as_slice.ensures.value)
    (record { outcome_is = c.decide-decided.ensures.outcome; proof_is = c.decide-decided.ensures.proof }) in
    ran c.args.opb.now c.as_slice.result.now c.args.limit (g.S.Sink.state c.args.out.now) (g.S.Sink.state c.push_answer.new.out)
    (option_map g.T.Sink.state c.args.proof_out.now) (option_map g.T.Sink.state c.push_proof.new.proof_out) c.push_answer.result
    c.in-Ok.ensures.ok (c.push_answer.ensures c.args.opb.now c.as_slice.result.now c.args.limit made)

pub returns-in-Err : goal.returns-in-Err
returns-in-Err g c =
    let decided = c.decide-decided.result in
    let made : IsDecided c.args.opb.now c.as_slice.result.now c.args.limit decided.outcome =
    subst (λ proof. IsDecided c.args.opb.now proof c.args.limit decided.outcome) (sym c.as_slice.ensures.value)
    (record { outcome_is = c.decide-decided.ensures.outcome; proof_is = c.decide-decided.ensures.proof }) in
    (c.as_slice.result.now, decided.outcome, made, c.in-Err.ensures.failed, refl)
