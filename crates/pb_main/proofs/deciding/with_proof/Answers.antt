use Rattle.std.proofs.Common.{inl, subst, sym}
use Rattle.pb_main.specs.Checked.{IsWritten}
use Rattle.pb_main.specs.Outcome.{IsOutcomeOf}
use Rattle.pb_main.proofs.ConclusionsWritable.{conclusion_writable}
use Rattle.pb_main.proofs.Outcomes.{log_of, without_bytes}
use Rattle.pb_main.proofs.deciding.with_proof.Goals as goal

pub into_proof-requires : goal.into_proof-requires
into_proof-requires g c =
    conclusion_writable c.requires.borne_out.0 c.args.log c.args.found c.reveal.ensures.proof c.requires.within c.requires.borne_out.1

pub concluded-outcome-requires : goal.concluded-outcome-requires
concluded-outcome-requires g c =
    let l = c.args.log in
    let written : IsWritten l c.as_slice.result.now = subst (IsWritten l) (sym c.as_slice.ensures.value) c.in-Ok.ensures.spelled in
    (l, log_of c.args.opb.now l c.requires.spelled c.requires.within c.reveal.ensures.proof, written)

pub returns-in-Ok-clause-outcome : goal.returns-in-Ok-clause-outcome
returns-in-Ok-clause-outcome g c limit bears =
    let l = c.args.log in
    let outcome = c.concluded-outcome.result in
    let of_text = log_of c.args.opb.now l c.requires.spelled c.requires.within c.reveal.ensures.proof in
    let written : IsWritten l c.as_slice.result.now = subst (IsWritten l) (sym c.as_slice.ensures.value) c.in-Ok.ensures.spelled in
    subst (λ proof. IsOutcomeOf c.args.opb.now proof limit outcome) c.as_slice.ensures.value
    (c.concluded-outcome.ensures l limit of_text written (c.finding_of-finding.ensures limit bears))

pub returns-in-Ok-clause-proof : goal.returns-in-Ok-clause-proof
returns-in-Ok-clause-proof g c =
    inl (c.args.log, log_of c.args.opb.now c.args.log c.requires.spelled c.requires.within c.reveal.ensures.proof, c.in-Ok.ensures.spelled)

pub returns-in-Err-clause-outcome : goal.returns-in-Err-clause-outcome
returns-in-Err-clause-outcome g c limit bears =
    let opb = c.args.opb.now in
    let none = c.without_proof.ensures in
    let of_text = log_of opb c.args.log c.requires.spelled c.requires.within c.reveal.ensures.proof in
    without_bytes opb c.without_proof.result.proof.items limit c.without_proof.result.outcome c.unproved.result none.outcome none.proof
    (c.unproved.ensures opb c.args.log limit of_text (c.finding_of-finding.ensures limit bears))
