use Rattle.proof_log.specs.Log.{Logbook}
use Rattle.pb_main.specs.Checked.{IsLogOf}
use Rattle.pb_main.proofs.Accepting.{accepted_of, never_refused, never_bad}
use Rattle.pb_main.proofs.proof.accepted.Goals as goal

pub unreachable-requires : goal.unreachable-requires
unreachable-requires c =
    let l : Logbook = c.requires.0 in
    let of_text : IsLogOf c.args.opb.now l = c.requires.1 in
    let written = c.requires.2 in
    never_refused c.args.opb.now c.args.proof.now l of_text.legal of_text.spelled of_text.within written c.in-Refused.line c.in-Refused.code c.in-Refused.ensures.sound

pub unreachable-requires-in-BadProblem : goal.unreachable-requires-in-BadProblem
unreachable-requires-in-BadProblem c =
    let l : Logbook = c.requires.0 in
    let of_text : IsLogOf c.args.opb.now l = c.requires.1 in
    let written = c.requires.2 in
    never_bad c.args.opb.now c.args.proof.now l of_text.legal of_text.spelled of_text.within written c.in-BadProblem.field-0 c.in-BadProblem.ensures.sound

pub returns-in-Accepted : goal.returns-in-Accepted
returns-in-Accepted c l of_text written =
    accepted_of c.args.opb.now c.args.proof.now l of_text.legal of_text.spelled of_text.within written c.in-Accepted.accepted c.in-Accepted.ensures.sound
