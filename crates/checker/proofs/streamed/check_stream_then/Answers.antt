use Rattle.std.proofs.Common.{subst, sym}
use Rattle.checker.specs.Streamed.{IsStreamVerdictOf, StreamStopsBy}
use Rattle.checker.specs.declared.stream_verdict.StreamVerdict.TheVariants.{Judged}
use Rattle.checker.proofs.VerdictsSaid.{stream_stop_said, stream_true}
use Rattle.checker.proofs.streamed.check_stream_then.Goals as goal

pub returns-in-Ok-judge_stream : goal.returns-in-Ok-judge_stream
returns-in-Ok-judge_stream g c =
    stream_true c.args.opb.now c.in-Ok.problem c.in-Ok.ensures.spells c.in-Ok.ensures.within (g.S.Source.state c.args.source.now) (g.S.Source.state c.judge_stream.new.source) c.in-Ok-judge_stream.accepted c.in-Ok-judge_stream.ensures.proved

pub returns-in-Err-Judging : goal.returns-in-Err-Judging
returns-in-Err-Judging g c =
    let s = g.S.Source.state c.args.source.now in
    let t = g.S.Source.state c.judge_stream.new.source in
    let why = subst (StreamStopsBy c.in-Ok.problem s t) c.in-Err-Judging.field-0-is c.in-Err-Judging.ensures.stop in
    subst (λ v. IsStreamVerdictOf c.args.opb.now s t (Judged v)) (sym c.stopped.ensures)
    (rw c.in-Err-Judging.field-0-is (stream_stop_said c.args.opb.now c.in-Ok.problem c.in-Ok.ensures.spells c.in-Ok.ensures.within s t c.in-Err-Judging.stop why))

pub returns : goal.returns
returns g c = c.bad_problem.ensures.stream c.args.opb.now (g.S.Source.state c.args.source.now) c.in-Err.ensures.denies c.in-Err.ensures.line

pub returns-in-Ok : goal.returns-in-Ok
returns-in-Ok g c =
    let s = g.S.Source.state c.args.source.now in
    let t = g.S.Source.state c.judge_stream.new.source in
    let why = subst (StreamStopsBy c.in-Ok.problem s t) c.in-Err-ReadFailed.field-0-is c.in-Err-ReadFailed.ensures.stop in
    ((c.in-Ok.problem, c.in-Ok.ensures.spells, c.in-Ok.ensures.within), why)
