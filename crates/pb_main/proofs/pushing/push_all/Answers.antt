use Rattle.pb_main.proofs.PiecesTaken.{of_error, offered, taken_more, taken_part, taken_whole}
use Rattle.pb_main.proofs.pushing.push_all.Goals as goal

pub returns : goal.returns
returns g c = record {
  ok = taken_whole c.args.bytes.now c.loop-taken.taken (g.S.Sink.state c.args.sink.now) (g.S.Sink.state c.loop-taken.sink) c.loop-taken-test.false c.loop-taken.invariant.1;
  failed = tt;
}

pub returns-in_err-taken-clause-failed : goal.returns-in_err-taken-clause-failed
returns-in_err-taken-clause-failed g c =
    of_error c.from_residual.result
    (taken_part c.args.bytes.now c.loop-taken.taken (g.S.Sink.state c.args.sink.now) (g.S.Sink.state c.loop-taken.sink)
    (g.S.Sink.state c.push.new.self) c.loop-taken.invariant.1 c.in_err-taken.ensures.fails)

pub loop-taken-preserved : goal.loop-taken-preserved
loop-taken-preserved g c =
    taken_more c.args.bytes.now _ c.loop-taken.taken c.in_ok-taken.field-0 (g.S.Sink.state c.args.sink.now)
    (g.S.Sink.state c.loop-taken.sink) (g.S.Sink.state c.push.new.self) c.loop-taken.invariant.0
    (offered c.args.bytes.now c.loop-taken.taken) c.in_ok-taken.ensures.fits c.loop-taken.invariant.1 c.in_ok-taken.ensures.takes
