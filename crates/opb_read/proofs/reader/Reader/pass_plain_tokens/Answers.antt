use Rattle.opb_read.specs.Reading.{progress_of}
use Rattle.opb_read.proofs.Passing.{reaches_passed}
use Rattle.opb_read.proofs.reader.Reader.pass_plain_tokens.Goals as goal

pub loop-preserved : goal.loop-preserved
loop-preserved c =
    let l = c.loop in
    let token = c.in_ok-pass_plain.ensures.passed c.if-branch.true in (
      reaches_passed (progress_of c.args.self.now) (progress_of l.self) (progress_of c.pass_plain.new.self) c.args.self.now.left l.self.left c.pass_plain.new.self.left l.invariant.0 token,
      token.step.counts,
    )
