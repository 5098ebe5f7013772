use Rattle.proof_lines.proofs.LinesBuffered.{finds}
use Rattle.proof_lines.proofs.line_buffer.LineBuffer.find.Goals as goal

pub returns-clause-finds : goal.returns-clause-finds
returns-clause-finds g c =
    let taken = c.take_line.ensures in
    finds c.take_line.result c.args.self.now c.complete.new.self c.take_line.new.self (g.S.Source.state c.args.source.now) (g.S.Source.state c.complete.new.source) c.in_ok-complete.ensures.fills c.in_ok-complete.ensures.ready taken.taken taken.none taken.same
