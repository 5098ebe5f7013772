use Rattle.proof_lines.proofs.LinesBuffered.{first_broken, first_whole}
use Rattle.proof_lines.proofs.line_buffer.first_line.Goals as goal

pub returns-in-None : goal.returns-in-None
returns-in-None c = first_whole c.args.text.now c.args.known c.requires.inside c.requires.unbroken c.in-None.ensures

pub returns-in-Some : goal.returns-in-Some
returns-in-Some c = first_broken c.args.text.now c.args.known c.in-Some.more c.requires.inside c.requires.unbroken c.in-Some.ensures.0 c.in-Some.ensures.1
