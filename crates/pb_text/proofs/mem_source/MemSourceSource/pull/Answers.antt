use Rattle.std.proofs.Common.{length, drop}
use Rattle.pb_text.proofs.Portions.{gives_piece}
use Rattle.pb_text.proofs.mem_source.MemSourceSource.pull.Goals as goal

pub returns-clause-gives : goal.returns-clause-gives
returns-clause-gives c =
    let source = c.args.self.now in
    let e = c.in_ok-piece.ensures in
    let piece = c.in_ok-piece.piece.now in
    rw (e.given, e.text, e.ok)
    (gives_piece source.portion source.text.now piece c.copy_from_slice.new.self (drop (length piece) c.args.buffer.now) source.given (length c.args.buffer.now) source.failures source.inside e.piece c.copy_from_slice.ensures.after)
