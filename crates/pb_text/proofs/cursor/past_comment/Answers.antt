use Rattle.std.proofs.Common.{sym}
use Rattle.pb_text.specs.Cursor.{position_of}
use Rattle.pb_text.proofs.Comment.{comment_passed}
use Rattle.pb_text.proofs.cursor.past_comment.Goals as goal

pub returns-clause-same : goal.returns-clause-same
returns-clause-same c =
    rw (c.split_at.ensures.back, c.line_length-end.ensures.line) (sym (comment_passed (position_of c.args.c) c.args.c.rest.now c.requires))
