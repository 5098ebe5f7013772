-- Of the code, not of the format: the lines that a reader stands for.
use Rattle.std.specs.Prelude.{◌+◌}
use Rattle.proof_lines.specs.Lines.{Numbered, Pending, counting_from, breaks}
use Rattle.proof_lines.specs.declared.numbered_lines.NumberedLine.{NumberedLine}
use Rattle.proof_lines.specs.declared.numbered_lines.LineCursor.{LineCursor}

-- a line of the code as a numbered line
abbrev pub numbered_of : NumberedLine → Numbered
numbered_of l = record { number = l.number; text = l.text.now }

-- what is still to come from a cursor on
abbrev pub pending : LineCursor → Pending
pending c = record { lines = counting_from c.number c.rest.now; last = c.number + breaks c.rest.now }
