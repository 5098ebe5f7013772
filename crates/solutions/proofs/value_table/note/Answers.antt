use Rattle.std.proofs.Common.{arith}
use Rattle.solutions.proofs.Tables.{noted_inside, noted_outside}
use Rattle.solutions.proofs.value_table.note.Goals as goal

pub returns-then-place-len-clause-noted : goal.returns-then-place-len-clause-noted
returns-then-place-len-clause-noted c = λ before h. noted_inside before c.args.table.now.items c.args.literal (omega (arith, c.if-place-len.true, c.len.ensures)) h

pub returns-else-place-len-clause-noted : goal.returns-else-place-len-clause-noted
returns-else-place-len-clause-noted c = λ before h. noted_outside before c.args.table.now.items c.args.literal (omega (arith, c.if-place-len.false, c.len.ensures)) h
