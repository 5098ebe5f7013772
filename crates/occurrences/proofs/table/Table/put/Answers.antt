-- The list of the number is another one, or one behind the others.
use Rattle.std.proofs.Common.{arith}
use Rattle.occurrences.proofs.Rows.{IsWidenedTo, others_kept, others_pushed, pushed_there, put_there}
use Rattle.occurrences.proofs.table.Table.put.Goals as goal

pub returns-then-number-known-clause-others : goal.returns-then-number-known-clause-others
returns-then-number-known-clause-others g c = others_kept c.args.self.now c.replace.new.self c.args.number c.args.row.items c.replace.ensures

pub returns-then-number-known-clause-ok : goal.returns-then-number-known-clause-ok
returns-then-number-known-clause-ok g c = put_there c.args.self.now c.replace.new.self c.args.number c.args.row.items (omega (arith, c.if-number-known.true, c.len-known.ensures)) c.replace.ensures

pub returns-in_err-push_row-clause-others : goal.returns-in_err-push_row-clause-others
returns-in_err-push_row-clause-others g c k other = rw c.in_err-push_row.ensures.err (c.widen.ensures.kept k)

pub returns-clause-others : goal.returns-clause-others
returns-clause-others g c =
    let wide : IsWidenedTo c.args.self.now c.widen.new.self c.args.number = record {
      short = omega (arith, c.if-number-known.false, c.len-known.ensures);
      long = c.in_ok-widen.ensures.ok;
      most = c.widen.ensures.most;
      kept = c.widen.ensures.kept;
    } in
    others_pushed c.args.self.now c.widen.new.self c.push_row.new.self c.args.number c.args.row.items wide c.in_ok-push_row.ensures.ok

pub returns-clause-ok : goal.returns-clause-ok
returns-clause-ok g c =
    let wide : IsWidenedTo c.args.self.now c.widen.new.self c.args.number = record {
      short = omega (arith, c.if-number-known.false, c.len-known.ensures);
      long = c.in_ok-widen.ensures.ok;
      most = c.widen.ensures.most;
      kept = c.widen.ensures.kept;
    } in
    pushed_there c.args.self.now c.widen.new.self c.push_row.new.self c.args.number c.args.row.items wide c.in_ok-push_row.ensures.ok
