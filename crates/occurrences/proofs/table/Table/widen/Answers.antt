-- One empty list more.
use Rattle.std.proofs.Common.{[], ◌∷◌, inl, inr, List, length, length-append, ap, arith}
use Rattle.std.proofs.lemmas.List.{length-map}
use Rattle.occurrences.proofs.Rows.{Row, wider_more, wider_same, wide_itself}
use Rattle.occurrences.proofs.table.Table.widen.Goals as goal

pub loop-init : goal.loop-init
loop-init g c = record {
  count = omega (arith, c.len-counter.ensures, c.self.inside.rows.ok);
  wider = wide_itself c.args.self.now c.self.inside.rows.items c.self.view_is;
  most = inl (ap (length {A = List g.row.E.Denot}) c.self.view_is);
}

pub loop-preserved : goal.loop-preserved
loop-preserved g c = record {
  count = omega (arith, c.loop.invariant.count, ap (length {A = Row g.row.E.Denot}) c.in_ok-push.ensures.items, length-append c.loop.self-inside.rows.items (c.new.result ∷ []));
  wider = wider_more c.args.self.now c.loop.self-inside.rows.items c.push.new.self.items c.new.result c.loop.invariant.wider c.in_ok-push.ensures.items c.new.ensures.items;
  most = inr (omega (arith, c.loop-test.true, c.loop.invariant.count, ap (length {A = Row g.row.E.Denot}) c.in_ok-push.ensures.items, length-append c.loop.self-inside.rows.items (c.new.result ∷ []), length-map c.push.new.self.items (λ (v : Row g.row.E.Denot). v.items)));
}

pub returns-in_err-push-clause-kept : goal.returns-in_err-push-clause-kept
returns-in_err-push-clause-kept g c = (wider_same c.args.self.now c.loop.self-inside.rows.items c.push.new.self.items c.loop.invariant.wider c.in_err-push.ensures.items).kept

pub returns-in_err-push-clause-longer : goal.returns-in_err-push-clause-longer
returns-in_err-push-clause-longer g c = (wider_same c.args.self.now c.loop.self-inside.rows.items c.push.new.self.items c.loop.invariant.wider c.in_err-push.ensures.items).longer

pub returns-clause-kept : goal.returns-clause-kept
returns-clause-kept g c = c.loop.invariant.wider.kept

pub returns-clause-longer : goal.returns-clause-longer
returns-clause-longer g c = c.loop.invariant.wider.longer

pub returns-clause-ok : goal.returns-clause-ok
returns-clause-ok g c = omega (arith, c.loop-test.false, c.loop.invariant.count, length-map c.loop.self-inside.rows.items (λ (v : Row g.row.E.Denot). v.items))

pub returns-in_err-push-clause-most : goal.returns-in_err-push-clause-most
returns-in_err-push-clause-most g c = rw c.in_err-push.ensures.items c.loop.invariant.most
