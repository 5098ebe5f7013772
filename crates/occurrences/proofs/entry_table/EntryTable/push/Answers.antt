-- The list of the number is changed, in the table where the entry fits.
use Rattle.std.proofs.Common.{Result, Ok, Err, OnErr, ◌≡◌, [], get_or, ap, ◌∙◌, arith}
use Rattle.std.proofs.lemmas.Result.{on_ok_weaker, on_err_weaker}
use Rattle.occurrences.specs.Rows.{joined}
use Rattle.occurrences.proofs.JoinedRows.{empty_row, joined_same, number_below, pushed_rest, pushed_small, still_few}
use Rattle.occurrences.proofs.entry_table.EntryTable.push.Goals as goal

pub push-requires : goal.push-requires
push-requires c = number_below c.self.inside.small c.self.inside.rest c.args.self.now c.args.number c.self.view_is c.requires

pub returns-in-Some-clause-ok : goal.returns-in-Some-clause-ok
returns-in-Some-clause-ok c =
    let e = c.self.inside in
    let none : get_or e.rest c.args.number [] ≡ [] = empty_row e.rest c.args.number c.row_or_none.result.now c.is_empty.result c.row_or_none.ensures c.is_empty.ensures c.if-is_empty.true in
    let low = number_below e.small e.rest c.args.self.now c.args.number c.self.view_is c.requires in
    on_ok_weaker c.push.result (λ f. ap (λ ss. joined ss e.rest) f ∙ pushed_small e.small e.rest c.args.self.now c.args.number c.in-Some.small c.args.entry c.self.view_is c.self.invariant low none c.in-Some.ensures) c.push.ensures.ok

pub returns-in_err-widen-clause-err : goal.returns-in_err-widen-clause-err
returns-in_err-widen-clause-err c =
    whatever c.from_residual.result (joined_same c.self.inside.small c.self.inside.rest c.widen.new.self c.widen.ensures.kept ∙ c.self.view_is)
  where
    whatever : {T E P : Type 0} (r : Result T E) → P → OnErr r P
    whatever (Ok x) h = tt
    whatever (Err e) h = h

pub push-requires-2 : goal.push-requires-2
push-requires-2 c =
    let low = number_below c.self.inside.small c.self.inside.rest c.args.self.now c.args.number c.self.view_is c.requires in
    omega (arith, low, c.in_ok-widen.ensures.ok, c.len.ensures)

pub returns-clause-ok : goal.returns-clause-ok
returns-clause-ok c =
    let e = c.self.inside in
    let low = number_below e.small e.rest c.args.self.now c.args.number c.self.view_is c.requires in
    let same = joined_same e.small e.rest c.widen.new.self c.widen.ensures.kept ∙ c.self.view_is in
    let few = still_few e.small e.rest c.widen.new.self c.len.result c.self.invariant c.len.ensures c.widen.ensures.most in
    on_ok_weaker c.push-2.result (λ f. ap (joined e.small) f ∙ pushed_rest e.small c.widen.new.self c.args.self.now c.args.number c.args.entry same few (omega (arith, low, c.in_ok-widen.ensures.ok, c.len.ensures))) c.push-2.ensures.ok

pub returns-clause-err : goal.returns-clause-err
returns-clause-err c =
    on_err_weaker c.push-2.result (λ f. ap (joined c.self.inside.small) f ∙ joined_same c.self.inside.small c.self.inside.rest c.widen.new.self c.widen.ensures.kept ∙ c.self.view_is) c.push-2.ensures.err
