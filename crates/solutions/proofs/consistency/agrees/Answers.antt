use Rattle.std.proofs.Common.{◌≡◌, ◌↔◌, ◌≤◌, true, IsTrue, length, arith}
use Rattle.std.proofs.lemmas.Result.{IfOk-weaker}
use Rattle.linear.specs.Literal.{opposite}
use Rattle.propagate.specs.Literals.{lists}
use Rattle.solutions.specs.Table.{Agrees}
use Rattle.solutions.proofs.Consistent.{sides_below, beyond_agrees}
use Rattle.solutions.proofs.consistency.agrees.Goals as goal

pub returns-then-place-table-clause-sides : goal.returns-then-place-table-clause-sides
returns-then-place-table-clause-sides c = λ before sides.
    sides_below before c.args.literal (length c.args.table.now) c.args.beyond.now.plain c.args.beyond.now.negated c.if-place-table.true sides

pub returns-clause-agrees : goal.returns-clause-agrees
returns-clause-agrees c = λ before sides.
    let table = c.args.table.now in
    let l = c.args.literal in
    let outside : length table ≤ l.var.0 = omega (arith, c.if-place-table.false) in
    IfOk-weaker c.note.result (λ apart. IsTrue apart ↔ (lists before (opposite l) ≡ true → ⊥)) (λ yes. IsTrue yes ↔ Agrees table before (l.var.0) l.negated)
    (λ yes h. beyond_agrees table before l yes outside h)
    (c.note.ensures.apart before (length table) outside sides)
