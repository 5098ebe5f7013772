-- A literal that is open outlasts all, and of two that fell the one that fell later.
use Rattle.std.proofs.Common.{◌≡◌, ◌∙◌, true, ap, sym, arith}
use Rattle.std.proofs.lemmas.Bool.Decides.{nat_tests}
use Rattle.propagate.specs.Literals.{lists}
use Rattle.linear.specs.Literal.{opposite}
use Rattle.ledger.proofs.Latest.{later_outlasts, only_at_first, open_outlasts}
use Rattle.ledger.proofs.choosing.outlasts.Goals as goal

pub returns-then-not-has_propagated-clause-yes : goal.returns-then-not-has_propagated-clause-yes
returns-then-not-has_propagated-clause-yes c _ =
    open_outlasts c.args.trail.now.0 c.args.literal c.args.other (ap (lists c.args.trail.now.0) (sym c.opposite.ensures) ∙ sym c.has_propagated.ensures ∙ c.if-not-has_propagated.true)

pub returns-then-not-has_propagated-2-clause-no : goal.returns-then-not-has_propagated-2-clause-no
returns-then-not-has_propagated-2-clause-no c _ =
    open_outlasts c.args.trail.now.0 c.args.other c.args.literal (ap (lists c.args.trail.now.0) (sym c.opposite-2.ensures) ∙ sym c.has_propagated-2.ensures ∙ c.if-not-has_propagated-2.true)

pub returns-clause-yes : goal.returns-clause-yes
returns-clause-yes c holds =
    let t = c.args.trail.now in
    let fell : lists t.0 (opposite c.args.other) ≡ true = ap (lists t.0) (sym c.opposite-2.ensures) ∙ sym c.has_propagated-2.ensures ∙ c.if-not-has_propagated-2.false in
    later_outlasts t.0 c.args.literal c.args.other c.position-2.result c.position.result
    (only_at_first t.0 t.2 (c.args.literal.var.0) c.position-2.result c.position-2.ensures) (only_at_first t.0 t.2 (c.args.other.var.0) c.position.result c.position.ensures) fell (grind (arith, nat_tests, holds))

pub returns-clause-no : goal.returns-clause-no
returns-clause-no c later =
    let t = c.args.trail.now in
    let fell : lists t.0 (opposite c.args.literal) ≡ true = ap (lists t.0) (sym c.opposite.ensures) ∙ sym c.has_propagated.ensures ∙ c.if-not-has_propagated.false in
    later_outlasts t.0 c.args.other c.args.literal c.position.result c.position-2.result
    (only_at_first t.0 t.2 (c.args.other.var.0) c.position.result c.position.ensures) (only_at_first t.0 t.2 (c.args.literal.var.0) c.position-2.result c.position-2.ensures) fell (grind (arith, nat_tests, later))
