use Rattle.solutions.proofs.Consistent.{sides_negated, sides_plain}
use Rattle.solutions.proofs.consistency.Beyond.note.Goals as goal

pub returns-in_ok-insert-clause-sides : goal.returns-in_ok-insert-clause-sides
returns-in_ok-insert-clause-sides c = λ before from sides.
    sides_negated before c.args.literal from c.args.self.now.plain c.args.self.now.negated c.insert.new.self c.if-literal.true c.in_ok-insert.ensures.ok sides

pub returns-in_ok-insert-2-clause-sides : goal.returns-in_ok-insert-2-clause-sides
returns-in_ok-insert-2-clause-sides c = λ before from sides.
    sides_plain before c.args.literal from c.args.self.now.plain c.args.self.now.negated c.insert-else-literal.new.self c.if-literal.false c.in_ok-insert-2.ensures.ok sides
