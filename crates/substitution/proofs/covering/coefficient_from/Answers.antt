-- The term at the place is the only one that may have this literal.
use Rattle.std.proofs.Common.{inl, arith}
use Rattle.substitution.proofs.Pass.{read_other, read_opposite, read_own}
use Rattle.substitution.proofs.covering.coefficient_from.Goals as goal

pub returns-then-found-term : goal.returns-then-found-term
returns-then-found-term c = read_other c.args.constraint.now.terms c.args.place c.term-found.result (omega arith) c.term-found.ensures.value (c.args.term.var.0) c.args.term.negated c.requires (inl c.if-found-term.true)

pub returns-then-found-term-2 : goal.returns-then-found-term-2
returns-then-found-term-2 c = read_opposite c.args.constraint.now.terms c.args.place c.term-found.result (omega arith) c.term-found.ensures.value (c.args.term.var.0) c.args.term.negated c.requires c.if-found-term-2.true

pub returns : goal.returns
returns c = read_own c.args.constraint.now.terms c.args.place c.term-found.result (omega arith) c.term-found.ensures.value (c.args.term.var.0) c.args.term.negated c.requires c.if-found-term.false c.if-found-term-2.false
