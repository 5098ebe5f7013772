-- The term at the place is the only one that may have the variable.
use Rattle.std.proofs.Common.{arith}
use Rattle.substitution.proofs.Sought.{found_term, other_term}
use Rattle.substitution.proofs.lookup.term_of.Goals as goal

pub returns-then-term-variable : goal.returns-then-term-variable
returns-then-term-variable c =
    other_term c.args.constraint.now c.args.variable c.place_of-place.result c.term-term.result (omega arith) c.term-term.ensures.value c.place_of-place.ensures.ahead c.place_of-place.ensures.passed c.if-term-variable.true

pub returns : goal.returns
returns c =
    found_term c.args.constraint.now c.args.variable c.place_of-place.result c.term-term.result (omega arith) c.term-term.ensures.value c.len.ensures.normal.rises c.place_of-place.ensures.ahead c.place_of-place.ensures.passed
    c.if-term-variable.false
