use Rattle.analysis.proofs.walk.add_reason.Goals as goal

pub returns-clause-derived : goal.returns-clause-derived
returns-clause-derived c given p is = c.in_ok-add.ensures.derived given p (c.in_ok-cancelling.ensures given (c.in_ok-even.ensures.derived given (c.in_ok-cited.ensures.derived given is)))
