use Rattle.analysis.proofs.resolvent.Resolvent.give_up.Goals as goal

pub returns-clause-derived : goal.returns-clause-derived
returns-clause-derived c given p = c.in_ok-add.ensures.derived given p (c.in_ok-several.ensures given (c.in_ok-axiom.ensures given))
