use Rattle.cuts.proofs.gomory.add_axiom.Goals as goal

pub returns : goal.returns
returns c given before = c.add.ensures given (c.in_ok-multiply.ensures given (c.in_ok-axiom.ensures given before))
