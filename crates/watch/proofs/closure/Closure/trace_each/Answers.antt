use Rattle.watch.proofs.closure.Closure.trace_each.Goals as goal

pub invariant_of-self : goal.invariant_of-self
invariant_of-self c = (c.attach_to.ensures.kept c.self.inside.levels c.self.invariant.0, c.attach_to.ensures.rest c.self.inside.rest c.self.invariant.1)
