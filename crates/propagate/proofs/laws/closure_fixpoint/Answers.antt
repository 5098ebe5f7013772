-- The assignment in which the slow search ends is a fixpoint, and has the same literals.
use Rattle.propagate.proofs.Closure as closure
use Rattle.propagate.proofs.laws.closure_fixpoint.Goals as goal

pub returns : goal.returns
returns _ ns given closed f none = closure.closure_fixpoint ns given closed f none
