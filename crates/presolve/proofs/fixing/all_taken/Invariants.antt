use Rattle.presolve.specs.Uses.{AreTakenBelow}
use Rattle.presolve.proofs.fixing.all_taken.Given as goal

-- the literals of the variables so far
abbrev pub invariant-loop-number : goal.invariant-loop-number
invariant-loop-number l = AreTakenBelow l.wanted l.number l.literals.items
