use Rattle.std.proofs.Common.{◌≡◌, map, take}
use Rattle.search.specs.Clause.{opposite_term}
use Rattle.search.proofs.clause.clause_of.Given as goal

abbrev pub invariant-loop-literal : goal.invariant-loop-literal
invariant-loop-literal l = l.terms.items ≡ map opposite_term (take l.literal-index l.literals)
