use Rattle.search.specs.Values.{NoneIsFree}
use Rattle.search.proofs.choice.first_free.Given as goal

-- none before it is free
abbrev pub invariant-loop-number : goal.invariant-loop-number
invariant-loop-number l = NoneIsFree l.values l.number
