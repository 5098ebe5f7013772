use Rattle.std.proofs.Common.{◌≡◌, ◌++◌, take}
use Rattle.linear.proofs.constraints.put_all.Given as goal

-- the terms so far stand behind those that were there
abbrev pub invariant-loop-term : goal.invariant-loop-term
invariant-loop-term l = l.kept ≡ l.fn.kept ++ take l.term-index l.terms
