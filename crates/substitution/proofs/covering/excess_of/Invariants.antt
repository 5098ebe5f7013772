-- The excess of the terms so far.
use Rattle.std.proofs.Common.{◌≡◌, take}
use Rattle.substitution.proofs.Excess.{term_excess}
use Rattle.substitution.proofs.covering.excess_of.Given as goal

abbrev pub invariant-loop-index : goal.invariant-loop-index
invariant-loop-index l = l.excess ≡ term_excess (take l.index l.constraint.terms) l.other
