use Rattle.std.proofs.Common.{◌≡◌, ◌≤◌, take, length}
use Rattle.substitution.proofs.Excess.{term_excess}
use Rattle.substitution.proofs.Pass.{IsAhead}
use Rattle.substitution.proofs.covering.covers_in_one_pass.Given as goal

abbrev pub invariant-loop-index : goal.invariant-loop-index
invariant-loop-index l =
    (l.excess ≡ term_excess (take l.index l.constraint.terms) l.other) × (l.excess ≤ l.allowed) × (l.place ≤ length l.other.terms)
    × IsAhead l.constraint.terms l.index l.place l.other.terms
