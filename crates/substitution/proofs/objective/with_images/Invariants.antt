use Rattle.std.proofs.Common.{◌≡◌}
use Rattle.substitution.proofs.Difference.{difference_before, taken_before}
use Rattle.substitution.proofs.objective.with_images.Given as goal

abbrev pub invariant-loop-term : goal.invariant-loop-term
invariant-loop-term l =
    (l.partial.terms.items ≡ difference_before l.substitution l.objective l.term-index)
    × (l.partial.constant ≡ taken_before l.substitution l.objective l.term-index)
