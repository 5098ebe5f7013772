use Rattle.row_sums.proofs.sources.common_divisor.Given as goal

abbrev pub decreases-loop-smaller : goal.decreases-loop-smaller
decreases-loop-smaller l = l.smaller
