use Rattle.branching.proofs.heap.Heap.rise.Given as goal

abbrev pub decreases-loop-place : goal.decreases-loop-place
decreases-loop-place l = l.place
