use Rattle.std.proofs.Common.{◌≡◌, map, length}
use Rattle.proof_text.specs.Forms.{repeats}
use Rattle.proof_text.proofs.witness.repeats.Given as goal

abbrev pub invariant-loop-rest : goal.invariant-loop-rest
invariant-loop-rest l = repeats (map (λ s. s.now) l.rest) ≡ repeats (map (λ s. s.now) l.words)

abbrev pub decreases-loop-rest : goal.decreases-loop-rest
decreases-loop-rest l = length l.rest
