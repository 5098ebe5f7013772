use Rattle.std.proofs.Common.{◌≡◌, ◌++◌, take}
use Rattle.std.specs.List.{flat_map}
use Rattle.proof_write.specs.Writing.{spaced, pair_words}
use Rattle.proof_write.proofs.writer.pairs.Given as goal

abbrev pub invariant-loop-next : goal.invariant-loop-next
invariant-loop-next l = l.out.items ≡ l.fn.out.items ++ spaced (flat_map (pair_words l.names) (take l.next-index l.pairs))
