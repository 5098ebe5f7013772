use Rattle.std.proofs.Common.{◌≡◌, ◌++◌, take}
use Rattle.std.specs.List.{flat_map}
use Rattle.proof_write.specs.Writing.{spaced, number_words}
use Rattle.proof_write.proofs.writer.numbers.Given as goal

abbrev pub invariant-loop-next : goal.invariant-loop-next
invariant-loop-next l = l.out.items ≡ l.fn.out.items ++ spaced (flat_map number_words (take l.next-index l.numbers))
