use Rattle.std.proofs.Common.{◌≡◌, ◌++◌, take}
use Rattle.std.specs.List.{flat_map}
use Rattle.proof_write.specs.Writing.{spaced, term_words}
use Rattle.proof_write.proofs.writer.terms.Given as goal

abbrev pub invariant-loop-next : goal.invariant-loop-next
invariant-loop-next l = l.out.items ≡ l.fn.out.items ++ spaced (flat_map (term_words l.names) (take l.next-index l.terms))
