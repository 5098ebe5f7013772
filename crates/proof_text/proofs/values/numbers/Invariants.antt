use Rattle.std.proofs.Common.{false, [], length}
use Rattle.proof_text.specs.NamesMet.{NamesMet}
use Rattle.proof_text.specs.Forms.{are_integers, integers_of}
use Rattle.proof_text.specs.PartsRead.{SoFar}
use Rattle.proof_text.proofs.values.numbers.Given as goal

-- no names are met
abbrev pub none : NamesMet
none = record { before = []; names = []; full = false }

abbrev pub invariant-loop-numbers : goal.invariant-loop-numbers
invariant-loop-numbers l = SoFar are_integers (λ names. integers_of) none l.fn.words l.numbers.items none l.words

abbrev pub decreases-loop-numbers : goal.decreases-loop-numbers
decreases-loop-numbers l = length l.words
