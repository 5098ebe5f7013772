-- An id without a place changes nothing.
use Rattle.std.proofs.Common.{◌∙◌, ℕ, List, ap, arith, inr}
use Rattle.places.specs.Placed.{entries_from}
use Rattle.places.proofs.Placed.{one_more}
use Rattle.places.proofs.row.make_room.Goals as goal

pub loop-numbers-preserved : goal.loop-numbers-preserved
loop-numbers-preserved c = (
  λ first. ap (λ (ns : List ℕ). entries_from first ns) c.in_ok-push.ensures.items ∙ one_more first c.loop-numbers.numbers.items ∙ c.loop-numbers.invariant.0 first,
  inr (omega (arith, c.in_ok-push.ensures.len, c.loop-numbers-test.true, c.len.ensures)),
)
