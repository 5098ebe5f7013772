-- One place more waits.
use Rattle.std.proofs.Common.{ℕ, Contains, inl, inr, subst, arith, ◌∙◌}
use Rattle.std.proofs.lemmas.Bool.{cases_lt}
use Rattle.watch.proofs.following.queue_from.Goals as goal

pub loop-place-preserved : goal.loop-place-preserved
loop-place-preserved c = record {
  count = c.add.ensures.count ∙ c.loop-place.invariant.count;
  queued = λ k since low. elim (cases_lt k c.loop-place.place) [
    | inl before ↦ c.add.ensures.kept k (c.loop-place.invariant.queued k since before)
    | inr here ↦ subst (λ (n : ℕ). Contains c.add.new.self.0 n) (omega (arith, low, here)) c.add.ensures.there
  ];
}
