use Rattle.std.proofs.Common.{◌≡◌, ℕ, length, take}
use Rattle.linear.specs.Valuation.{valuation_of}
use Rattle.substitution.specs.Images.{after}
use Rattle.substitution.proofs.composition.with_images.Given as goal

abbrev pub invariant-loop-pair : goal.invariant-loop-pair
invariant-loop-pair l =
    (length l.values.items ≡ length l.assignment)
    × ((v : ℕ) → valuation_of l.values.items v ≡ after (valuation_of l.assignment) (take l.pair-index l.images) v)
