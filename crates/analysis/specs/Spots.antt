-- Where a variable stands on a trail. The private function that looks variables up speaks of this.
use Rattle.std.specs.Prelude.{ℕ, Bool, false, not, ◌&&◌, Option, None, Some, nat_lt}
use Rattle.normal_form.specs.Normal.{same_sign}
use Rattle.analysis.specs.declared.spot.Spot.{Spot}

-- whether a variable that stands here makes the literal of this sign true at a level
abbrev pub makes_true : Option Spot → Bool → ℕ → Bool
makes_true None negated level = false
makes_true (Some spot) negated level = same_sign spot.negated negated && not (nat_lt level spot.level)
