-- Whole multipliers.
use Rattle.std.specs.Prelude.{◌<◌, ◌≤◌, ◌^◌}
use Rattle.relaxation.specs.declared.multipliers.WholeMultiplier.{WholeMultiplier}

-- a factor is above 0, and of at most 52 bits and a bit
abbrev pub IsWhole : WholeMultiplier → Type 0
IsWhole m = (0 < m.factor) × (m.factor ≤ 2 ^ 52)
