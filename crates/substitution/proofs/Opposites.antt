-- The opposite of a coefficient of an objective is within the machine's numbers.
use Rattle.std.proofs.Common.{◌≡◌, ◌≤◌, to_z, of_z, arith}
use Rattle.std.specs.Prelude.{ℤ, pos, neg_ℤ, ◌-ℤ◌, unsigned_abs}
use Rattle.std.proofs.lemmas.Int.{ints}
use mir.Syntax.{w128}
use Rattle.linear.specs.Largest.{largest_objective}

pub opposite_kept : (z : ℤ) → unsigned_abs z ≤ largest_objective → to_z w128 (of_z w128 (pos 0 -ℤ to_z w128 (of_z w128 z))) ≡ neg_ℤ z
opposite_kept z h =
    let inner : to_z w128 (of_z w128 z) ≡ z = omega (arith, ints, h) in
    rw inner (omega (arith, ints, h))
