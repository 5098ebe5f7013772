-- Terms within the limits of a file have small sizes.
use Rattle.std.proofs.Common.{ℕ, ◌*◌, ◌≤◌, All, List, [], ◌∷◌, length, arith}
use Rattle.std.specs.Prelude.{unsigned_abs}
use Rattle.std.proofs.lemmas.List.Elements.{All-head, All-tail}
use Rattle.linear.specs.declared.term.Term.{Term}
use Rattle.linear.specs.Limits.{IsTermWithin, largest_integer}
use Rattle.normal_form.specs.NormalOf.{size_sum}

pub size_sum_small : (n : ℕ) (ts : List Term) → All (IsTermWithin n) ts → size_sum ts ≤ length ts * largest_integer
size_sum_small n [] h = omega arith
size_sum_small n (t ∷ ts) h =
    let here : unsigned_abs t.coef ≤ largest_integer = (All-head (IsTermWithin n) t ts h).coefficient in
    let rest = size_sum_small n ts (All-tail (IsTermWithin n) t ts h) in
    omega (arith, here, rest)
