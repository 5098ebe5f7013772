-- The negation of a normal constraint.
use Rattle.std.specs.Prelude.{◌≡◌, ℕ, ◌+◌, ◌-◌, Bool, not}
use Rattle.normal_form.specs.Normal.{NormalConstraint, coefficient, total, Rises}

-- `m` is the negation of `n`: N(~l) at each l, and the degree T - A + 1, or 0 where that is below 0 (T the
-- coefficient sum, A the degree; `-` stops at 0)
pub record IsNegation (n m : NormalConstraint) : Type 0 where
  pub coefficients : (v : ℕ) (s : Bool) → coefficient m v s ≡ coefficient n v (not s)
  pub degree : m.degree ≡ (total n.terms + 1) - n.degree
  pub rises : Rises 0 m.terms
