-- The normal form of a signed constraint: it comes from the net coefficient of each variable, from
-- `x = 1 - ~x`, and from putting a degree below 0 to 0. Numbers here have no bound.
use Rattle.std.specs.Prelude.{◌≡◌, ℕ, ◌+◌, ◌<◌, ◌⊎◌, true, false, ℤ, pos, negsuc, ◌+ℤ◌, ◌-ℤ◌, neg_ℤ, unsigned_abs, List, [], ◌∷◌, map, ◌==◌, if◌then◌else◌}
use Rattle.linear.specs.declared.term.Term.{Term}
use Rattle.linear.specs.declared.constraint.Signed.{Signed}
use Rattle.normal_form.specs.Normal.{NormalConstraint, coefficient, sum_over, Rises, Fits, largest_sum}

-- max(0, z)
abbrev pub at_least_zero : ℤ → ℕ
at_least_zero (pos n) = n
at_least_zero (negsuc _) = 0

-- what a term gives its variable: the coefficient of `x`, less that of `~x`
abbrev pub slope : Term → ℤ
slope t = if t.negated then neg_ℤ t.coef else t.coef

-- the net coefficient of a variable: the coefficients of `x` less those of `~x`
abbrev pub net : List Term → ℕ → ℤ
net [] variable = pos 0
net (t ∷ ts) variable = (if t.var.0 == variable then slope t else pos 0) +ℤ net ts variable

-- the sum of the coefficients of all negated terms
abbrev pub negated_sum : List Term → ℤ
negated_sum [] = pos 0
negated_sum (t ∷ ts) = (if t.negated then t.coef else pos 0) +ℤ negated_sum ts

-- what the coefficients of the negated literals add up to: the sum over x of max(0, -net(x))
abbrev pub negated_total : NormalConstraint → ℕ
negated_total n = sum_over (λ _ negated. negated) n.terms

-- `n` is the normal form of `c` read as `>=`: max(0, net(x)) at x, max(0, -net(x)) at ~x, and the degree
-- max(0, r + sum of max(0, -net(x))), where r is the right side less the coefficients of all negated terms
pub record IsNormalOf (c : Signed) (n : NormalConstraint) : Type 0 where
  pub plain : (v : ℕ) → coefficient n v false ≡ at_least_zero (net c.terms v)
  pub negated : (v : ℕ) → coefficient n v true ≡ at_least_zero (neg_ℤ (net c.terms v))
  pub degree : n.degree ≡ at_least_zero ((c.right -ℤ negated_sum c.terms) +ℤ pos (negated_total n))
  pub rises : Rises 0 n.terms

-- a term with its sign changed
abbrev pub sign_changed : Term → Term
sign_changed t = record t { coef = neg_ℤ t.coef }

-- a constraint with all signs changed
abbrev pub signs_changed : Signed → Signed
signs_changed c = record c { terms = map sign_changed c.terms; right = neg_ℤ c.right }

-- the two normal forms of an equality: that of `>=`, then that of the same with all signs changed
pub record IsBothOf (c : Signed) (n m : NormalConstraint) : Type 0 where
  pub at_least : IsNormalOf c n
  pub at_most : IsNormalOf (signs_changed c) m

-- the sum of the sizes of the coefficients
abbrev pub size_sum : List Term → ℕ
size_sum [] = 0
size_sum (t ∷ ts) = unsigned_abs t.coef + size_sum ts

-- a normal form that is not within the limits
pub record IsFormTooLarge (c : Signed) (n : NormalConstraint) : Type 0 where
  pub form : IsNormalOf c n
  pub breaks : Fits n → ⊥

-- the coefficient sizes add up to more than the limit, or the normal form is not within the limits
abbrev pub IsTooLarge : Signed → Type 0
IsTooLarge c = (largest_sum < size_sum c.terms) ⊎ ((n : NormalConstraint) × IsFormTooLarge c n)
