-- The rules of cutting planes (Cook, Coullard and Turán) on normal constraints, as equations at each literal and
-- for the degree. `v` is a variable and `s` its sign (true for a negated literal), so `not s` names the opposite
-- literal. Numbers here have no bound; `-` stops at 0.
use Rattle.std.specs.Prelude.{◌≡◌, ℕ, ◌+◌, ◌-◌, ◌*◌, ◌≤◌, min, max, Bool, false, true, not, if◌then◌else◌, ◌==◌, ◌&&◌}
use Rattle.linear.specs.declared.term.Lit.{Lit}
use Rattle.normal_form.specs.Normal.{NormalConstraint, coefficient, variable_bound, sum_below, same_sign, Rises, Fits}

-- what two constraints together have at a literal
abbrev pub both_at : NormalConstraint → NormalConstraint → ℕ → Bool → ℕ
both_at d e v s = coefficient d v s + coefficient e v s

-- what opposite literals of a variable have in common, summed over all variables: it cancels, since x + ~x = 1
abbrev pub cancelled : NormalConstraint → NormalConstraint → ℕ
cancelled d e =
    sum_below (max (variable_bound d.terms) (variable_bound e.terms)) (λ v. min (both_at d e v false) (both_at d e v true))

-- addition: coefficients and degrees add, and what cancels goes from both literals and from the degree
pub record IsSum (d e r : NormalConstraint) : Type 0 where
  pub coefficients : (v : ℕ) (s : Bool) → coefficient r v s ≡ both_at d e v s - both_at d e v (not s)
  pub degree : r.degree ≡ (d.degree + e.degree) - cancelled d e
  pub rises : Rises 0 r.terms

-- multiplication by k
pub record IsMultiple (k : ℕ) (d r : NormalConstraint) : Type 0 where
  pub coefficients : (v : ℕ) (s : Bool) → coefficient r v s ≡ k * coefficient d v s
  pub degree : r.degree ≡ k * d.degree
  pub rises : Rises 0 r.terms

-- q is the least number with k * q at least n: n divided by k, rounded up
pub record IsCeiling (k n q : ℕ) : Type 0 where
  pub enough : n ≤ k * q
  pub least : (p : ℕ) → n ≤ k * p → q ≤ p

-- division by k, rounded up
pub record IsQuotient (k : ℕ) (d r : NormalConstraint) : Type 0 where
  pub coefficients : (v : ℕ) (s : Bool) → IsCeiling k (coefficient d v s) (coefficient r v s)
  pub degree : IsCeiling k d.degree r.degree
  pub rises : Rises 0 r.terms

-- saturation: no coefficient is above the degree
pub record IsSaturation (d r : NormalConstraint) : Type 0 where
  pub coefficients : (v : ℕ) (s : Bool) → coefficient r v s ≡ min (coefficient d v s) d.degree
  pub degree : r.degree ≡ d.degree
  pub rises : Rises 0 r.terms

-- weakening by the variable x: its literals go, and the degree falls by what they had
pub record IsWeakening (x : ℕ) (d r : NormalConstraint) : Type 0 where
  pub coefficients : (v : ℕ) (s : Bool) → coefficient r v s ≡ (if v == x then 0 else coefficient d v s)
  pub degree : r.degree ≡ (d.degree - coefficient d x false) - coefficient d x true
  pub rises : Rises 0 r.terms

-- the axiom of a literal: 1 l >= 0
pub record IsAxiom (l : Lit) (r : NormalConstraint) : Type 0 where
  pub coefficients : (v : ℕ) (s : Bool) → coefficient r v s ≡ (if (v == l.var.0) && same_sign s l.negated then 1 else 0)
  pub degree : r.degree ≡ 0
  pub rises : Rises 0 r.terms

-- what a rule gives is not within the limits
pub record IsTooLarge (Gives : NormalConstraint → Type 0) (r : NormalConstraint) : Type 0 where
  pub given : Gives r
  pub breaks : Fits r → ⊥
