-- The least number above all variables of an assignment, literal by literal.
use Rattle.std.proofs.Common.{◌≡◌, ℕ, ◌+◌, ◌<◌, max, All, List, length, get_or, take, refl, ap, ◌∙◌, arith}
use Rattle.std.proofs.lemmas.List.{take_more}
use Rattle.std.proofs.lemmas.List.Recursion.{max_push, max_bounds}
use Rattle.linear.specs.declared.term.Lit.{Lit}
use Rattle.propagate.specs.Literals.{literal_bound}

-- one literal more
pub bound_more : (ls : List Lit) (i : ℕ) (d : Lit) → i < length ls → literal_bound (take (i + 1) ls) ≡ max (literal_bound (take i ls)) ((get_or ls i d).var.0 + 1)
bound_more ls i d h =
    ap literal_bound (take_more ls i d h) ∙ max_push literal_bound (λ l. l.var.0 + 1) refl (λ _ _. refl) (take i ls) (get_or ls i d)

-- each variable is below
pub each_below : (ls : List Lit) (n : ℕ) → n ≡ literal_bound ls → All (λ l. l.var.0 < n) ls
each_below ls n e k d h = omega (arith, e, max_bounds literal_bound (λ l. l.var.0 + 1) refl (λ _ _. refl) ls k d h)
