-- Merging signed terms: of each set of variables, what the merged terms' plain literals add up to less what the
-- negated ones do is the net coefficient of the set. What merges, and what puts terms of net coefficients together,
-- speaks of this.
use Rattle.std.specs.Prelude.{◌≡◌, ℕ, zero, suc, Bool, true, false, not, ℤ, pos, negsuc, ◌+ℤ◌, neg_ℤ, List, [], ◌∷◌, map, if◌then◌else◌}
use Rattle.linear.specs.declared.term.Term.{Term}
use Rattle.normal_form.specs.declared.term.NormalTerm.{NormalTerm}
use Rattle.normal_form.specs.NormalOf.{slope}

-- the net coefficient of a set of variables
abbrev pub slopes : (ℕ → Bool) → List Term → ℤ
slopes set [] = pos 0
slopes set (t ∷ ts) = (if set (t.var.0) then slope t else pos 0) +ℤ slopes set ts

-- the term of a net coefficient, or none where that is 0
abbrev pub net_term : ℕ → ℤ → List NormalTerm
net_term v (pos zero) = []
net_term v (pos (suc n)) = (record { coef = suc n; var = record { 0 = v }; negated = false }) ∷ []
net_term v (negsuc n) = (record { coef = suc n; var = record { 0 = v }; negated = true }) ∷ []

-- what a merged term gives its variable
abbrev pub rise_of : NormalTerm → ℤ
rise_of t = if t.negated then neg_ℤ (pos t.coef) else pos t.coef

-- what merged terms give a set of variables
abbrev pub rises_of : (ℕ → Bool) → List NormalTerm → ℤ
rises_of set [] = pos 0
rises_of set (t ∷ ts) = (if set (t.var.0) then rise_of t else pos 0) +ℤ rises_of set ts

-- the merged terms give each set of variables its net coefficient
abbrev pub Balances : List Term → List NormalTerm → Type 0
Balances terms merged = (set : ℕ → Bool) → rises_of set merged ≡ slopes set terms

-- a term with the opposite literal
abbrev pub flipped_term : NormalTerm → NormalTerm
flipped_term t = record t { negated = not t.negated }

-- the same coefficients at the opposite literals
abbrev pub flipped : List NormalTerm → List NormalTerm
flipped = map flipped_term
