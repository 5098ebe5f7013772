-- Two terms are the same where their coefficients, variables and signs are.
use Rattle.std.proofs.Common.{◌≡◌, ℕ, Bool, ap, ◌∙◌}
use Rattle.std.specs.Prelude.{ℤ}
use Rattle.linear.specs.declared.term.Term.{Term}

pub same_term : (c d : ℤ) (v w : ℕ) (m n : Bool) → c ≡ d → v ≡ w → m ≡ n
    → ◌≡◌ {A = Term} (record { coef = c; var = record { 0 = v }; negated = m }) (record { coef = d; var = record { 0 = w }; negated = n })
same_term c d v w m n ec ev en =
    ap (λ x. let t : Term = record { coef = x; var = record { 0 = v }; negated = m } in t) ec
    ∙ ap (λ x. let t : Term = record { coef = d; var = record { 0 = x }; negated = m } in t) ev
    ∙ ap (λ x. let t : Term = record { coef = d; var = record { 0 = w }; negated = x } in t) en
