-- Codes of constraints, by which a proof tells maps of them apart.
use Rattle.std.specs.Prelude.{ℕ, Bool, List, refl}
use Rattle.std.specs.Coded.{Coded, code_by, coded×, coded_ℕ, coded_bool, coded_list}
use Rattle.normal_form.specs.declared.term.NormalTerm.{NormalTerm}
use Rattle.normal_form.specs.Normal.{NormalConstraint}

-- a term as the numbers of its fields
abbrev pub term_code : Coded NormalTerm
term_code =
    code_by (ℕ × (ℕ × Bool)) (coded× coded_ℕ (coded× coded_ℕ coded_bool))
    (λ t. (t.coef, (t.var.0, t.negated))) (λ p. record { coef = p.0; var = record { 0 = p.1.0 }; negated = p.1.1 }) (λ _. refl)

-- a constraint as its terms and its degree
abbrev pub constraint_code : Coded NormalConstraint
constraint_code =
    code_by (List NormalTerm × ℕ) (coded× (coded_list term_code) coded_ℕ)
    (λ n. (n.terms, n.degree)) (λ p. record { terms = p.0; degree = p.1 }) (λ _. refl)
