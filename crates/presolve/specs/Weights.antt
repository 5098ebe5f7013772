-- What a constraint asks of a variable, as a number: private functions speak of this.
use Rattle.std.specs.Prelude.{ℕ, ◌+◌, ◌*◌, ◌%◌, ◌==◌, max, Bool, List, [], ◌∷◌, if◌then◌else◌}
use Rattle.normal_form.specs.declared.term.NormalTerm.{NormalTerm}
use Rattle.presolve.specs.declared.form.Form.{Form}

-- a coefficient with its sign, above a degree, both cut off
abbrev pub weight : ℕ → Bool → ℕ → ℕ
weight coef negated degree = (2 * (coef % 2147483648) + (if negated then 1 else 0)) * 2147483648 + degree % 2147483648

-- that of a term in a constraint of this degree, if it is one of the variable
abbrev pub weight_at : ℕ → NormalTerm → ℕ → ℕ
weight_at degree t v = if t.var.0 == v then weight t.coef t.negated degree else 0

-- the greatest among terms
abbrev pub greatest_of : ℕ → List NormalTerm → ℕ → ℕ
greatest_of degree [] v = 0
greatest_of degree (t ∷ ts) v = max (weight_at degree t v) (greatest_of degree ts v)

-- the greatest among keys
abbrev pub greatest : List Form → ℕ → ℕ
greatest [] v = 0
greatest (k ∷ ks) v = max (greatest_of k.degree k.terms.items v) (greatest ks v)
