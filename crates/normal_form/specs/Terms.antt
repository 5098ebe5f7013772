-- Terms as they are kept, and a term with another coefficient.
use Rattle.std.specs.Prelude.{ℕ, zero, suc, ◌+◌, ◌*◌, ◌/◌, ◌%◌, ◌^◌, ◌==◌, List, [], ◌∷◌}
use Rattle.normal_form.specs.declared.term.NormalTerm.{NormalTerm}
use Rattle.normal_form.specs.declared.terms.PackedTerm.{PackedTerm}
use Rattle.normal_form.specs.declared.wide_term.WideTerm.{WideTerm}

-- what is packed is twice the coefficient, and one more where the literal is negated
abbrev pub unpacked : PackedTerm → NormalTerm
unpacked t = record { coef = t.packed / 2; var = t.var; negated = t.packed % 2 == 1 }

-- the coefficient stands in two halves
abbrev pub widened : WideTerm → NormalTerm
widened t = record { coef = t.high * 2 ^ 64 + t.low; var = t.var; negated = t.negated }

-- the terms, that at a place with another coefficient
abbrev pub with_coefficient : List NormalTerm → ℕ → ℕ → List NormalTerm
with_coefficient [] place c = []
with_coefficient (t ∷ ts) zero c = (record t { coef = c }) ∷ ts
with_coefficient (t ∷ ts) (suc place) c = t ∷ with_coefficient ts place c
