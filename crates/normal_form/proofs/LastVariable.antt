-- The greatest variable of a constraint is that of its last term.
use Rattle.std.proofs.Common.{◌≡◌, ℕ, ◌+◌, ◌<◌, max, List, [], ◌∷◌, length, get_or, take, refl, ap, ◌∙◌, arith}
use Rattle.std.proofs.lemmas.List.{take_more, take_all}
use Rattle.normal_form.specs.declared.term.NormalTerm.{NormalTerm}
use Rattle.normal_form.specs.Normal.{Rises, variable_bound}
use Rattle.normal_form.proofs.Sums.{bound_push, bound_take}

pub last_bound : (ts : List NormalTerm) (i : ℕ) (t : NormalTerm) → Rises 0 ts → i + 1 ≡ length ts → t ≡ get_or ts i t → t.var.0 + 1 ≡ variable_bound ts
last_bound ts i t r e is =
    let h : i < length ts = omega (arith, e) in
    let whole : variable_bound (take (i + 1) ts) ≡ variable_bound ts = ap variable_bound (take_all (i + 1) ts (omega (arith, e))) in
    let split : variable_bound (take (i + 1) ts) ≡ max (variable_bound (take i ts)) ((get_or ts i t).var.0 + 1) = ap variable_bound (take_more ts i t h) ∙ bound_push (take i ts) (get_or ts i t) in
    let same : t.var.0 ≡ (get_or ts i t).var.0 = ap (λ (u : NormalTerm). u.var.0) is in
    omega (arith, whole, split, same, bound_take 0 ts i t r h)

pub no_terms : (ts : List NormalTerm) → length ts ≡ 0 → 0 ≡ variable_bound ts
no_terms [] h = refl
no_terms (t ∷ ts) h = absurd (omega (arith, h))
