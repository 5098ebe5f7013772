-- A term with another coefficient: the variables still rise, the sum changes by the difference, and in the kept form one term is
-- written.
use Rattle.std.proofs.Common.{◌≡◌, ℕ, zero, suc, ◌+◌, ◌<◌, List, [], ◌∷◌, ◌++◌, length, get_or, set, map, refl, ap, ◌∙◌, arith}
use Rattle.normal_form.specs.declared.term.NormalTerm.{NormalTerm}
use Rattle.normal_form.specs.Normal.{total, Rises}
use Rattle.normal_form.specs.Terms.{with_coefficient}

pub with_rises : (low : ℕ) (ts : List NormalTerm) (i c : ℕ) → Rises low ts → 0 < c → Rises low (with_coefficient ts i c)
with_rises low [] i c r p = tt
with_rises low (t ∷ ts) zero c r p = (r.0, p, r.2)
with_rises low (t ∷ ts) (suc i) c r p = (r.0, r.1, with_rises (t.var.0 + 1) ts i c r.2 p)

pub with_total : (ts : List NormalTerm) (i c : ℕ) (d : NormalTerm) → i < length ts → total (with_coefficient ts i c) + (get_or ts i d).coef ≡ total ts + c
with_total [] i c d h = absurd (omega (arith, h))
with_total (t ∷ ts) zero c d h = omega arith
with_total (t ∷ ts) (suc i) c d h = omega (arith, with_total ts i c d (omega (arith, h)))

-- one term is written of those that are made one by one of what is kept
module _ {X : Type 0} (f : X → NormalTerm) where
  pub with_made : (xs : List X) (i c : ℕ) (x y : X) → i < length xs → x ≡ get_or xs i x → f y ≡ record (f x) { coef = c } → map f (set xs i y) ≡ with_coefficient (map f xs) i c
  with_made [] i c x y h e w = absurd (omega (arith, h))
  with_made (z ∷ xs) zero c x y h e w = ap (λ t. t ∷ map f xs) (w ∙ ap (λ z. record (f z) { coef = c }) e)
  with_made (z ∷ xs) (suc i) c x y h e w = ap (λ us. f z ∷ us) (with_made xs i c x y (omega (arith, h)) e w)

-- one term is written among the first ones, or behind them

pub with_before : (ts rest : List NormalTerm) (i c : ℕ) → i < length ts → with_coefficient ts i c ++ rest ≡ with_coefficient (ts ++ rest) i c
with_before [] rest i c h = absurd (omega (arith, h))
with_before (t ∷ ts) rest zero c h = refl
with_before (t ∷ ts) rest (suc i) c h = ap (λ us. t ∷ us) (with_before ts rest i c (omega (arith, h)))

pub with_behind : (ts rest : List NormalTerm) (i j c : ℕ) → i ≡ length ts + j → ts ++ with_coefficient rest j c ≡ with_coefficient (ts ++ rest) i c
with_behind [] rest i j c p =
    let at : j ≡ i = omega (arith, p) in
    ap (λ (n : ℕ). with_coefficient rest n c) at
with_behind (t ∷ ts) rest zero j c p = absurd (omega (arith, p))
with_behind (t ∷ ts) rest (suc i) j c p = ap (λ us. t ∷ us) (with_behind ts rest i j c (omega (arith, p)))
