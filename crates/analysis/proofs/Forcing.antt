-- Terms looked at one after another, until one can force its literal.
use Rattle.std.proofs.Common.{◌≡◌, ℕ, zero, suc, ◌+◌, ◌<◌, List, [], ◌∷◌, length, get_or, refl, sym, ap, subst, ◌∙◌, inl, inr, arith}
use Rattle.std.proofs.lemmas.Bool.{cases_eq}
use Rattle.normal_form.specs.declared.term.NormalTerm.{NormalTerm}

same_at : (ts : List NormalTerm) (i : ℕ) (d e : NormalTerm) → i < length ts → get_or ts i d ≡ get_or ts i e
same_at [] i d e h = absurd (omega (arith, h))
same_at (t ∷ ts) zero d e h = refl
same_at (t ∷ ts) (suc i) d e h = same_at ts i d e (omega (arith, h))

-- a term that cannot, after others that cannot
pub none_more : (Can : NormalTerm → Type 0) (ts : List NormalTerm) (i : ℕ) (t : NormalTerm) → i < length ts → t ≡ get_or ts i t
    → ((k : ℕ) (d : NormalTerm) → k < i → Can (get_or ts k d) → ⊥) → (Can t → ⊥) → (k : ℕ) (d : NormalTerm) → k < i + 1 → Can (get_or ts k d) → ⊥
none_more Can ts i t h is before here k d low can = elim (cases_eq k i) [
  | inl e ↦ here (subst Can (ap (λ (x : ℕ). get_or ts x d) e ∙ same_at ts i d t h ∙ sym is) can)
  | inr other ↦ before k d (omega (arith, low, other)) can
]
