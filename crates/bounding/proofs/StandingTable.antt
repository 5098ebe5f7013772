-- A table of the literals that stand: one literal more.
use Rattle.std.proofs.Common.{◌≡◌, ℕ, ◌+◌, ◌*◌, ◌<◌, ◌≤◌, Bool, true, false, cond, List, [], ◌∷◌, ◌++◌, length, set, refl, ap, sym, ◌∙◌, inl, inr, arith}
use Rattle.std.proofs.lemmas.Bool.{cases_eq}
use Rattle.std.proofs.lemmas.Grind.{get_or-set_at}
use Rattle.std.proofs.lemmas.List.{get_or-set_other}
use Rattle.linear.specs.declared.term.Lit.{Lit}
use Rattle.linear.specs.Literal.{code}
use Rattle.propagate.specs.Literals.{lists}
use Rattle.propagate.proofs.Assignments.{among_cases, among_head, among_left, among_right}
use Rattle.propagate.proofs.Consistency.{at_literal, only_here}
use Rattle.bounding.specs.Standing.{AreJust}

-- two literals with one number are the same
same_bits : (v w : ℕ) (s t : Bool) → 2 * v + cond s 1 0 ≡ 2 * w + cond t 1 0 → (v ≡ w) × (s ≡ t)
same_bits v w true true e = (omega (arith, e), refl)
same_bits v w true false e = absurd (omega (arith, e))
same_bits v w false true e = absurd (omega (arith, e))
same_bits v w false false e = (omega (arith, e), refl)

-- the last literal is listed, by whatever name it goes
last_listed : (listed : List Lit) (x l : Lit) → code x ≡ code l → lists (listed ++ x ∷ []) l ≡ true
last_listed listed x l e =
    let same = same_bits (x.var.0) (l.var.0) x.negated l.negated e in
    among_right listed (x ∷ []) (l.var.0) l.negated (at_literal (x ∷ []) (x.var.0) (l.var.0) x.negated l.negated same.0 same.1 (among_head x []))

-- one that is listed at the end has the number of the last one
one_number : (x l : Lit) → lists (x ∷ []) l ≡ true → code x ≡ code l
one_number x l e =
    let same = only_here x (l.var.0) l.negated e in
    ap (λ (v : ℕ). 2 * v + cond x.negated 1 0) (sym same.0) ∙ ap {B = ℕ} (λ (s : Bool). 2 * l.var.0 + cond s 1 0) (sym same.1)

same_bool : (b d : Bool) → (b ≡ true → d ≡ true) → (d ≡ true → b ≡ true) → b ≡ d
same_bool true d to from = sym (to refl)
same_bool false true to from = from refl
same_bool false false to from = refl

-- another literal is listed where it was before
others_stay : (listed : List Lit) (x l : Lit) → (code x ≡ code l → ⊥) → lists listed l ≡ lists (listed ++ x ∷ []) l
others_stay listed x l other =
    same_bool (lists listed l) (lists (listed ++ x ∷ []) l) (among_left listed (x ∷ []) (l.var.0) l.negated)
    (λ e. elim (among_cases listed (x ∷ []) (l.var.0) l.negated e) [ inl before ↦ before | inr here ↦ absurd (other (one_number x l here)) ])

-- one literal more is listed, and noted
pub noted : (listed : List Lit) (stands : List Bool) (x : Lit) → code x < length stands → AreJust listed stands → AreJust (listed ++ x ∷ []) (set stands (code x) true)
noted listed stands x room h l =
    elim (cases_eq (code x) (code l)) [
      | inl same ↦ get_or-set_at stands (code x) (code l) true false (sym same) room ∙ sym (last_listed listed x l same)
      | inr other ↦ get_or-set_other stands (code x) (code l) true false (λ q. other (sym q)) ∙ h l ∙ others_stay listed x l other
    ]

at_most_one : (b : Bool) → cond b 1 0 ≤ 1
at_most_one true = omega arith
at_most_one false = omega arith

pub code_below : (l : Lit) (count : ℕ) → l.var.0 < count → code l < count * 2
code_below l count h = omega (arith, h, at_most_one l.negated)
