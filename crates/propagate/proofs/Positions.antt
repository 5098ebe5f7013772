-- Where the literals of an assignment stand.
use Rattle.std.proofs.Common.{◌≡◌, ℕ, zero, suc, ◌<◌, inl, inr, Bool, true, false, not, List, [], ◌∷◌, ◌++◌, length, get_or, set, ap, sym, ◌∙◌, length-append, arith}
use Rattle.std.proofs.lemmas.Bool.{false≢true, cases_eq}
use Rattle.std.proofs.lemmas.List.{get_or-set_same, get_or-set_other, get_or_append_left, get_or_push}
use Rattle.linear.specs.declared.term.Lit.{Lit}
use Rattle.propagate.specs.Literals.{among, lists}
use Rattle.propagate.proofs.Assignments.{among_cases, among_head, among_tail}
use Rattle.propagate.proofs.Consistency.{only_here}
use Rattle.propagate.proofs.Occurrences.{same_literal}
use Rattle.propagate.specs.Trails.{ArePositions, IsFree}

-- the literal at a place is listed
pub listed_at : (xs : List Lit) (k : ℕ) (d : Lit) → k < length xs → lists xs (get_or xs k d) ≡ true
listed_at [] k d h = absurd (omega (arith, h))
listed_at (x ∷ xs) zero d h = among_head x xs
listed_at (x ∷ xs) (suc k) d h = among_tail x xs ((get_or xs k d).var.0) (get_or xs k d).negated (listed_at xs k d (omega (arith, h)))

-- a literal that is listed has a place
pub record StandsAt (xs : List Lit) (l : Lit) : Type 0 where
  pub index : ℕ
  pub low : index < length xs
  pub is : (d : Lit) → get_or xs index d ≡ l

pub stands_at : (xs : List Lit) (l : Lit) → lists xs l ≡ true → StandsAt xs l
stands_at [] l e = absurd (false≢true e)
stands_at (x ∷ xs) l e = elim (among_cases (x ∷ []) xs (l.var.0) l.negated e) [
  | inl here ↦
      let same = only_here x (l.var.0) l.negated here in
      record { index = 0; low = omega arith; is = λ d. same_literal x l (sym same.0) (sym same.1) }
  | inr rest ↦
      let r = stands_at xs l rest in
      record { index = suc r.index; low = omega (arith, r.low); is = r.is }
]

-- one literal more, and one fewer
same_variable : (assigned : List Lit) (v w : ℕ) (s b : Bool) → among assigned v s ≡ false → among assigned v (not s) ≡ false → among assigned w b ≡ true → w ≡ v → ⊥
same_variable assigned v w true true f g h e = false≢true (sym f ∙ ap (λ (u : ℕ). among assigned u true) (sym e) ∙ h)
same_variable assigned v w true false f g h e = false≢true (sym g ∙ ap (λ (u : ℕ). among assigned u false) (sym e) ∙ h)
same_variable assigned v w false true f g h e = false≢true (sym g ∙ ap (λ (u : ℕ). among assigned u true) (sym e) ∙ h)
same_variable assigned v w false false f g h e = false≢true (sym f ∙ ap (λ (u : ℕ). among assigned u false) (sym e) ∙ h)

pub positions_pushed : (assigned : List Lit) (positions : List ℕ) (l : Lit) → ArePositions assigned positions → l.var.0 < length positions → IsFree assigned l → ArePositions (assigned ++ l ∷ []) (set positions (l.var.0) (length assigned))
positions_pushed assigned positions l p low f k d h = elim (cases_eq k (length assigned)) [
  | inl e ↦
      ap (λ (m : Lit). get_or (set positions (l.var.0) (length assigned)) (m.var.0) 0) (get_or_push assigned l d k (sym e))
      ∙ get_or-set_same positions (l.var.0) (length assigned) 0 low ∙ sym e
  | inr other ↦
      let before : k < length assigned = omega (arith, h, other, length-append assigned (l ∷ [])) in
      let m : Lit = get_or assigned k d in
      let apart : m.var.0 ≡ l.var.0 → ⊥ = same_variable assigned (l.var.0) (m.var.0) l.negated m.negated f.0 f.1 (listed_at assigned k d before) in
      ap (λ (x : Lit). get_or (set positions (l.var.0) (length assigned)) (x.var.0) 0) (get_or_append_left assigned (l ∷ []) d k before)
      ∙ get_or-set_other positions (l.var.0) (m.var.0) (length assigned) 0 apart ∙ p k d before
]

pub positions_popped : (assigned : List Lit) (positions : List ℕ) (l : Lit) → ArePositions (assigned ++ l ∷ []) positions → ArePositions assigned positions
positions_popped assigned positions l p k d low =
    ap (λ (m : Lit). get_or positions (m.var.0) 0) (sym (get_or_append_left assigned (l ∷ []) d k low)) ∙ p k d (omega (arith, low, length-append assigned (l ∷ [])))
