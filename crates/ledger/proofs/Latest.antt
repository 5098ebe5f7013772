-- Which of two literals stays open longer, and what two that stay open longest tell.
use Rattle.std.proofs.Common.{◌≡◌, ℕ, ◌+◌, ◌<◌, ◌≤◌, inl, inr, Bool, true, false, List, ◌++◌, length, get_or, take, refl, ap, sym, subst, ◌∙◌, length-append, arith}
use Rattle.std.proofs.lemmas.Bool.{cases_lt, false≢true}
use Rattle.std.proofs.lemmas.List.{get_or_append_left}
use Rattle.linear.specs.declared.term.Lit.{Lit}
use Rattle.normal_form.specs.declared.term.NormalTerm.{NormalTerm}
use Rattle.normal_form.specs.Normal.{NormalConstraint, Rises}
use Rattle.linear.specs.Literal.{opposite}
use Rattle.propagate.specs.Literals.{lists}
use Rattle.propagate.specs.Passes.{literal_of}
use Rattle.ledger.specs.declared.pair.Pair.{Pair}
use Rattle.ledger.specs.Watched.{IsOpen, Outlasts, OutlastsTerm, Tell}
use Rattle.trail.proofs.AssignedLiterals.{listed_before, not_before, not_listed_before}
use Rattle.ledger.proofs.ChosenLiterals.{others_false, variables_rise}

-- where the literal of a variable stands
abbrev pub StandsOnlyAt : List Lit → ℕ → ℕ → Type 0
StandsOnlyAt xs variable place = (k : ℕ) (d : Lit) → k < length xs → (get_or xs k d).var.0 ≡ variable → k ≡ place

-- the same among the first ones
pub only_at_first : (xs ys : List Lit) (variable place : ℕ) → StandsOnlyAt (xs ++ ys) variable place → StandsOnlyAt xs variable place
only_at_first xs ys variable place h k d low e = h k d (omega (arith, low, length-append xs ys)) (ap (λ (l : Lit). l.var.0) (get_or_append_left xs ys d k low) ∙ e)

pub open_outlasts : (assigned : List Lit) (l other : Lit) → lists assigned (opposite l) ≡ false → Outlasts assigned l other
open_outlasts assigned l other unset h o = not_before assigned h (opposite l) unset

pub later_outlasts : (assigned : List Lit) (l other : Lit) (at at_other : ℕ) → StandsOnlyAt assigned (l.var.0) at → StandsOnlyAt assigned (other.var.0) at_other → lists assigned (opposite other) ≡ true → at_other ≤ at → Outlasts assigned l other
later_outlasts assigned l other at at_other its others fell later h o = elim (cases_lt at_other h) [
  | inl low ↦ absurd (false≢true (sym o ∙ listed_before assigned h at_other (opposite other) others fell low))
  | inr high ↦ not_listed_before assigned h at (opposite l) its (omega (arith, high, later)) (lists (take h assigned) (opposite l)) refl
]

-- one term more
pub latest_more : (assigned : List Lit) (ts : List NormalTerm) (excluded before latest index : ℕ) → OutlastsTerm assigned ts latest before → OutlastsTerm assigned ts latest index
    → ((k : ℕ) → k < index → (k ≡ excluded → ⊥) → OutlastsTerm assigned ts before k) → (k : ℕ) → k < index + 1 → (k ≡ excluded → ⊥) → OutlastsTerm assigned ts latest k
latest_more assigned ts excluded before latest index one now all k low apart d h o = elim (cases_lt k index) [
  | inl below ↦ one d h (all k below apart d h o)
  | inr here ↦ now d h (subst (λ (j : ℕ). IsOpen (take h assigned) (literal_of (get_or ts j d))) (omega (arith, low, here)) o)
]

pub latest_same : (assigned : List Lit) (ts : List NormalTerm) (excluded latest index : ℕ) → index ≡ excluded → ((k : ℕ) → k < index → (k ≡ excluded → ⊥) → OutlastsTerm assigned ts latest k)
    → (k : ℕ) → k < index + 1 → (k ≡ excluded → ⊥) → OutlastsTerm assigned ts latest k
latest_same assigned ts excluded latest index e all k low apart = elim (cases_lt k index) [
  | inl below ↦ all k below apart
  | inr here ↦ absurd (apart (omega (arith, low, here, e)))
]

-- the two tell of the clause under each beginning
pub latest_tell : (assigned : List Lit) (n : NormalConstraint) (p : Pair) (first second : ℕ) → first < length n.terms → second < length n.terms
    → ((d : NormalTerm) → p.first ≡ literal_of (get_or n.terms first d)) → ((d : NormalTerm) → p.second ≡ literal_of (get_or n.terms second d))
    → ((k : ℕ) → k < length n.terms → OutlastsTerm assigned n.terms first k) → ((k : ℕ) → k < length n.terms → (k ≡ first → ⊥) → OutlastsTerm assigned n.terms second k)
    → (h : ℕ) → Tell (take h assigned) n p
latest_tell assigned n p first second there too one two most next h = by (lists (take h assigned) (opposite p.second)) refl
  where
    any : NormalTerm
    any = record { coef = 0; var = record { 0 = 0 }; negated = false }

    falls : (k : ℕ) (d : NormalTerm) → k < length n.terms → lists (take h assigned) (opposite p.second) ≡ true → (literal_of (get_or n.terms k d) ≡ p.first → ⊥) → (b : Bool) → lists (take h assigned) (opposite (literal_of (get_or n.terms k d))) ≡ b → lists (take h assigned) (opposite (literal_of (get_or n.terms k d))) ≡ true
    falls k d low fell apart true e = e
    falls k d low fell apart false e =
        let still = next k low (λ same. apart (ap (λ (j : ℕ). literal_of (get_or n.terms j d)) same ∙ sym (one d))) d h e in
        absurd (false≢true (sym still ∙ ap (λ (l : Lit). lists (take h assigned) (opposite l)) (sym (two d)) ∙ fell))

    by : (b : Bool) → lists (take h assigned) (opposite p.second) ≡ b → Tell (take h assigned) n p
    by true fell = inr (inr (others_false (take h assigned) p n (λ k d low a b. falls k d low fell a (lists (take h assigned) (opposite (literal_of (get_or n.terms k d)))) refl)))
    by false unset =
        let second_open : IsOpen (take h assigned) (literal_of (get_or n.terms second any)) = subst (IsOpen (take h assigned)) (two any) unset in
        inl (subst (IsOpen (take h assigned)) (sym (one any)) (most second too any h second_open), unset)

-- two terms have two literals
pub terms_differ : (ts : List NormalTerm) (i j : ℕ) (d e : NormalTerm) → Rises 0 ts → (i ≡ j → ⊥) → i < length ts → j < length ts → literal_of (get_or ts i d) ≡ literal_of (get_or ts j e) → ⊥
terms_differ ts i j d e rises apart low high same =
    let variables = ap (λ (l : Lit). l.var.0) same in
    elim (cases_lt i j) [
      | inl before ↦ omega (arith, variables_rise 0 ts i j d e rises before high, variables)
      | inr behind ↦ omega (arith, variables_rise 0 ts j i e d rises (omega (arith, behind, apart)) low, variables)
    ]
