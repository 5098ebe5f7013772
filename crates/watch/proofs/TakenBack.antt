-- One literal fewer that is true: what stays quiet, and what has to be looked at.
use Rattle.std.proofs.Common.{◌≡◌, ℕ, zero, suc, ◌<◌, ◌⊎◌, inl, inr, Bool, true, false, not, Contains, Option, None, Some, MatchOption, List, [], ◌∷◌, ◌++◌, ◌≤◌, ◌+◌, length, length-append, get_or, map, set, take, refl, ap, sym, subst, ◌∙◌, append-nil, arith}
use Rattle.std.proofs.Math.Seq.{take-append_seam}
use Rattle.trail.proofs.AssignedLiterals.{take_long}
use Rattle.std.proofs.lemmas.Bool.{false≢true, cases_eq}
use Rattle.std.proofs.lemmas.Int.{ints}
use Rattle.std.proofs.lemmas.List.{get_or-set_same, get_or-set_other, length-map, length-set}
use Rattle.linear.specs.declared.term.Lit.{Lit}
use Rattle.normal_form.specs.Normal.{NormalConstraint}
use Rattle.linear.specs.Literal.{opposite}
use Rattle.propagate.specs.Literals.{coefficient_of, lists}
use Rattle.propagate.specs.Slack.{IsForced}
use Rattle.propagate.specs.Walk.{IsQuiet}
use Rattle.propagate.proofs.Consistency.{only_here}
use Rattle.propagate.proofs.Assignments.{among_cases}
use Rattle.ledger.specs.Ledgers.{State, constraint_at, constraint_in, nothing, shown}
use Rattle.watch.specs.Looking.{AreLookedAt}
use Rattle.watch.specs.Roots.{AllForced, IsRoot}
use Rattle.ledger.proofs.Opening.{open_less}
use Rattle.ledger.proofs.Standing.{quiet_nothing, shown_at}
use Rattle.watch.proofs.Walking.{none_or_some}

same_coefficient : (n : NormalConstraint) (v w : ℕ) (s b : Bool) → v ≡ w → s ≡ b → coefficient_of n (record { var = record { 0 = v }; negated = s }) ≡ coefficient_of n (record { var = record { 0 = w }; negated = b })
same_coefficient n v w s b e f = cc

twice : (b : Bool) → not (not b) ≡ b
twice true = refl
twice false = refl

-- a literal that could be forced only where the last one is not there
forced_before : (xs : List Lit) (l m : Lit) (n : NormalConstraint) (b d : Bool) → lists xs l ≡ false → coefficient_of n l ≡ 0 → IsQuiet (xs ++ l ∷ []) n → IsForced xs m n → lists (xs ++ l ∷ []) m ≡ b → lists (xs ++ l ∷ []) (opposite m) ≡ d → ⊥
forced_before xs l m n true d unset absent q f e g = elim (among_cases xs (l ∷ []) (m.var.0) m.negated e) [
  | inl before ↦ false≢true (sym f.unset ∙ before)
  | inr here ↦
      let is = only_here l (m.var.0) m.negated here in
      omega (arith, f.occurs, absent, same_coefficient n (m.var.0) (l.var.0) m.negated l.negated is.0 is.1)
]
forced_before xs l m n false true unset absent q f e g = elim (among_cases xs (l ∷ []) (m.var.0) (not m.negated) g) [
  | inl before ↦ false≢true (sym f.opposite_unset ∙ before)
  | inr here ↦
      let is = only_here l (m.var.0) (not m.negated) here in
      let turned : m.negated ≡ not l.negated = sym (twice m.negated) ∙ ap not is.1 in
      q.0 (omega (arith, ints, f.above, open_less xs l n unset, same_coefficient n (m.var.0) (l.var.0) m.negated (not l.negated) is.0 turned))
]
forced_before xs l m n false false unset absent q f e g =
    q.1 m (record { unset = e; opposite_unset = g; occurs = f.occurs; above = omega (arith, ints, f.above, open_less xs l n unset) })

-- a constraint without a literal that is backtracked stays quiet
pub still_quiet_back : (xs : List Lit) (l : Lit) (n : NormalConstraint) → lists xs l ≡ false → coefficient_of n l ≡ 0 → IsQuiet (xs ++ l ∷ []) n → IsQuiet xs n
still_quiet_back xs l n unset absent q = (
  λ b. q.0 (omega (arith, ints, b, open_less xs l n unset)),
  λ m f. forced_before xs l m n (lists (xs ++ l ∷ []) m) (lists (xs ++ l ∷ []) (opposite m)) unset absent q f refl refl,
)

pub looked_back : (ns : List NormalConstraint) (longer xs : List Lit) (l : Lit) (q q' : List ℕ) → longer ≡ xs ++ l ∷ [] → lists xs l ≡ false
    → AreLookedAt ns longer q
    → ((k : ℕ) → Contains q k → Contains q' k)
    → ((k : ℕ) → 0 < coefficient_of (constraint_at ns k) l → IsQuiet xs (constraint_at ns k) ⊎ Contains q' k)
    → AreLookedAt ns xs q'
looked_back ns longer xs l q q' e unset all kept queued k low = elim (none_or_some (coefficient_of (constraint_at ns k) l)) [
  | inl z ↦ elim (all k low) [
    | inl quiet ↦ inl (still_quiet_back xs l (constraint_at ns k) unset z (subst (λ (ys : List Lit). IsQuiet ys (constraint_at ns k)) e quiet))
    | inr waits ↦ inr (kept k waits)
  ]
  | inr some ↦ queued k some
]

-- literals whose reasons are all there, and the first of them
some_take : (places : List ℕ) (k : ℕ) → take k (map Some places) ≡ map Some (take k places)
some_take [] zero = refl
some_take [] (suc k) = refl
some_take (p ∷ ps) zero = refl
some_take (p ∷ ps) (suc k) = ap (λ (rs : List (Option ℕ)). Some p ∷ rs) (some_take ps k)

pub forced_first : (rs new : List (Option ℕ)) (k : ℕ) → new ≡ take k rs → AllForced rs → AllForced new
forced_first rs new k e a = (take k a.0, e ∙ ap (λ (os : List (Option ℕ)). take k os) a.1 ∙ some_take a.0 k)

-- a constraint that was taken out is quiet, and the others are as they were
pub quiet_without : (slots : List (Option NormalConstraint)) (place : ℕ) (assigned : List Lit) (k : ℕ) → k < length slots → IsQuiet assigned (constraint_at (shown slots) k) → IsQuiet assigned (constraint_at (shown (set slots place None)) k)
quiet_without slots place assigned k many quiet = elim (cases_eq k place) [
  | inl e ↦
      let gone : get_or (set slots place None) k None ≡ None = ap (λ (j : ℕ). get_or (set slots place None) j None) e ∙ get_or-set_same slots place None None (omega (arith, e, many)) in
      let says : constraint_at (shown (set slots place None)) k ≡ nothing = shown_at (set slots place None) k ∙ ap constraint_in gone in
      subst (λ (n : NormalConstraint). IsQuiet assigned n) (sym says) (quiet_nothing assigned)
  | inr other ↦
      let same : constraint_at (shown (set slots place None)) k ≡ constraint_at (shown slots) k = shown_at (set slots place None) k ∙ ap constraint_in (get_or-set_other slots place k None None other) ∙ sym (shown_at slots k) in
      subst (λ (n : NormalConstraint). IsQuiet assigned n) (sym same) quiet
]

pub looked_without : (slots : List (Option NormalConstraint)) (place : ℕ) (assigned : List Lit) (w : List ℕ) → AreLookedAt (shown slots) assigned w → AreLookedAt (shown (set slots place None)) assigned w
looked_without slots place assigned w all k low =
    let many : k < length slots = omega (arith, low, length-map (set slots place None) constraint_in, length-set slots place None) in
    elim (all k (omega (arith, many, length-map slots constraint_in))) [
      | inl quiet ↦ inl (quiet_without slots place assigned k many quiet)
      | inr waits ↦ inr waits
    ]

pub root_without : (old new : State) (place : ℕ) (w : List ℕ) (count : ℕ) → new ≡ record old { slots = set old.slots place None } → IsRoot old w count → IsRoot new w count
root_without old new place w count e r =
    let out : IsRoot (record old { slots = set old.slots place None }) w count = record {
      places = r.places ∙ sym (length-set old.slots place None);
      looked_at = looked_without old.slots place old.propagated w r.looked_at;
      forced = r.forced;
    } in
    subst (λ (s : State). IsRoot s w count) (sym e) out

-- a literal that was not propagated goes, and all that was propagated stays
pub shorter : (r : Option Lit) (old new : List Lit) → MatchOption r ((old ≡ []) × (new ≡ [])) (λ l. old ≡ new ++ l ∷ []) → length old ≤ length new + 1
shorter None old new e = omega (arith, ap (length {A = Lit}) e.0)
shorter (Some l) old new e = omega (arith, ap (length {A = Lit}) e, length-append new (l ∷ []))

pub still_propagated : (p old new pending : List Lit) → old ≡ p ++ pending → (p ≡ old → ⊥) → length old ≤ length new + 1 → take (length new) p ≡ p
still_propagated p old new [] e some h = absurd (some (sym (append-nil p) ∙ sym e))
still_propagated p old new (x ∷ xs) e some h = take_long (length new) p (omega (arith, h, ap (length {A = Lit}) e, length-append p (x ∷ xs)))

-- where all was propagated, all that is left is
pub whole_back : (p old new after : List Lit) (l : Lit) → p ≡ old → old ≡ new ++ l ∷ [] → after ≡ take (length new) p → after ≡ new
whole_back p old new after l all e is = is ∙ ap (take (length new)) (all ∙ e) ∙ take-append_seam new (l ∷ [])
