-- The places of a row that wait, one after another.
use Rattle.std.proofs.Common.{◌≡◌, ◌⊎◌, inl, inr, ℕ, ◌+◌, ◌<◌, Contains, Option, None, Some, List, length, get_or, ap, sym, subst, ◌∙◌, arith}
use Rattle.std.proofs.lemmas.Bool.{cases_lt}
use Rattle.std.proofs.lemmas.List.{get_or_default}
use Rattle.linear.specs.declared.term.Lit.{Lit}
use Rattle.ledger.specs.declared.pair.Pair.{Pair}
use Rattle.ledger.specs.Falls.{IsBeside}
use Rattle.ledger.specs.Watched.{IsOpen}

-- a place waits, or the literal beside this one is open
abbrev pub IsQueuedAt : List Lit → List (Option Pair) → Lit → List ℕ → ℕ → Type 0
IsQueuedAt assigned pairs l queue k = (p : Pair) → get_or pairs k None ≡ Some p → (other : Lit) → IsBeside (Some p) l other → IsOpen assigned other ⊎ Contains queue k

later_waits : (assigned : List Lit) (other : Lit) (q q' : List ℕ) (k : ℕ) → ((k : ℕ) → Contains q k → Contains q' k) → IsOpen assigned other ⊎ Contains q k → IsOpen assigned other ⊎ Contains q' k
later_waits assigned other q q' k kept (inl o) = inl o
later_waits assigned other q q' k kept (inr w) = inr (kept k w)

pub queued_next : (assigned : List Lit) (pairs : List (Option Pair)) (l : Lit) (q q' row : List ℕ) (index : ℕ) → ((i : ℕ) (p : Pair) → i < index → get_or pairs (get_or row i 0) None ≡ Some p → (other : Lit) → IsBeside (Some p) l other → IsOpen assigned other ⊎ Contains q (get_or row i 0))
    → ((k : ℕ) → Contains q k → Contains q' k) → IsQueuedAt assigned pairs l q' (get_or row index 0)
    → (i : ℕ) (p : Pair) → i < index + 1 → get_or pairs (get_or row i 0) None ≡ Some p → (other : Lit) → IsBeside (Some p) l other → IsOpen assigned other ⊎ Contains q' (get_or row i 0)
queued_next assigned pairs l q q' row index before kept now i p low at other b = elim (cases_lt i index) [
  | inl earlier ↦ later_waits assigned other q q' (get_or row i 0) kept (before i p earlier at other b)
  | inr late ↦
      let same : i ≡ index = omega (arith, low, late) in
      subst (IsQueuedAt assigned pairs l q') (ap (λ (j : ℕ). get_or row j 0) (sym same)) now p at other b
]

pub queued_all : (assigned : List Lit) (pairs : List (Option Pair)) (l : Lit) (q row : List ℕ) → ((i : ℕ) (p : Pair) → i < length row → get_or pairs (get_or row i 0) None ≡ Some p → (other : Lit) → IsBeside (Some p) l other → IsOpen assigned other ⊎ Contains q (get_or row i 0))
    → (k : ℕ) → Contains row k → IsQueuedAt assigned pairs l q k
queued_all assigned pairs l q row all k (i, low, is) p at other b =
    let here : get_or row i 0 ≡ k = get_or_default row i 0 k low ∙ is in
    subst (λ (x : ℕ). IsOpen assigned other ⊎ Contains q x) here (all i p low (ap (λ (x : ℕ). get_or pairs x None) here ∙ at) other b)
