-- The loop over the places that wait.
use Rattle.std.proofs.Common.{◌≡◌, ℕ, zero, suc, ◌+◌, ◌-◌, ◌*◌, ◌<◌, ◌≤◌, ◌⊎◌, inl, inr, Contains, List, [], ◌∷◌, length, ap, subst, ◌∙◌, length-append, arith}
use Rattle.std.proofs.lemmas.List.{get_or_default}
use Rattle.std.proofs.lemmas.List.Elements.{All-from_get_or}
use Rattle.std.proofs.Math.Nat.{mul-le-mul_right}
use Rattle.linear.specs.declared.term.Lit.{Lit}
use Rattle.normal_form.specs.Normal.{NormalConstraint}
use Rattle.propagate.specs.Slack.{IsFalsified}
use Rattle.propagate.specs.Chain.{IsFixpoint}
use Rattle.propagate.specs.Walk.{IsQuiet, IsFalsifiedAt}
use Rattle.propagate.proofs.ReasonedChains.{fixpoint_from_quiet}
use Rattle.ledger.specs.Ledgers.{constraint_at, nothing}
use Rattle.watch.specs.Looking.{AreLookedAt, IsContinued}

pub progress_more : (n0 n1 n2 : ℕ) (w0 w1 w2 : List ℕ) → n0 ≤ n1 → n1 ≤ n2 → (w1 ≡ w0) ⊎ (n0 < n1) → (w2 ≡ w1) ⊎ (n1 < n2) → (w2 ≡ w0) ⊎ (n0 < n2)
progress_more n0 n1 n2 w0 w1 w2 a b (inl e) (inl f) = inl (f ∙ e)
progress_more n0 n1 n2 w0 w1 w2 a b (inl e) (inr f) = inr (omega (arith, a, f))
progress_more n0 n1 n2 w0 w1 w2 a b (inr e) f = inr (omega (arith, b, e))

pub longer : (ns : List NormalConstraint) (xs ys : List Lit) → IsContinued ns xs ys → length xs ≤ length ys
longer ns xs ys g = omega (arith, ap (length {A = Lit}) g.2, length-append xs g.0)

-- where nothing waits, all is propagated
pub fixpoint_when_empty : (ns : List NormalConstraint) (assigned : List Lit) (w : List ℕ) → w ≡ [] → AreLookedAt ns assigned w → IsFixpoint ns assigned
fixpoint_when_empty ns assigned w e looked =
    fixpoint_from_quiet ns assigned (All-from_get_or (IsQuiet assigned) ns nothing (λ k low. elim (looked k low) [
      | inl quiet ↦ quiet
      | inr waits ↦ absurd (omega (arith, waits.1, ap (length {A = ℕ}) e))
    ]))

pub falsified_there : (ns : List NormalConstraint) (assigned : List Lit) (place : ℕ) → place < length ns → IsFalsified assigned (constraint_at ns place) → IsFalsifiedAt ns assigned place
falsified_there ns assigned place low h = (constraint_at ns place, (low, get_or_default ns place (constraint_at ns place) nothing low), h)

-- fewer variables left, or as many and fewer places that wait
pub smaller : (v l l' c q q' : ℕ) → l < l' → l' ≤ v → q' ≤ c → (v - l') * (c + 1) + q' < (v - l) * (c + 1) + q
smaller v l l' c q q' a b d =
    let less : (v - l') + 1 ≤ v - l = omega (arith, a, b) in
    let times : ((v - l') + 1) * (c + 1) ≤ (v - l) * (c + 1) = mul-le-mul_right (c + 1) less in
    grind (arith, times, d)

taken_or_kept : (place : ℕ) (rest q : List ℕ) → ((k : ℕ) → Contains rest k → Contains q k) → Contains q place → (k : ℕ) → Contains (place ∷ rest) k → Contains q k
taken_or_kept place rest q kept here k (zero, low, e) = subst (λ (j : ℕ). Contains q j) e here
taken_or_kept place rest q kept here k (suc i, low, e) = kept k (i, omega (arith, low), e)

-- a place that was taken waits again
pub readded : (ns : List NormalConstraint) (assigned : List Lit) (place : ℕ) (before rest q : List ℕ) → before ≡ place ∷ rest → AreLookedAt ns assigned before → ((k : ℕ) → Contains rest k → Contains q k) → Contains q place → AreLookedAt ns assigned q
readded ns assigned place before rest q e looked kept here k low = elim (looked k low) [
  | inl quiet ↦ inl quiet
  | inr waits ↦ inr (taken_or_kept place rest q kept here k (subst (λ (xs : List ℕ). Contains xs k) e waits))
]
