-- Where all neighbours are in order, all are.
use Rattle.std.proofs.Common.{◌≡◌, ℕ, ◌+◌, ◌-◌, ◌<◌, ◌≤◌, List, length, get_or, pos, false, ap, sym, ◌∙◌, arith, inl, inr}
use Rattle.std.proofs.lemmas.Bool.{cases_lt}
use Rattle.std.proofs.lemmas.List.{get_or_default}
use Rattle.std.proofs.lemmas.List.Sorted.{IsNonDecreasingBy-from_all_adjacent}
use Rattle.linear.specs.declared.term.Term.{Term}
use Rattle.normal_form.proofs.merging.are_in_order.Goals as goal

-- the term that the code reads past the end
abbrev none : Term
none = record { coef = pos 0; var = record { 0 = 0 }; negated = false }

here : (ts : List Term) (i k : ℕ) (d : Term) → i < length ts → i ≡ k + 1 → (get_or ts (i - 1) none).var.0 ≤ (get_or ts i none).var.0 → (get_or ts k d).var.0 ≤ (get_or ts (k + 1) d).var.0
here ts i k d h e o =
    let first : k ≡ i - 1 = omega (arith, e) in
    let one : get_or ts (i - 1) none ≡ get_or ts k d = ap (λ (n : ℕ). get_or ts n none) (sym first) ∙ get_or_default ts k none d (omega (arith, h, e)) in
    let two : get_or ts i none ≡ get_or ts (k + 1) d = ap (λ (n : ℕ). get_or ts n none) e ∙ get_or_default ts (k + 1) none d (omega (arith, h, e)) in
    omega (arith, o, ap (λ (t : Term). t.var.0) one, ap (λ (t : Term). t.var.0) two)

-- one more pair
more : (ts : List Term) (i : ℕ) → i < length ts → ((k : ℕ) (d : Term) → k + 1 < i → (get_or ts k d).var.0 ≤ (get_or ts (k + 1) d).var.0) → (get_or ts (i - 1) none).var.0 ≤ (get_or ts i none).var.0 → (k : ℕ) (d : Term) → k + 1 < i + 1 → (get_or ts k d).var.0 ≤ (get_or ts (k + 1) d).var.0
more ts i h all o k d l = elim (cases_lt (k + 1) i) [
  | inl a ↦ all k d a
  | inr a ↦ here ts i k d h (omega (arith, a, l)) o
]

pub loop-place-preserved : goal.loop-place-preserved
loop-place-preserved c = more c.args.terms.now c.loop-place.place (omega arith) c.loop-place.invariant (omega arith)

pub returns : goal.returns
returns c = λ _. IsNonDecreasingBy-from_all_adjacent (λ (t : Term). t.var.0) c.args.terms.now (λ k d l. c.loop-place.invariant k d (omega (arith, l)))
