-- Sums over signed terms are the same in every order.
use Rattle.std.proofs.Common.{◌≡◌, ℕ, zero, suc, ◌+◌, Bool, true, false, cond, List, [], ◌∷◌, refl, sym, ◌∙◌, arith}
use Rattle.std.specs.Prelude.{ℤ, pos, negsuc, ◌+ℤ◌, neg_ℤ, unsigned_abs}
use Rattle.std.specs.List.{sum_by}
use Rattle.std.specs.List.Sorted.{IsPermutation}
use Rattle.std.proofs.lemmas.Int.{ints}
use Rattle.std.proofs.lemmas.List.Recursion.{is_sum_by}
use Rattle.std.proofs.lemmas.List.Sorted.{sum_by-IsPermutation}
use Rattle.linear.specs.declared.term.Term.{Term}
use Rattle.normal_form.specs.declared.term.NormalTerm.{NormalTerm}
use Rattle.normal_form.specs.NormalOf.{at_least_zero, negated_sum, slope, size_sum}
use Rattle.normal_form.specs.Balance.{slopes, Balances}

size_is : (ts : List Term) → size_sum ts ≡ sum_by (λ t. unsigned_abs t.coef) ts
size_is ts = is_sum_by size_sum (λ t. unsigned_abs t.coef) refl (λ _ _. refl) ts

pub same_sizes : (ts us : List Term) → IsPermutation ts us → size_sum us ≡ size_sum ts
same_sizes ts us p = size_is us ∙ sum_by-IsPermutation (λ t. unsigned_abs t.coef) ts us p ∙ sym (size_is ts)

-- what a term of a set of variables adds, and what it takes away
abbrev added : (ℕ → Bool) → Term → ℕ
added set t = cond (set (t.var.0)) (at_least_zero (slope t)) 0

abbrev taken : (ℕ → Bool) → Term → ℕ
taken set t = cond (set (t.var.0)) (at_least_zero (neg_ℤ (slope t))) 0

abbrev all_added : (ℕ → Bool) → List Term → ℕ
all_added set [] = 0
all_added set (t ∷ ts) = added set t + all_added set ts

abbrev all_taken : (ℕ → Bool) → List Term → ℕ
all_taken set [] = 0
all_taken set (t ∷ ts) = taken set t + all_taken set ts

apart : (b : Bool) (z : ℤ) → cond b z (pos 0) +ℤ pos (cond b (at_least_zero (neg_ℤ z)) 0) ≡ pos (cond b (at_least_zero z) 0)
apart true (pos zero) = refl
apart true (pos (suc n)) = omega (arith, ints)
apart true (negsuc n) = omega (arith, ints)
apart false z = refl

slopes_apart : (set : ℕ → Bool) (ts : List Term) → slopes set ts +ℤ pos (all_taken set ts) ≡ pos (all_added set ts)
slopes_apart set [] = refl
slopes_apart set (t ∷ ts) = omega (arith, ints, apart (set (t.var.0)) (slope t), slopes_apart set ts)

same_added : (set : ℕ → Bool) (ts us : List Term) → IsPermutation ts us → all_added set us ≡ all_added set ts
same_added set ts us p = is_sum_by (all_added set) (added set) refl (λ _ _. refl) us ∙ sum_by-IsPermutation (added set) ts us p ∙ sym (is_sum_by (all_added set) (added set) refl (λ _ _. refl) ts)

same_taken : (set : ℕ → Bool) (ts us : List Term) → IsPermutation ts us → all_taken set us ≡ all_taken set ts
same_taken set ts us p = is_sum_by (all_taken set) (taken set) refl (λ _ _. refl) us ∙ sum_by-IsPermutation (taken set) ts us p ∙ sym (is_sum_by (all_taken set) (taken set) refl (λ _ _. refl) ts)

pub same_slopes : (set : ℕ → Bool) (ts us : List Term) → IsPermutation ts us → slopes set us ≡ slopes set ts
same_slopes set ts us p = omega (arith, ints, slopes_apart set ts, slopes_apart set us, same_added set ts us p, same_taken set ts us p)

-- what balances terms balances them in every order
pub same_balance : (ts us : List Term) (merged : List NormalTerm) → IsPermutation ts us → Balances us merged → Balances ts merged
same_balance ts us merged p b set = b set ∙ same_slopes set ts us p

-- what a negated term counts above 0, and below
abbrev counted_above : Term → ℕ
counted_above t = cond t.negated (at_least_zero t.coef) 0

abbrev counted_below : Term → ℕ
counted_below t = cond t.negated (at_least_zero (neg_ℤ t.coef)) 0

abbrev all_above : List Term → ℕ
all_above [] = 0
all_above (t ∷ ts) = counted_above t + all_above ts

abbrev all_below : List Term → ℕ
all_below [] = 0
all_below (t ∷ ts) = counted_below t + all_below ts

negated_apart : (ts : List Term) → negated_sum ts +ℤ pos (all_below ts) ≡ pos (all_above ts)
negated_apart [] = refl
negated_apart (t ∷ ts) = omega (arith, ints, apart t.negated t.coef, negated_apart ts)

same_above : (ts us : List Term) → IsPermutation ts us → all_above us ≡ all_above ts
same_above ts us p = is_sum_by all_above counted_above refl (λ _ _. refl) us ∙ sum_by-IsPermutation counted_above ts us p ∙ sym (is_sum_by all_above counted_above refl (λ _ _. refl) ts)

same_below : (ts us : List Term) → IsPermutation ts us → all_below us ≡ all_below ts
same_below ts us p = is_sum_by all_below counted_below refl (λ _ _. refl) us ∙ sum_by-IsPermutation counted_below ts us p ∙ sym (is_sum_by all_below counted_below refl (λ _ _. refl) ts)

pub same_negated : (ts us : List Term) → IsPermutation ts us → negated_sum us ≡ negated_sum ts
same_negated ts us p = omega (arith, ints, negated_apart ts, negated_apart us, same_above ts us p, same_below ts us p)
