-- The entries of a literal, as constraints say them.
use Rattle.std.proofs.Common.{◌≡◌, ℕ, zero, suc, ◌+◌, ◌<◌, ◌≤◌, Bool, true, false, cond, ◌==◌, All, List, [], ◌∷◌, ◌++◌, length, refl, ap, sym, subst, ◌∙◌, append_assoc, append-nil, arith}
use Rattle.std.proofs.lemmas.Bool.Decides.{nat_tests}
use Rattle.std.proofs.lemmas.List.Elements.{All-nil, All-cons, All-append}
use Rattle.std.proofs.lemmas.List.Sums.{sum_by-append}
use Rattle.linear.specs.declared.term.Lit.{Lit}
use Rattle.normal_form.specs.Normal.{NormalConstraint}
use Rattle.propagate.specs.Literals.{coefficient_of}
use Rattle.occurrences.specs.declared.occurrence.Occurrence.{Occurrence}
use Rattle.occurrences.specs.Occurrences.{share, share_of, entry_of, occurrences_of}
use Rattle.ledger.specs.Ledgers.{constraint_at, nothing}

by_test : (b : Bool) (k p c : ℕ) → (c == 0) ≡ b → k ≡ p → share_of k (cond b [] (record { place = p; coef = c } ∷ [])) ≡ c
by_test true k p c e h = grind (arith, nat_tests)
by_test false k p c e h = grind (arith, nat_tests)

by_test_apart : (b : Bool) (k p c : ℕ) → (k ≡ p → ⊥) → share_of k (cond b [] (record { place = p; coef = c } ∷ [])) ≡ 0
by_test_apart true k p c h = refl
by_test_apart false k p c h = grind (arith, nat_tests)

here : (l : Lit) (k p : ℕ) (n : NormalConstraint) → k ≡ p → share_of k (entry_of l p n.terms) ≡ coefficient_of n l
here l k p n h = by_test (coefficient_of n l == 0) k p (coefficient_of n l) refl h

apart : (l : Lit) (k p : ℕ) (n : NormalConstraint) → (k ≡ p → ⊥) → share_of k (entry_of l p n.terms) ≡ 0
apart l k p n h = by_test_apart (coefficient_of n l == 0) k p (coefficient_of n l) h

none_before : (l : Lit) (k p : ℕ) (ns : List NormalConstraint) → k < p → share_of k (occurrences_of l p ns) ≡ 0
none_before l k p [] h = refl
none_before l k p (n ∷ ns) h = omega (arith, sum_by-append (share k) (entry_of l p n.terms) (occurrences_of l (p + 1) ns), apart l k p n (λ e. omega (arith, h, e)), none_before l k (p + 1) ns (omega (arith, h)))

-- at each place the entries have the coefficient
pub shares_from : (l : Lit) (p k j : ℕ) (ns : List NormalConstraint) → j < length ns → k ≡ p + j → share_of k (occurrences_of l p ns) ≡ coefficient_of (constraint_at ns j) l
shares_from l p k j [] h e = absurd (omega (arith, h))
shares_from l p k zero (n ∷ ns) h e = omega (arith, sum_by-append (share k) (entry_of l p n.terms) (occurrences_of l (p + 1) ns), here l k p n (omega (arith, e)), none_before l k (p + 1) ns (omega (arith, e)))
shares_from l p k (suc j) (n ∷ ns) h e = omega (arith, sum_by-append (share k) (entry_of l p n.terms) (occurrences_of l (p + 1) ns), apart l k p n (λ f. omega (arith, e, f)), shares_from l (p + 1) k j ns (omega (arith, h)) (omega (arith, e)))

-- one constraint more adds its entry at the end
pub occurrences_push : (l : Lit) (p : ℕ) (ns : List NormalConstraint) (n : NormalConstraint) → occurrences_of l p (ns ++ n ∷ []) ≡ occurrences_of l p ns ++ entry_of l (p + length ns) n.terms
occurrences_push l p [] n = append-nil (entry_of l p n.terms) ∙ ap (λ (k : ℕ). entry_of l k n.terms) (omega arith)
occurrences_push l p (m ∷ ns) n =
    ap (λ (os : List Occurrence). entry_of l p m.terms ++ os) (occurrences_push l (p + 1) ns n) ∙ sym (append_assoc (entry_of l p m.terms) (occurrences_of l (p + 1) ns) (entry_of l ((p + 1) + length ns) n.terms))
    ∙ ap (λ (k : ℕ). (entry_of l p m.terms ++ occurrences_of l (p + 1) ns) ++ entry_of l k n.terms) (omega arith)

-- the entries' places are those of the constraints
abbrev made : ℕ → ℕ → Occurrence
made p c = record { place = p; coef = c }

places_of : (p bound c : ℕ) (b : Bool) → p < bound → All (λ (o : Occurrence). o.place < bound) (cond b [] (made p c ∷ []))
places_of p bound c true h = All-nil (λ (o : Occurrence). o.place < bound)
places_of p bound c false h = All-cons (λ (o : Occurrence). o.place < bound) (made p c) [] h (All-nil (λ (o : Occurrence). o.place < bound))

pub places_from : (l : Lit) (p bound : ℕ) (ns : List NormalConstraint) → p + length ns ≤ bound → All (λ (o : Occurrence). o.place < bound) (occurrences_of l p ns)
places_from l p bound [] h = All-nil (λ (o : Occurrence). o.place < bound)
places_from l p bound (n ∷ ns) h =
    All-append (λ (o : Occurrence). o.place < bound) (entry_of l p n.terms) (occurrences_of l (p + 1) ns)
    (places_of p bound (coefficient_of n l) (coefficient_of n l == 0) (omega (arith, h)))
    (places_from l (p + 1) bound ns (omega (arith, h)))

-- where nothing stands there are no entries
none_listed : (l : Lit) (p : ℕ) (ns : List NormalConstraint) → ((k : ℕ) → constraint_at ns k ≡ nothing) → occurrences_of l p ns ≡ []
none_listed l p [] none = refl
none_listed l p (n ∷ ns) none = ap (λ (c : NormalConstraint). entry_of l p c.terms ++ occurrences_of l (p + 1) ns) (none 0) ∙ none_listed l (p + 1) ns (λ k. none (suc k))

-- the entries' places are those of the first constraints, where nothing stands behind these
pub places_below : (l : Lit) (p many bound : ℕ) (ns : List NormalConstraint) → ((k : ℕ) → many ≤ k → constraint_at ns k ≡ nothing) → p + many ≤ bound → All (λ (o : Occurrence). o.place < bound) (occurrences_of l p ns)
places_below l p many bound [] none h = All-nil (λ (o : Occurrence). o.place < bound)
places_below l p zero bound (n ∷ ns) none h = subst (λ (os : List Occurrence). All (λ (o : Occurrence). o.place < bound) os) (sym (none_listed l p (n ∷ ns) (λ k. none k (omega arith)))) (All-nil (λ (o : Occurrence). o.place < bound))
places_below l p (suc many) bound (n ∷ ns) none h =
    All-append (λ (o : Occurrence). o.place < bound) (entry_of l p n.terms) (occurrences_of l (p + 1) ns)
    (places_of p bound (coefficient_of n l) (coefficient_of n l == 0) (omega (arith, h)))
    (places_below l (p + 1) many bound ns (λ k high. none (suc k) (omega (arith, high))) (omega (arith, h)))
