-- The entries of one term more at the end, and of one term fewer.
use Rattle.std.proofs.Common.{◌≡◌, ℕ, zero, suc, ◌+◌, ◌-◌, ◌*◌, ◌<◌, ◌≤◌, inl, inr, Bool, true, false, cond, ◌==◌, List, [], ◌∷◌, ◌++◌, length, get_or, set, take, drop, refl, ap, sym, subst, ◌∙◌, append-nil, length-append, drop-cons, arith}
use Rattle.std.proofs.lemmas.Bool.{cases_eq}
use Rattle.std.proofs.lemmas.Bool.Decides.{nat_tests}
use Rattle.std.proofs.lemmas.List.{get_or-set_same, get_or-set_other, get_or-take, length-take-le}
use Rattle.std.proofs.Math.ListN.{drop_of_length-le}
use Rattle.std.proofs.Math.Seq.{take-append_seam}
use Rattle.linear.specs.declared.term.Lit.{Lit}
use Rattle.normal_form.specs.declared.term.NormalTerm.{NormalTerm}
use Rattle.normal_form.specs.Normal.{Rises, only, sum_over, variable_bound}
use Rattle.normal_form.proofs.OneList.{absent, counted_own}
use Rattle.normal_form.proofs.SetSums.{only_is}
use Rattle.normal_form.proofs.Sums.{counted, sum_over_more, bound_at, bound_take}
use Rattle.normal_form.proofs.SumsByVariable.{absent_above}
use Rattle.propagate.specs.Passes.{literal_of}
use Rattle.occurrences.specs.declared.occurrence.Occurrence.{Occurrence}
use Rattle.linear.specs.Literal.{code}
use Rattle.occurrences.specs.Occurrences.{entries_of, entry_with, HasMore}

-- two literals with one number are the same
same_bits : (v w : ℕ) (s t : Bool) → 2 * v + cond s 1 0 ≡ 2 * w + cond t 1 0 → (v ≡ w) × (s ≡ t)
same_bits v w true true e = (omega (arith, e), refl)
same_bits v w true false e = absurd (omega (arith, e))
same_bits v w false true e = absurd (omega (arith, e))
same_bits v w false false e = (omega (arith, e), refl)

pub same_code : (l m : Lit) → code l ≡ code m → (l.var.0 ≡ m.var.0) × (l.negated ≡ m.negated)
same_code l m e = same_bits (l.var.0) (m.var.0) l.negated m.negated e

at_most_one : (b : Bool) → cond b 1 0 ≤ 1
at_most_one true = omega arith
at_most_one false = omega arith

pub code_below : (l : Lit) (bound size : ℕ) → l.var.0 + 1 ≤ bound → 2 * bound ≤ size → code l < size
code_below l bound size h k = omega (arith, h, k, at_most_one l.negated)

abbrev made : ℕ → ℕ → Occurrence
made place c = record { place = place; coef = c }

-- the entry of a coefficient above 0
entry_above : (place c : ℕ) (b : Bool) → (c == 0) ≡ b → 0 < c → cond b [] (made place c ∷ []) ≡ made place c ∷ []
entry_above place c true e h = absurd (grind (arith, nat_tests))
entry_above place c false e h = refl

pub entry_there : (place c : ℕ) → 0 < c → entry_with place c ≡ made place c ∷ []
entry_there place c h = entry_above place c (c == 0) refl h

-- another literal's term does not count
not_counted : (l : Lit) (t : NormalTerm) (b : Bool) → only (l.var.0) l.negated (t.var.0) t.negated ≡ b → (code l ≡ code (literal_of t) → ⊥) → cond b t.coef 0 ≡ 0
not_counted l t false e n = refl
not_counted l t true e n =
    let same = only_is (l.var.0) (t.var.0) l.negated t.negated e in
    absurd (n (ap (λ (v : ℕ). 2 * v + cond l.negated 1 0) (sym same.0) ∙ ap {B = ℕ} (λ (s : Bool). 2 * t.var.0 + cond s 1 0) (sym same.1)))

other_term : (l : Lit) (t : NormalTerm) → (code l ≡ code (literal_of t) → ⊥) → counted (only (l.var.0) l.negated) t ≡ 0
other_term l t n = not_counted l t (only (l.var.0) l.negated (t.var.0) t.negated) refl n

-- terms that rise have coefficients above 0
positive_at : (low : ℕ) (ts : List NormalTerm) (i : ℕ) (d : NormalTerm) → Rises low ts → i < length ts → 0 < (get_or ts i d).coef
positive_at low [] i d r h = absurd (omega (arith, h))
positive_at low (t ∷ ts) zero d r h = r.1
positive_at low (t ∷ ts) (suc i) d r h = positive_at (t.var.0 + 1) ts i d r.2 (omega (arith, h))

-- a term counts with its coefficient for the literal of its number
own_term : (l : Lit) (t : NormalTerm) → code l ≡ code (literal_of t) → counted (only (l.var.0) l.negated) t ≡ t.coef
own_term l t e =
    let same = same_code l (literal_of t) e in
    ap (λ (v : ℕ). counted (only v l.negated) t) same.0 ∙ ap (λ (s : Bool). counted (only (t.var.0) s) t) same.1 ∙ counted_own t

-- a term's number is in a table for the variables
pub code_of_term : (ts : List NormalTerm) (i number size : ℕ) (t : NormalTerm) → i < length ts → t ≡ get_or ts i t → 2 * variable_bound ts ≤ size → number ≡ code (literal_of t) → number < size
code_of_term ts i number size t h is fits named =
    omega (arith, named, code_below (literal_of t) (variable_bound ts) size (omega (arith, bound_at ts i t h, ap (λ (u : NormalTerm). u.var.0) is)) fits)

-- one term more
pub entered_more : (old : Lit → List Occurrence) (mid new : List (List Occurrence)) (place : ℕ) (ts : List NormalTerm) (i number : ℕ) (t : NormalTerm) → Rises 0 ts → i < length ts → t ≡ get_or ts i t → 2 * variable_bound ts ≤ length mid
    → number ≡ code (literal_of t)
    → HasMore old mid place (take i ts) → new ≡ set mid number (get_or mid number [] ++ made place t.coef ∷ [])
    → HasMore old new place (take (i + 1) ts)
entered_more old mid new place ts i number t rises h is size named m e l =
    let low : number < length mid = omega (arith, named, code_below (literal_of t) (variable_bound ts) (length mid) (omega (arith, bound_at ts i t h, ap (λ (u : NormalTerm). u.var.0) is)) size) in
    let own : ℕ → Bool → Bool = only (l.var.0) l.negated in
    let row : List Occurrence = get_or mid number [] ++ made place t.coef ∷ [] in
    let more : sum_over own (take (i + 1) ts) ≡ sum_over own (take i ts) + counted own t = sum_over_more own ts i t h ∙ ap (λ (u : NormalTerm). sum_over own (take i ts) + counted own u) (sym is) in
    elim (cases_eq (code l) number) [
      | inl same ↦
          let zero_before : sum_over own (take i ts) ≡ 0 = absent_above (take i ts) (l.var.0) l.negated
          (omega (arith, bound_take 0 ts i t rises h, ap (λ (u : NormalTerm). u.var.0) is, (same_code l (literal_of t) (same ∙ named)).0)) in
          let full : sum_over own (take (i + 1) ts) ≡ t.coef = omega (arith, more, zero_before, own_term l t (same ∙ named)) in
          let some : 0 < t.coef = omega (arith, positive_at 0 ts i t rises h, ap (λ (u : NormalTerm). u.coef) is) in
          let here : entries_of new l ≡ row = ap (λ (xs : List (List Occurrence)). get_or xs (code l) []) e ∙ ap (λ (k : ℕ). get_or (set mid number row) k []) same ∙ get_or-set_same mid number row [] low in
          let was : get_or mid number [] ≡ old l = ap (λ (k : ℕ). get_or mid k []) (sym same) ∙ m l ∙ ap (λ (c : ℕ). old l ++ entry_with place c) zero_before ∙ append-nil (old l) in
          here ∙ ap (λ (os : List Occurrence). os ++ made place t.coef ∷ []) was ∙ ap (λ (os : List Occurrence). old l ++ os) (sym (ap (entry_with place) full ∙ entry_there place t.coef some))
      | inr n ↦
          let here : entries_of new l ≡ entries_of mid l = ap (λ (xs : List (List Occurrence)). get_or xs (code l) []) e ∙ get_or-set_other mid number (code l) row [] n in
          let same : sum_over own (take (i + 1) ts) ≡ sum_over own (take i ts) = omega (arith, more, other_term l t (λ f. n (f ∙ sym named))) in
          here ∙ m l ∙ ap (λ (c : ℕ). old l ++ entry_with place c) (sym same)
    ]

without_last : (zs : List Occurrence) (x : Occurrence) → take (length (zs ++ x ∷ []) - 1) (zs ++ x ∷ []) ≡ zs
without_last zs x = ap (λ (n : ℕ). take n (zs ++ x ∷ [])) (omega (arith, length-append zs (x ∷ []))) ∙ take-append_seam zs (x ∷ [])

-- the first of some terms is taken off
pub left_more : (old : Lit → List Occurrence) (mid new : List (List Occurrence)) (place low bound number : ℕ) (t : NormalTerm) (ts : List NormalTerm) → Rises low (t ∷ ts) → t.var.0 + 1 ≤ bound → 2 * bound ≤ length mid
    → number ≡ code (literal_of t)
    → HasMore old mid place (t ∷ ts) → new ≡ set mid number (take (length (get_or mid number []) - 1) (get_or mid number []))
    → HasMore old new place ts
left_more old mid new place low bound number t ts rises within size named m e l =
    let below : number < length mid = omega (arith, named, code_below (literal_of t) bound (length mid) within size) in
    let own : ℕ → Bool → Bool = only (l.var.0) l.negated in
    let row : List Occurrence = take (length (get_or mid number []) - 1) (get_or mid number []) in
    elim (cases_eq (code l) number) [
      | inl same ↦
          let zero_after : sum_over own ts ≡ 0 = absent (t.var.0 + 1) ts rises.2 (l.var.0) l.negated (omega (arith, (same_code l (literal_of t) (same ∙ named)).0)) in
          let full : sum_over own (t ∷ ts) ≡ t.coef = omega (arith, zero_after, own_term l t (same ∙ named)) in
          let was : get_or mid number [] ≡ old l ++ made place t.coef ∷ [] = ap (λ (k : ℕ). get_or mid k []) (sym same) ∙ m l ∙ ap (λ (os : List Occurrence). old l ++ os) (ap (entry_with place) full ∙ entry_there place t.coef rises.1) in
          let here : entries_of new l ≡ row = ap (λ (xs : List (List Occurrence)). get_or xs (code l) []) e ∙ ap (λ (k : ℕ). get_or (set mid number row) k []) same ∙ get_or-set_same mid number row [] below in
          here ∙ ap (λ (os : List Occurrence). take (length os - 1) os) was ∙ without_last (old l) (made place t.coef)
          ∙ sym (ap (λ (c : ℕ). old l ++ entry_with place c) zero_after ∙ append-nil (old l))
      | inr n ↦
          let here : entries_of new l ≡ entries_of mid l = ap (λ (xs : List (List Occurrence)). get_or xs (code l) []) e ∙ get_or-set_other mid number (code l) row [] n in
          let same : sum_over own (t ∷ ts) ≡ sum_over own ts = omega (arith, other_term l t (λ f. n (f ∙ sym named))) in
          here ∙ m l ∙ ap (λ (c : ℕ). old l ++ entry_with place c) same
    ]

-- rising terms, from some on and up to some
pub rises_take : (low : ℕ) (ts : List NormalTerm) (k : ℕ) → Rises low ts → Rises low (take k ts)
rises_take low ts zero r = tt
rises_take low [] (suc k) r = tt
rises_take low (t ∷ ts) (suc k) r = (r.0, r.1, rises_take (t.var.0 + 1) ts k r.2)

rises_later : (low high : ℕ) (ts : List NormalTerm) → low ≤ high → Rises high ts → Rises low ts
rises_later low high [] h r = tt
rises_later low high (t ∷ ts) h r = (omega (arith, h, r.0), r.1, r.2)

pub rises_drop : (low : ℕ) (ts : List NormalTerm) (k : ℕ) → Rises low ts → Rises low (drop k ts)
rises_drop low ts zero r = r
rises_drop low [] (suc k) r = tt
rises_drop low (t ∷ ts) (suc k) r = rises_later low (t.var.0 + 1) (drop k ts) (omega (arith, r.0)) (rises_drop (t.var.0 + 1) ts k r.2)

pub none_left : (count : ℕ) (ts : List NormalTerm) → count ≤ length ts → drop count (take count ts) ≡ []
none_left count ts k = drop_of_length-le (take count ts) (omega (arith, length-take-le count ts k))

-- the next of the terms that are still there is taken off
pub left_next : (old : Lit → List Occurrence) (mid new : List (List Occurrence)) (place count i number : ℕ) (t : NormalTerm) (ts : List NormalTerm) → Rises 0 ts → i < count → count ≤ length ts → t ≡ get_or ts i t → 2 * variable_bound ts ≤ length mid
    → number ≡ code (literal_of t)
    → HasMore old mid place (drop i (take count ts)) → new ≡ set mid number (take (length (get_or mid number []) - 1) (get_or mid number []))
    → HasMore old new place (drop (i + 1) (take count ts))
left_next old mid new place count i number t ts rises h k is size named m e =
    let us : List NormalTerm = take count ts in
    let low : i < length us = omega (arith, h, k, length-take-le count ts k) in
    let same : get_or us i t ≡ t = get_or-take count ts i t h ∙ sym is in
    let one_more : suc i ≡ i + 1 = omega arith in
    let next : drop i us ≡ t ∷ drop (i + 1) us = drop-cons us i t low ∙ ap (λ (u : NormalTerm). u ∷ drop (suc i) us) same ∙ ap (λ (k : ℕ). t ∷ drop k us) one_more in
    left_more old mid new place 0 (variable_bound ts) number t (drop (i + 1) us) (subst (λ (xs : List NormalTerm). Rises 0 xs) next (rises_drop 0 us i (rises_take 0 ts count rises)))
    (omega (arith, bound_at ts i t (omega (arith, h, k)), ap (λ (u : NormalTerm). u.var.0) is)) size named (subst (λ (xs : List NormalTerm). HasMore old mid place xs) next m) e
