-- There is one list of terms for each function on literals: the coefficients determine a list that rises.
use Rattle.std.proofs.Common.{◌≡◌, ℕ, ◌+◌, ◌<◌, Bool, true, false, cond, List, [], ◌∷◌, refl, ap, sym, ◌∙◌, arith, inl, inr, ◌==◌, ◌&&◌}
use Rattle.std.proofs.lemmas.Bool.{cases_order}
use Rattle.std.proofs.lemmas.Bool.Decides.{nat_tests}
use Rattle.normal_form.specs.declared.term.NormalTerm.{NormalTerm}
use Rattle.normal_form.specs.Normal.{NormalConstraint, sum_over, same_sign, only, coefficient, Rises}
use Rattle.normal_form.proofs.Sums.{counted}

-- a literal below all terms has no coefficient
pub absent : (low : ℕ) (ts : List NormalTerm) → Rises low ts → (v : ℕ) (s : Bool) → v < low → sum_over (only v s) ts ≡ 0
absent low [] r v s below = refl
absent low (t ∷ ts) r v s below =
    let head : counted (only v s) t ≡ 0 = grind (arith, nat_tests, r.0, below) in
    omega (arith, head, absent (t.var.0 + 1) ts r.2 v s (omega (arith, r.0, below)))

made : ℕ → ℕ → Bool → NormalTerm
made c v s = record { coef = c; var = record { 0 = v }; negated = s }

-- terms with the same parts are the same
pub same_term : (t u : NormalTerm) → t.coef ≡ u.coef → t.var.0 ≡ u.var.0 → t.negated ≡ u.negated → t ≡ u
unfolding made
same_term t u c v s =
    let one : made t.coef (t.var.0) t.negated ≡ made u.coef (t.var.0) t.negated = ap (λ (x : ℕ). made x (t.var.0) t.negated) c in
    let two : made u.coef (t.var.0) t.negated ≡ made u.coef (u.var.0) t.negated = ap (λ (x : ℕ). made u.coef x t.negated) v in
    let three : made u.coef (u.var.0) t.negated ≡ made u.coef (u.var.0) u.negated = ap (λ (x : Bool). made u.coef (u.var.0) x) s in
    one ∙ two ∙ three

-- what a term with its parts named counts
own : (v c : ℕ) (s : Bool) → cond ((v == v) && same_sign s s) c 0 ≡ c
own v c true = grind (arith, nat_tests)
own v c false = grind (arith, nat_tests)

other : (v w c d : ℕ) (s t : Bool) → w ≡ v → 0 < c → c ≡ cond ((w == v) && same_sign s t) d 0 → (c ≡ d) × (s ≡ t)
other v w c d true true h p e = (grind (arith, nat_tests), refl)
other v w c d true false h p e = absurd (grind (arith, nat_tests))
other v w c d false true h p e = absurd (grind (arith, nat_tests))
other v w c d false false h p e = (grind (arith, nat_tests), refl)

-- a term counts for its own literal
pub counted_own : (t : NormalTerm) → counted (only (t.var.0) t.negated) t ≡ t.coef
counted_own t = own (t.var.0) t.coef t.negated

-- a coefficient above 0 at the first literal of a list that rises keeps another list from rising past it
first_below : (t u : NormalTerm) (ts us : List NormalTerm) → 0 < t.coef → Rises (u.var.0) (u ∷ us) → sum_over (only (t.var.0) t.negated) (t ∷ ts) ≡ sum_over (only (t.var.0) t.negated) (u ∷ us) → t.var.0 < u.var.0 → ⊥
first_below t u ts us p q e below = omega (arith, counted_own t, absent (u.var.0) (u ∷ us) q (t.var.0) t.negated below, e, p)

same_first : (t u : NormalTerm) (ts us : List NormalTerm) (low high : ℕ) → Rises low (t ∷ ts) → Rises high (u ∷ us) → ((v : ℕ) (s : Bool) → sum_over (only v s) (t ∷ ts) ≡ sum_over (only v s) (u ∷ us)) → t.var.0 ≡ u.var.0
same_first t u ts us low high r q e =
    let left : t.var.0 < u.var.0 → ⊥ = first_below t u ts us r.1 (omega arith, q.1, q.2) (e (t.var.0) t.negated) in
    let right : u.var.0 < t.var.0 → ⊥ = first_below u t us ts q.1 (omega arith, r.1, r.2) (sym (e (u.var.0) u.negated)) in
    elim (cases_order (t.var.0) (u.var.0)) [ inl h ↦ h | inr (inl h) ↦ absurd (left h) | inr (inr h) ↦ absurd (right h) ]

heads : (t u : NormalTerm) (ts us : List NormalTerm) (low high : ℕ) → Rises low (t ∷ ts) → Rises high (u ∷ us) → t.var.0 ≡ u.var.0 → sum_over (only (t.var.0) t.negated) (t ∷ ts) ≡ sum_over (only (t.var.0) t.negated) (u ∷ us) → t ≡ u
heads t u ts us low high r q v e =
    let mine : sum_over (only (t.var.0) t.negated) ts ≡ 0 = absent (t.var.0 + 1) ts r.2 (t.var.0) t.negated (omega arith) in
    let theirs : sum_over (only (t.var.0) t.negated) us ≡ 0 = absent (u.var.0 + 1) us q.2 (t.var.0) t.negated (omega (arith, v)) in
    let is : t.coef ≡ counted (only (t.var.0) t.negated) u = omega (arith, counted_own t, e, mine, theirs) in
    let parts : (t.coef ≡ u.coef) × (t.negated ≡ u.negated) = other (t.var.0) (u.var.0) t.coef u.coef t.negated u.negated (sym v) r.1 is in
    same_term t u parts.0 v parts.1

pub one_list : (low high : ℕ) (ts us : List NormalTerm) → Rises low ts → Rises high us → ((v : ℕ) (s : Bool) → sum_over (only v s) ts ≡ sum_over (only v s) us) → ts ≡ us
one_list low high [] [] r q e = refl
one_list low high [] (u ∷ us) r q e = absurd (omega (arith, counted_own u, q.1, e (u.var.0) u.negated))
one_list low high (t ∷ ts) [] r q e = absurd (omega (arith, counted_own t, r.1, e (t.var.0) t.negated))
one_list low high (t ∷ ts) (u ∷ us) r q e =
    let v : t.var.0 ≡ u.var.0 = same_first t u ts us low high r q e in
    let h : t ≡ u = heads t u ts us low high r q v (e (t.var.0) t.negated) in
    let tails : ts ≡ us = one_list (t.var.0 + 1) (u.var.0 + 1) ts us r.2 q.2 (λ w s. omega (arith, e w s, ap (counted (only w s)) h)) in
    ap (λ (x : NormalTerm). x ∷ ts) h ∙ ap (λ (xs : List NormalTerm). u ∷ xs) tails

constraint : List NormalTerm → ℕ → NormalConstraint
constraint terms degree = record { terms = terms; degree = degree }

-- constraints with the same parts are the same
pub same_constraint : (n m : NormalConstraint) → n.terms ≡ m.terms → n.degree ≡ m.degree → n ≡ m
unfolding constraint
same_constraint n m t d =
    let one : constraint n.terms n.degree ≡ constraint m.terms n.degree = ap (λ (x : List NormalTerm). constraint x n.degree) t in
    let two : constraint m.terms n.degree ≡ constraint m.terms m.degree = ap (λ (x : ℕ). constraint m.terms x) d in
    one ∙ two

-- constraints that rise, with the same coefficient of each literal and the same degree, are the same
pub one_constraint : (n m : NormalConstraint) → Rises 0 n.terms → Rises 0 m.terms → ((v : ℕ) (s : Bool) → coefficient n v s ≡ coefficient m v s) → n.degree ≡ m.degree → n ≡ m
one_constraint n m r q e d = same_constraint n m (one_list 0 0 n.terms m.terms r q e) d
