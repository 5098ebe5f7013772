-- Constraints that stand one behind another in one list of terms.
use Rattle.std.proofs.Common.{◌≡◌, ℕ, zero, suc, ◌+◌, ◌-◌, ◌<◌, ◌≤◌, ℤ, List, [], ◌∷◌, ◌++◌, length, get_or, take, drop, refl, sym, ap, ◌∙◌, arith, append_assoc, length-append, length-take, length-drop}
use Rattle.std.proofs.lemmas.List.{drop-take, get_or-take}
use Rattle.std.proofs.Math.Seq.{drop-append_seam, take-append_seam, get_or-append_seam}
use Rattle.linear.specs.declared.term.Term.{Term}
use Rattle.linear.specs.declared.constraint.Signed.{Signed}
use Rattle.linear.specs.declared.constraint.Relation.{Relation}
use Rattle.linear.specs.declared.constraint.Relation.TheVariants as relations
use Rattle.linear.specs.Packed.{closing_term, constraint_between, constraints_cut, no_term, relation_closed, start_at, ArePlaces}

-- how many there are, and which one stands where

pub length_cut : (ts : List Term) (s : ℕ) (es : List ℕ) → length (constraints_cut ts s es) ≡ length es
length_cut ts s [] = refl
length_cut ts s (e ∷ es) = let rest = length_cut ts e es in omega (arith, rest)

pub cut_at : (ts : List Term) (s : ℕ) (es : List ℕ) (k : ℕ) (d : Signed) → k < length es → get_or (constraints_cut ts s es) k d ≡ constraint_between ts (start_at s es k) (get_or es k 0 - 1)
cut_at ts s [] k d h = absurd (omega (arith, h))
cut_at ts s (e ∷ es) zero d h = refl
cut_at ts s (e ∷ es) (suc zero) d h = cut_at ts e es zero d (omega (arith, h))
cut_at ts s (e ∷ es) (suc (suc k)) d h = cut_at ts e es (suc k) d (omega (arith, h))

-- places

places_within : (s : ℕ) (es : List ℕ) (size : ℕ) → ArePlaces s es size → s ≤ size
places_within s [] size p = p
places_within s (e ∷ es) size p = let rest = places_within e es size p.1 in omega (arith, p.0, rest)

pub places_at : (s : ℕ) (es : List ℕ) (size k : ℕ) → ArePlaces s es size → k < length es → (start_at s es k < get_or es k 0) × (get_or es k 0 ≤ size)
places_at s [] size k p h = absurd (omega (arith, h))
places_at s (e ∷ es) size zero p h = (p.0, places_within e es size p.1)
places_at s (e ∷ es) size (suc zero) p h = places_at e es size zero p.1 (omega (arith, h))
places_at s (e ∷ es) size (suc (suc k)) p h = places_at e es size (suc k) p.1 (omega (arith, h))

pub places_end : (s : ℕ) (es : List ℕ) (size : ℕ) → ArePlaces s es size → start_at s es (length es) ≤ size
places_end s [] size p = p
places_end s (e ∷ []) size p = p.1
places_end s (e ∷ f ∷ fs) size p = places_end e (f ∷ fs) size p.1

pub places_short : (s : ℕ) (es : List ℕ) (size : ℕ) → ArePlaces s es size → ArePlaces s es (start_at s es (length es))
places_short s [] size p = omega arith
places_short s (e ∷ []) size p = (p.0, omega arith)
places_short s (e ∷ f ∷ fs) size p = (p.0, places_short e (f ∷ fs) size p.1)

pub places_more : (s : ℕ) (es : List ℕ) (size more : ℕ) → ArePlaces s es size → size ≤ more → ArePlaces s es more
places_more s [] size more p h = omega (arith, p, h)
places_more s (e ∷ es) size more p h = (p.0, places_more e es size more p.1 h)

pub places_put : (s : ℕ) (es : List ℕ) (size m : ℕ) → ArePlaces s es size → start_at s es (length es) < m → ArePlaces s (es ++ m ∷ []) m
places_put s [] size m p h = (h, omega arith)
places_put s (e ∷ []) size m p h = (p.0, (h, omega arith))
places_put s (e ∷ f ∷ fs) size m p h = (p.0, places_put e (f ∷ fs) size m p.1 h)

-- the same of a place that was read

read_at : (es : List ℕ) (k e : ℕ) → k < length es → e ≡ get_or es k e → get_or es k 0 ≡ e
read_at [] k e h is = absurd (omega (arith, h))
read_at (x ∷ es) zero e h is = sym is
read_at (x ∷ es) (suc k) e h is = read_at es k e (omega (arith, h)) is

pub constraint_read : (ts : List Term) (es : List ℕ) (k e start : ℕ) (d : Signed) → k < length es → e ≡ get_or es k e → start ≡ start_at 0 es k → constraint_between ts start (e - 1) ≡ get_or (constraints_cut ts 0 es) k d
constraint_read ts es k e start d h is from =
    ap (λ n. constraint_between ts n (e - 1)) from ∙ ap (λ n. constraint_between ts (start_at 0 es k) (n - 1)) (sym (read_at es k e h is)) ∙ sym (cut_at ts 0 es k d h)

pub place_read : (es : List ℕ) (size k e start : ℕ) → ArePlaces 0 es size → k < length es → e ≡ get_or es k e → start ≡ start_at 0 es k → (start < e) × (e ≤ size)
place_read es size k e start p h is from =
    let at = places_at 0 es size k p h in
    let same = read_at es k e h is in (
      omega (arith, at.0, same, from),
      omega (arith, at.1, same),
    )

-- constraints are those before whatever stands behind them

take_less : (k n : ℕ) (xs : List Term) → k ≤ n → take k (take n xs) ≡ take k xs
take_less zero n xs h = refl
take_less (suc k) zero xs h = absurd (omega (arith, h))
take_less (suc k) (suc n) [] h = refl
take_less (suc k) (suc n) (x ∷ xs) h = ap (λ ys. x ∷ ys) (take_less k n xs (omega (arith, h)))

terms_same : (ts us : List Term) (s m n : ℕ) → take n us ≡ take n ts → s + m ≤ n → take m (drop s us) ≡ take m (drop s ts)
terms_same ts us s m n same h =
    sym (drop-take s m us) ∙ ap (drop s) (sym (take_less (s + m) n us h) ∙ ap (take (s + m)) same ∙ take_less (s + m) n ts h) ∙ drop-take s m ts

between_same : (ts us : List Term) (s e n : ℕ) → take n us ≡ take n ts → s ≤ e → e < n → constraint_between us s e ≡ constraint_between ts s e
between_same ts us s e n same h less =
    let terms : take (e - s) (drop s us) ≡ take (e - s) (drop s ts) = terms_same ts us s (e - s) n same (omega (arith, h, less)) in
    let closed : get_or us e no_term ≡ get_or ts e no_term = sym (get_or-take n us e no_term less) ∙ ap (λ xs. get_or xs e no_term) same ∙ get_or-take n ts e no_term less in
    rw (terms, closed) refl

pub cut_same : (ts us : List Term) (s : ℕ) (es : List ℕ) (n : ℕ) → ArePlaces s es n → take n us ≡ take n ts → constraints_cut us s es ≡ constraints_cut ts s es
cut_same ts us s [] n p same = refl
cut_same ts us s (e ∷ es) n p same =
    let low = places_within e es n p.1 in
    ap (λ cs. constraint_between us s (e - 1) ∷ cs) (cut_same ts us e es n p.1 same)
    ∙ ap (λ c. c ∷ constraints_cut ts e es) (between_same ts us s (e - 1) n same (omega (arith, p.0)) (omega (arith, p.0, low)))

-- one more constraint

cut_put : (ts : List Term) (s : ℕ) (es : List ℕ) (m : ℕ) → constraints_cut ts s (es ++ m ∷ []) ≡ constraints_cut ts s es ++ constraint_between ts (start_at s es (length es)) (m - 1) ∷ []
cut_put ts s [] m = refl
cut_put ts s (e ∷ []) m = refl
cut_put ts s (e ∷ f ∷ fs) m = ap (λ cs. constraint_between ts s (e - 1) ∷ cs) (cut_put ts e (f ∷ fs) m)

relation_back : (r : Relation) (right : ℤ) → relation_closed (closing_term r right) ≡ r
relation_back relations.AtLeast right = refl
relation_back relations.Equal right = refl

between_put : (front terms : List Term) (r : Relation) (right : ℤ) (start end : ℕ) → start ≡ length front → end ≡ length (front ++ terms)
    → constraint_between ((front ++ terms) ++ closing_term r right ∷ []) start end ≡ record { terms = terms; relation = r; right = right }
between_put front terms r right start end low high =
    let all : List Term = (front ++ terms) ++ closing_term r right ∷ [] in
    let behind : drop start all ≡ terms ++ closing_term r right ∷ [] =
    ap (drop start) (append_assoc front terms (closing_term r right ∷ [])) ∙ ap (λ k. drop k (front ++ (terms ++ closing_term r right ∷ []))) low ∙ drop-append_seam front (terms ++ closing_term r right ∷ []) in
    let count : end - start ≡ length terms = omega (arith, low, high, length-append front terms) in
    let own : take (end - start) (drop start all) ≡ terms = ap (take (end - start)) behind ∙ ap (λ k. take k (terms ++ closing_term r right ∷ [])) count ∙ take-append_seam terms (closing_term r right ∷ []) in
    let closed : get_or all end no_term ≡ closing_term r right = ap (λ k. get_or all k no_term) high ∙ get_or-append_seam (front ++ terms) (closing_term r right) [] no_term in
    rw (own, closed, relation_back r right) refl

-- terms and what closes them, put behind the constraints that there are
pub constraint_put : (ts us terms : List Term) (es : List ℕ) (r : Relation) (right : ℤ) (m : ℕ) → ArePlaces 0 es (length ts) → us ≡ (take (start_at 0 es (length es)) ts ++ terms) ++ closing_term r right ∷ [] → m ≡ length us
    → constraints_cut us 0 (es ++ m ∷ []) ≡ constraints_cut ts 0 es ++ (record { terms = terms; relation = r; right = right }) ∷ []
constraint_put ts us terms es r right m p is long =
    let n : ℕ = start_at 0 es (length es) in
    let front : List Term = take n ts in
    let few : n ≤ length ts = places_end 0 es (length ts) p in
    let size : length front ≡ n = omega (arith, few, length-take n ts) in
    let same : take n us ≡ front =
    ap (take n) (is ∙ append_assoc front terms (closing_term r right ∷ [])) ∙ ap (λ k. take k (front ++ (terms ++ closing_term r right ∷ []))) (sym size) ∙ take-append_seam front (terms ++ closing_term r right ∷ []) in
    let end : m - 1 ≡ length (front ++ terms) = omega (arith, long, ap length is, length-append (front ++ terms) (closing_term r right ∷ [])) in
    cut_put us 0 es m
    ∙ ap (λ cs. cs ++ constraint_between us n (m - 1) ∷ []) (cut_same ts us 0 es n (places_short 0 es (length ts) p) same)
    ∙ ap (λ c. constraints_cut ts 0 es ++ c ∷ []) (ap (λ xs. constraint_between xs n (m - 1)) is ∙ between_put front terms r right n (m - 1) (sym size) end)

-- how many terms the constraint between two places has
pub length_between : (ts : List Term) (start end : ℕ) → start ≤ end → end < length ts → length (constraint_between ts start end).terms ≡ end - start
length_between ts start end h less = omega (arith, h, less, length-take (end - start) (drop start ts), length-drop start ts)

-- what was kept of a list whose beginning stays
pub kept_before : (n : ℕ) (ts us : List Term) → n ≤ length ts → take (length (take n ts)) us ≡ take n ts → take n us ≡ take n ts
kept_before n ts us h same =
    let size : length (take n ts) ≡ n = omega (arith, h, length-take n ts) in
    ap (λ k. take k us) (sym size) ∙ same

-- where the next one begins, as it was read
pub start_same : (start : ℕ) (es fs : List ℕ) (n : ℕ) → start ≡ start_at 0 fs n → fs ≡ es → n ≡ length fs → start ≡ start_at 0 es (length es)
start_same start es fs n is same long = is ∙ ap (start_at 0 fs) long ∙ ap (λ xs. start_at 0 xs (length xs)) same

pub longer_put : (n : ℕ) (ts us terms : List Term) (t : Term) → n ≤ length ts → us ≡ (take n ts ++ terms) ++ t ∷ [] → n < length us
longer_put n ts us terms t few is =
    let long : length us ≡ length ((take n ts ++ terms) ++ t ∷ []) = ap length is in
    omega (arith, few, long, length-append (take n ts ++ terms) (t ∷ []), length-append (take n ts) terms, length-take n ts)
