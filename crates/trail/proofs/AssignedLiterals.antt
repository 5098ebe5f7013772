-- The literals that were propagated, among all that are assigned.
use Rattle.std.proofs.Common.{◌≡◌, ℕ, zero, suc, ◌+◌, ◌<◌, ◌≤◌, inl, inr, Bool, true, false, not, List, [], ◌∷◌, ◌++◌, length, length-append, get_or, take, drop, refl, ap, sym, subst, ◌∙◌, append-nil, append_assoc, arith}
use Rattle.std.proofs.lemmas.Bool.{cases_lt, false≢true}
use Rattle.std.proofs.lemmas.List.{get_or-take, take-append-drop, take-append-le}
use Rattle.linear.specs.declared.term.Lit.{Lit}
use Rattle.linear.specs.Literal.{opposite}
use Rattle.propagate.specs.Literals.{IsConsistent, among, lists}
use Rattle.propagate.proofs.Assignments.{among_head, among_left, among_right}
use Rattle.trail.specs.Trails.{on_trail}
use Rattle.propagate.proofs.Positions.{listed_at, stands_at}
use Rattle.std.proofs.Math.ListN.{drop_of_length-le}
use Rattle.std.proofs.Math.Seq.{take-length}

-- what is not listed among more is not listed among fewer
pub fewer : (xs ys : List Lit) (v : ℕ) (s b : Bool) → among xs v s ≡ b → among (xs ++ ys) v s ≡ false → among xs v s ≡ false
fewer xs ys v s false e h = e
fewer xs ys v s true e h = absurd (false≢true (sym h ∙ among_left xs ys v s e))

-- what is listed at the beginning is listed
pub among_all : (xs : List Lit) (p : ℕ) (v : ℕ) (s : Bool) → among (take p xs) v s ≡ true → among xs v s ≡ true
among_all xs p v s e = subst (λ (ys : List Lit). among ys v s ≡ true) (take-append-drop p xs) (among_left (take p xs) (drop p xs) v s e)

pub not_before : (xs : List Lit) (p : ℕ) (l : Lit) → lists xs l ≡ false → lists (take p xs) l ≡ false
not_before xs p l e = fewer (take p xs) (drop p xs) (l.var.0) l.negated (lists (take p xs) l) refl (ap (λ (ys : List Lit). lists ys l) (take-append-drop p xs) ∙ e)

inside_too : (p : ℕ) (xs : List Lit) (k : ℕ) → k < p → k < length xs → k < length (take p xs)
inside_too zero xs k h low = absurd (omega (arith, h))
inside_too (suc p) [] k h low = absurd (omega (arith, low))
inside_too (suc p) (x ∷ xs) zero h low = omega arith
inside_too (suc p) (x ∷ xs) (suc k) h low = omega (arith, inside_too p xs k (omega (arith, h)) (omega (arith, low)))

-- a literal that is listed is at the beginning where its place is
pub listed_before : (xs : List Lit) (p at : ℕ) (l : Lit) → ((k : ℕ) (d : Lit) → k < length xs → (get_or xs k d).var.0 ≡ l.var.0 → k ≡ at) → lists xs l ≡ true → at < p → lists (take p xs) l ≡ true
listed_before xs p at l places e low =
    let s = stands_at xs l e in
    let here : s.index ≡ at = places s.index l s.low (ap (λ (m : Lit). m.var.0) (s.is l)) in
    let short : s.index < length (take p xs) = inside_too p xs s.index (omega (arith, low, here)) s.low in
    subst (λ (m : Lit). lists (take p xs) m ≡ true) (get_or-take p xs s.index l (omega (arith, low, here)) ∙ s.is l) (listed_at (take p xs) s.index l short)

at_most : (p : ℕ) (xs : List Lit) → length (take p xs) ≤ p
at_most zero xs = omega arith
at_most (suc p) [] = omega arith
at_most (suc p) (x ∷ xs) = omega (arith, at_most p xs)

pub not_listed_before : (xs : List Lit) (p at : ℕ) (l : Lit) → ((k : ℕ) (d : Lit) → k < length xs → (get_or xs k d).var.0 ≡ l.var.0 → k ≡ at) → p ≤ at → (b : Bool) → lists (take p xs) l ≡ b → lists (take p xs) l ≡ false
not_listed_before xs p at l places high false e = e
not_listed_before xs p at l places high true e =
    let s = stands_at (take p xs) l e in
    let low : s.index < p = omega (arith, s.low, at_most p xs) in
    let inside : s.index < length xs = omega (arith, s.low, ap (length {A = Lit}) (take-append-drop p xs), length-append (take p xs) (drop p xs)) in
    let here : s.index ≡ at = places s.index l inside (ap (λ (m : Lit). m.var.0) (sym (get_or-take p xs s.index l low) ∙ s.is l)) in
    absurd (omega (arith, here, low, high))

-- a beginning of a consistent assignment is consistent
pub consistent_before : (xs : List Lit) (p : ℕ) → IsConsistent xs → IsConsistent (take p xs)
consistent_before xs p c (l, a, b) = c (l, among_all xs p (l.var.0) l.negated a, among_all xs p (l.var.0) (opposite l).negated b)

-- nothing is left behind the end
pub none_left : (xs : List Lit) (p : ℕ) → p ≡ length xs → drop p xs ≡ []
none_left [] zero e = refl
none_left [] (suc p) e = refl
none_left (x ∷ xs) zero e = absurd (omega (arith, e))
none_left (x ∷ xs) (suc p) e = none_left xs p (omega (arith, e))

pub at_end : (xs : List Lit) (p : ℕ) → p ≤ length xs → drop p xs ≡ [] → p ≡ length xs
at_end xs p h e = omega (arith, h, ap (length {A = Lit}) (take-append-drop p xs), length-append (take p xs) (drop p xs), ap (length {A = Lit}) e, at_most p xs)

pub before_end : (xs : List Lit) (p : ℕ) → p ≤ length xs → (drop p xs ≡ [] → ⊥) → p < length xs
before_end xs p h some = elim (cases_lt p (length xs)) [
  | inl low ↦ low
  | inr high ↦ absurd (some (none_left xs p (omega (arith, h, high))))
]

-- one literal more at the beginning
pub record IsStep (xs : List Lit) (p : ℕ) (l : Lit) (rest : List Lit) : Type 0 where
  pub longer : take (p + 1) xs ≡ take p xs ++ l ∷ []
  pub left : drop (p + 1) xs ≡ rest

head_same : (x l : Lit) (xs rest : List Lit) → x ∷ xs ≡ l ∷ rest → x ≡ l
head_same x l xs rest e = cc

tail_same : (x l : Lit) (xs rest : List Lit) → x ∷ xs ≡ l ∷ rest → xs ≡ rest
tail_same x l xs rest e = cc

stepped : (p : ℕ) (xs : List Lit) (l : Lit) (rest : List Lit) → drop p xs ≡ l ∷ rest → (take (suc p) xs ≡ take p xs ++ l ∷ []) × (drop (suc p) xs ≡ rest)
stepped zero [] l rest e = absurd (cc)
stepped (suc p) [] l rest e = absurd (cc)
stepped zero (x ∷ xs) l rest e = (ap (λ (y : Lit). y ∷ []) (head_same x l xs rest e), tail_same x l xs rest e)
stepped (suc p) (x ∷ xs) l rest e =
    let s = stepped p xs l rest e in
    (ap (λ (ys : List Lit). x ∷ ys) s.0, s.1)

pub step : (p : ℕ) (xs : List Lit) (l : Lit) (rest : List Lit) → drop p xs ≡ l ∷ rest → IsStep xs p l rest
step p xs l rest e =
    let one : p + 1 ≡ suc p = omega arith in
    let s = stepped p xs l rest e in
    record { longer = ap (λ (k : ℕ). take k xs) one ∙ s.0; left = ap (λ (k : ℕ). drop k xs) one ∙ s.1 }

-- all that is assigned
pub all_assigned : (xs : List Lit) (v p : ℕ) → on_trail (take p xs, v, drop p xs) ≡ xs
all_assigned xs v p = take-append-drop p xs

-- all of a list, and less
pub take_long : (h : ℕ) (xs : List Lit) → length xs ≤ h → take h xs ≡ xs
take_long h xs long = sym (append-nil (take h xs)) ∙ ap (λ (ys : List Lit). take h xs ++ ys) (sym (drop_of_length-le xs long)) ∙ take-append-drop h xs

-- the last literal taken away
abbrev Whole : Type 0
Whole = List Lit × ℕ × List Lit

pub last_counted : (a b : Whole) (l : Lit) → a.2 ≡ [] → b.2 ≡ [] → on_trail a ≡ on_trail b ++ l ∷ [] → a.0 ≡ b.0 ++ l ∷ []
last_counted a b l e f h =
    sym (append-nil a.0) ∙ ap (λ (ys : List Lit). a.0 ++ ys) (sym e) ∙ h ∙ ap (λ (ys : List Lit). (b.0 ++ ys) ++ l ∷ []) f ∙ ap (λ (ys : List Lit). ys ++ l ∷ []) (append-nil b.0)

pub unset_first : (b : Whole) (l : Lit) → lists (on_trail b) l ≡ false → lists b.0 l ≡ false
unset_first b l h = fewer b.0 b.2 (l.var.0) l.negated (lists b.0 l) refl h

pub taken_all : (a b : Whole) → b.0 ≡ a.0 → b.0 ≡ take (length (on_trail b)) a.0
taken_all a b e = e ∙ sym (take_long (length (on_trail b)) a.0 (omega (arith, length-append b.0 b.2, ap (length {A = Lit}) e)))

pub taken_last : (a b : Whole) (l : Lit) → a.2 ≡ [] → b.2 ≡ [] → on_trail a ≡ on_trail b ++ l ∷ [] → b.0 ≡ take (length (on_trail b)) a.0
taken_last a b l e f h =
    let many : length (on_trail b) ≡ length b.0 = ap (λ (ys : List Lit). length (b.0 ++ ys)) f ∙ ap (length {A = Lit}) (append-nil b.0) in
    sym (ap (λ (k : ℕ). take k a.0) many ∙ ap (take (length b.0)) (last_counted a b l e f h) ∙ take-append-le (length b.0) b.0 (l ∷ []) (omega arith) ∙ take-length b.0)

-- what is assigned is what was propagated where nothing is left
pub whole_when : (a : Whole) → a.2 ≡ [] → a.0 ≡ on_trail a
whole_when a e = sym (append-nil a.0) ∙ ap (λ (ys : List Lit). a.0 ++ ys) (sym e)

nothing_more : (xs ys : List Lit) → xs ≡ xs ++ ys → ys ≡ []
nothing_more xs [] e = refl
nothing_more xs (y ∷ ys) e = absurd (omega (arith, ap (length {A = Lit}) e, length-append xs (y ∷ ys)))

pub none_when : (a : Whole) → a.0 ≡ on_trail a → a.2 ≡ []
none_when a e = nothing_more a.0 a.2 e

-- the next literal is assigned, and what falls with it is open before
twice : (b : Bool) → b ≡ not (not b)
twice true = refl
twice false = refl

back : (xs : List Lit) (l : Lit) → lists xs (opposite (opposite l)) ≡ lists xs l
back xs l = sym (ap (λ (b : Bool). lists xs (record { var = l.var; negated = b })) (twice l.negated))

pub next_listed : (a : Whole) (l m : Lit) → a.2 ≡ l ∷ drop 1 a.2 → m ≡ opposite l → lists (on_trail a) (opposite m) ≡ true
next_listed a l m e o =
    ap (λ (x : Lit). lists (on_trail a) (opposite x)) o ∙ back (on_trail a) l ∙ ap (λ (ys : List Lit). lists (a.0 ++ ys) l) e
    ∙ among_right a.0 (l ∷ drop 1 a.2) (l.var.0) l.negated (among_head l (drop 1 a.2))

pub next_open : (xs : List Lit) (l m : Lit) → m ≡ opposite l → lists xs l ≡ false → lists xs (opposite m) ≡ false
next_open xs l m o unset = ap (λ (x : Lit). lists xs (opposite x)) o ∙ back xs l ∙ unset

-- what is assigned stays
pub same_assigned : (a b : Whole) (l : Lit) → a.2 ≡ l ∷ drop 1 a.2 → b ≡ (a.0 ++ l ∷ [], a.1, drop 1 a.2) → on_trail b ≡ on_trail a
same_assigned a b l e f = ap on_trail f ∙ append_assoc a.0 (l ∷ []) (drop 1 a.2) ∙ ap (λ (ys : List Lit). a.0 ++ ys) (sym e)
