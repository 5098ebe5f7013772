-- Assignments as sets of literals.
use Rattle.std.proofs.Common.{◌≡◌, ℕ, Bool, true, false, not, ◌||◌, List, [], ◌∷◌, ◌++◌, refl, ap, sym, subst, ◌∙◌, arith, inl, inr, ◌⊎◌, All}
use Rattle.std.proofs.lemmas.Bool.{false≢true}
use Rattle.std.proofs.lemmas.Bool.Decides.{nat_tests}
use Rattle.std.proofs.lemmas.List.Elements.{All-head, All-tail}
use Rattle.linear.specs.declared.term.Lit.{Lit}
use Rattle.linear.specs.Valuation.{Valuation, literal_true}
use Rattle.normal_form.specs.Normal.{Literals, only}
use Rattle.propagate.specs.Literals.{among, lists, IsOnce, MakesTrue}
use Rattle.propagate.specs.Slack.{not_false}
use Rattle.normal_form.proofs.SetSums.{Within, only_is, only_itself}

or_append : (b d e : Bool) → (b || (d || e)) ≡ ((b || d) || e)
or_append true d e = refl
or_append false d e = refl

or_nothing : (b : Bool) → b ≡ (b || false)
or_nothing true = refl
or_nothing false = refl

-- an assignment continued has the literals of both
pub among_append : (xs ys : List Lit) (v : ℕ) (s : Bool) → among (xs ++ ys) v s ≡ (among xs v s || among ys v s)
among_append [] ys v s = refl
among_append (l ∷ ls) ys v s =
    ap (λ (b : Bool). only (l.var.0) l.negated v s || b) (among_append ls ys v s) ∙ or_append (only (l.var.0) l.negated v s) (among ls v s) (among ys v s)

pub or_cases : (b d : Bool) → (b || d) ≡ true → (b ≡ true) ⊎ (d ≡ true)
or_cases true d h = inl refl
or_cases false d h = inr h

or_left : (b d : Bool) → b ≡ true → (b || d) ≡ true
or_left true d h = refl
or_left false d h = absurd (false≢true h)

or_right : (b d : Bool) → d ≡ true → (b || d) ≡ true
or_right true d h = refl
or_right false d h = h

pub among_left : (xs ys : List Lit) (v : ℕ) (s : Bool) → among xs v s ≡ true → among (xs ++ ys) v s ≡ true
among_left xs ys v s h = among_append xs ys v s ∙ or_left (among xs v s) (among ys v s) h

pub among_right : (xs ys : List Lit) (v : ℕ) (s : Bool) → among ys v s ≡ true → among (xs ++ ys) v s ≡ true
among_right xs ys v s h = among_append xs ys v s ∙ or_right (among xs v s) (among ys v s) h

pub among_cases : (xs ys : List Lit) (v : ℕ) (s : Bool) → among (xs ++ ys) v s ≡ true → (among xs v s ≡ true) ⊎ (among ys v s ≡ true)
among_cases xs ys v s h = or_cases (among xs v s) (among ys v s) (cc (among_append xs ys v s))

pub among_head : (l : Lit) (ls : List Lit) → among (l ∷ ls) (l.var.0) l.negated ≡ true
among_head l ls = or_left (only (l.var.0) l.negated (l.var.0) l.negated) (among ls (l.var.0) l.negated) (only_itself (l.var.0) l.negated)

pub among_tail : (l : Lit) (ls : List Lit) (v : ℕ) (s : Bool) → among ls v s ≡ true → among (l ∷ ls) v s ≡ true
among_tail l ls v s h = or_right (only (l.var.0) l.negated v s) (among ls v s) h

-- an assignment with one more literal stays within a set that has both
pub among_pushed : (set : Literals) (xs : List Lit) (l : Lit) → Within (among xs) set → set (l.var.0) l.negated ≡ true → Within (among (xs ++ l ∷ [])) set
among_pushed set xs l h k v s e = elim (among_cases xs (l ∷ []) v s e) [
  | inl m ↦ h v s m
  | inr m ↦ elim (or_cases (only (l.var.0) l.negated v s) false m) [
    | inl o ↦ let same = only_is (l.var.0) v l.negated s o in cc
    | inr o ↦ absurd (false≢true o)
  ]
]

not_within : (b d : Bool) → (b ≡ true → d ≡ true) → not d ≡ true → not b ≡ true
not_within true true h e = e
not_within true false h e = absurd (false≢true (h refl))
not_within false d h e = refl

-- the more is listed, the fewer literals are not made false
pub fewer_not_false : (xs ys : List Lit) → Within (among xs) (among ys) → Within (not_false ys) (not_false xs)
fewer_not_false xs ys h v s e = not_within (among xs v (not s)) (among ys v (not s)) (h v (not s)) e

-- an assignment whose literals are all true lies within the true literals
pub listed_true : (a : Valuation) (xs : List Lit) → All (MakesTrue a) xs → Within (among xs) (literal_true a)
listed_true a [] h v s e = absurd (false≢true e)
listed_true a (l ∷ ls) h v s e = elim (or_cases (only (l.var.0) l.negated v s) (among ls v s) e) [
  | inl o ↦ let same = only_is (l.var.0) v l.negated s o in let here = All-head (MakesTrue a) l ls h in cc
  | inr o ↦ listed_true a ls (All-tail (MakesTrue a) l ls h) v s o
]

one_true : (b : Bool) (s : Bool) → Rattle.std.proofs.Common.cond s (not b) b ≡ true → Rattle.std.proofs.Common.cond (not s) (not b) b ≡ true → false ≡ true
one_true true true h k = h
one_true true false h k = k
one_true false true h k = k
one_true false false h k = h

shut : (b d : Bool) → (d ≡ true → b ≡ true) → (b ≡ true → false ≡ true) → not d ≡ true
shut b true h k = absurd (false≢true (k (h refl)))
shut b false h k = refl

-- and then no true literal is made false
pub true_not_false : (a : Valuation) (xs : List Lit) → Within (among xs) (literal_true a) → Within (literal_true a) (not_false xs)
true_not_false a xs h v s e = shut (literal_true a v (not s)) (among xs v (not s)) (h v (not s)) (λ k. one_true (a v) s e k)

only_turned : (v w : ℕ) (s t : Bool) → only v s w t ≡ only w t v s
only_turned v w true true = grind (arith, nat_tests)
only_turned v w true false = grind (arith, nat_tests)
only_turned v w false true = grind (arith, nat_tests)
only_turned v w false false = grind (arith, nat_tests)

or_neither : (b d : Bool) → (b || d) ≡ false → (b ≡ false) × (d ≡ false)
or_neither true d h = absurd (false≢true (cc))
or_neither false d h = (refl, h)

neither_or : (b d : Bool) → b ≡ false → d ≡ false → (b || d) ≡ false
neither_or true d h k = absurd (false≢true (cc))
neither_or false d h k = k

-- a literal that is not listed may be put at the end
pub once_push : (xs : List Lit) (l : Lit) → IsOnce xs → lists xs l ≡ false → IsOnce (xs ++ l ∷ [])
once_push [] l h e = (refl, tt)
once_push (x ∷ xs) l h e =
    let apart = or_neither (only (x.var.0) x.negated (l.var.0) l.negated) (lists xs l) e in
    let other = only_turned (l.var.0) (x.var.0) l.negated x.negated ∙ apart.0 in
    let absent = neither_or (only (l.var.0) l.negated (x.var.0) x.negated) false other refl in (
      among_append xs (l ∷ []) (x.var.0) x.negated ∙ neither_or (lists xs x) (among (l ∷ []) (x.var.0) x.negated) h.0 absent,
      once_push xs l h.1 apart.1,
    )

-- the same, where the parts are known by other names
pub once_pushed : (old assigned new : List Lit) (l : Lit) → IsOnce assigned → assigned ≡ old → new ≡ assigned ++ l ∷ [] → lists old l ≡ false → IsOnce new
once_pushed old assigned new l h e f unset =
    subst IsOnce (sym f) (once_push assigned l h (ap (λ (xs : List Lit). lists xs l) e ∙ unset))
