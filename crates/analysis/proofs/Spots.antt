-- Where a variable stands tells at each level which of its literals are listed.
use Rattle.std.proofs.Common.{◌≡◌, ℕ, zero, suc, ◌<◌, Bool, true, false, not, nat_lt, if◌then◌else◌, ◌||◌, ◌&&◌, List, [], ◌∷◌, length, get_or, refl, sym, ap, ◌∙◌, arith}
use Rattle.std.proofs.lemmas.Bool.Decides.{nat_tests}
use Rattle.linear.specs.declared.term.Lit.{Lit}
use Rattle.normal_form.specs.Normal.{only, same_sign}
use Rattle.propagate.specs.Literals.{among}
use Rattle.analysis.specs.declared.entry.Entry.{Entry}
use Rattle.analysis.specs.Biting.{literals_up_to}

-- the first entry is listed or passed over
listed_first : (b : Bool) (l : Lit) (xs : List Lit) (v : ℕ) (s : Bool) → among (if b then xs else l ∷ xs) v s ≡ ((only (l.var.0) l.negated v s && not b) || among xs v s)
listed_first true l xs v s = by_false (only (l.var.0) l.negated v s) (among xs v s)
  where
    by_false : (b d : Bool) → d ≡ ((b && false) || d)
    by_false true d = refl
    by_false false d = refl
listed_first false l xs v s = by_true (only (l.var.0) l.negated v s) (among xs v s)
  where
    by_true : (b d : Bool) → (b || d) ≡ ((b && true) || d)
    by_true true d = refl
    by_true false d = refl

or_false : (b d e : Bool) → b ≡ false → d ≡ e → (b || d) ≡ e
or_false true d e h k = cc
or_false false d e h k = k

or_nothing : (b d e : Bool) → d ≡ false → b ≡ e → (b || d) ≡ e
or_nothing true d e h k = k
or_nothing false d e h k = h ∙ k

same_variable : (v : ℕ) (s t b : Bool) → (only v s v t && b) ≡ (same_sign s t && b)
same_variable v s t b = grind (arith, nat_tests)

other_variable : (v w : ℕ) (s t b : Bool) → (w ≡ v → ⊥) → (only v s w t && b) ≡ false
other_variable v w s t b h = grind (arith, nat_tests)

-- a variable that stands nowhere is not listed
none_listed : (level : ℕ) (es : List Entry) (v : ℕ) (s : Bool) → ((k : ℕ) (d : Entry) → k < length es → (get_or es k d).literal.var.0 ≡ v → ⊥) → among (literals_up_to level es) v s ≡ false
none_listed level [] v s h = refl
none_listed level (e ∷ es) v s h =
    listed_first (nat_lt level e.level) e.literal (literals_up_to level es) v s
    ∙ or_false (only (e.literal.var.0) e.literal.negated v s && not (nat_lt level e.level)) (among (literals_up_to level es) v s) false
    (other_variable (e.literal.var.0) v e.literal.negated s (not (nat_lt level e.level)) (λ same. h 0 e (omega arith) (sym same)))
    (none_listed level es v s (λ k d low. h (suc k) d (omega (arith, low))))

-- one that stands at a place is listed with the sign, and from the level on, that the entry there has
pub listed_as : (level : ℕ) (es : List Entry) (p : ℕ) (d : Entry) (v : ℕ) (s : Bool) → p < length es → (get_or es p d).literal.var.0 ≡ v → ((k : ℕ) (e : Entry) → k < length es → (get_or es k e).literal.var.0 ≡ v → k ≡ p)
    → among (literals_up_to level es) v s ≡ (same_sign (get_or es p d).literal.negated s && not (nat_lt level (get_or es p d).level))
listed_as level [] p d v s h here one = absurd (omega (arith, h))
listed_as level (x ∷ xs) zero d v s h here one =
    let off : Bool = not (nat_lt level x.level) in
    listed_first (nat_lt level x.level) x.literal (literals_up_to level xs) v s
    ∙ or_nothing (only (x.literal.var.0) x.literal.negated v s && off) (among (literals_up_to level xs) v s) (same_sign x.literal.negated s && off)
    (none_listed level xs v s (λ k e low is. absurd (omega (arith, one (suc k) e (omega (arith, low)) is))))
    (ap (λ (y : ℕ). only y x.literal.negated v s && off) here ∙ same_variable v x.literal.negated s off)
listed_as level (x ∷ xs) (suc p) d v s h here one =
    listed_first (nat_lt level x.level) x.literal (literals_up_to level xs) v s
    ∙ or_false (only (x.literal.var.0) x.literal.negated v s && not (nat_lt level x.level)) (among (literals_up_to level xs) v s)
    (same_sign (get_or xs p d).literal.negated s && not (nat_lt level (get_or xs p d).level))
    (other_variable (x.literal.var.0) v x.literal.negated s (not (nat_lt level x.level)) (λ same. absurd (omega (arith, one 0 x (omega arith) (sym same)))))
    (listed_as level xs p d v s (omega (arith, h)) here (λ k e low is. omega (arith, one (suc k) e (omega (arith, low)) is)))
