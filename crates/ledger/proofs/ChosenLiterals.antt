-- Literals of a constraint, by its terms.
use Rattle.std.proofs.Common.{◌≡◌, ◌++◌, ℕ, zero, suc, ◌+◌, ◌<◌, ◌≤◌, Bool, true, false, ◌&&◌, eqb, List, [], ◌∷◌, length, get_or, refl, ap, sym, subst, ◌∙◌, arith}
use mathlib.Core.Bool.{beq}
use Rattle.std.proofs.lemmas.Bool.{false≢true}
use Rattle.std.proofs.lemmas.Bool.Decides.{nat_tests}
use Rattle.linear.specs.declared.term.Lit.{Lit}
use Rattle.normal_form.specs.declared.term.NormalTerm.{NormalTerm}
use Rattle.normal_form.specs.Normal.{NormalConstraint, Rises}
use Rattle.propagate.specs.Literals.{coefficient_of}
use Rattle.propagate.specs.Passes.{literal_of}
use Rattle.linear.specs.Literal.{opposite}
use Rattle.propagate.proofs.Assignments.{among_left}
use Rattle.propagate.proofs.Occurrences.{own_coefficient, same_literal, stands}
use Rattle.ledger.specs.declared.pair.Pair.{Pair}
use Rattle.ledger.specs.Watched.{AreOthersFalse, IsClause, IsFalseBeside}

-- a literal with a coefficient has a term
pub has_term : (n : NormalConstraint) (l : Lit) → 0 < coefficient_of n l → (k : ℕ) × (k < length n.terms) × ((d : NormalTerm) → literal_of (get_or n.terms k d) ≡ l)
has_term n l some =
    let at = stands n.terms (l.var.0) l.negated some in
    (at.0, at.1.0, λ d. same_literal (literal_of (get_or n.terms at.0 d)) l (at.1.1 d).0 (at.1.1 d).1)

-- the coefficient of a term is that of its literal
pub of_term : (n : NormalConstraint) (k : ℕ) (d : NormalTerm) → Rises 0 n.terms → k < length n.terms → coefficient_of n (literal_of (get_or n.terms k d)) ≡ (get_or n.terms k d).coef
of_term n k d rises h = own_coefficient 0 n.terms k d rises h

-- where no coefficient is below the degree, each literal satisfies the constraint
pub clause_from : (n : NormalConstraint) → Rises 0 n.terms → ((k : ℕ) (d : NormalTerm) → k < length n.terms → n.degree ≤ (get_or n.terms k d).coef) → IsClause n
clause_from n rises all l some =
    let at = has_term n l some in
    let d : NormalTerm = record { coef = 0; var = l.var; negated = l.negated } in
    let own : coefficient_of n (literal_of (get_or n.terms at.0 d)) ≡ (get_or n.terms at.0 d).coef = of_term n at.0 d rises at.1 in
    let same : coefficient_of n l ≡ coefficient_of n (literal_of (get_or n.terms at.0 d)) = sym (ap (coefficient_of n) (at.2 d)) in
    omega (arith, all at.0 d at.1, own, same)

-- where that is so of the literals of all terms, it is so of all literals
pub others_false : (assigned : List Lit) (p : Pair) (n : NormalConstraint) → ((k : ℕ) (d : NormalTerm) → k < length n.terms → IsFalseBeside assigned p (literal_of (get_or n.terms k d))) → AreOthersFalse assigned n p
others_false assigned p n all l some =
    let at = has_term n l some in
    let d : NormalTerm = record { coef = 0; var = l.var; negated = l.negated } in
    subst (IsFalseBeside assigned p) (at.2 d) (all at.0 d at.1)

pub false_longer : (xs ys : List Lit) (p : Pair) (l : Lit) → IsFalseBeside xs p l → IsFalseBeside (xs ++ ys) p l
false_longer xs ys p l h a b = among_left xs ys (l.var.0) (opposite l).negated (h a b)

pub others_longer : (xs ys : List Lit) (n : NormalConstraint) (p : Pair) → AreOthersFalse xs n p → AreOthersFalse (xs ++ ys) n p
others_longer xs ys n p h l some = false_longer xs ys p l (h l some)

-- the terms' variables rise
variable_from : (low : ℕ) (ts : List NormalTerm) (i : ℕ) (d : NormalTerm) → Rises low ts → i < length ts → low ≤ (get_or ts i d).var.0
variable_from low [] i d r h = absurd (omega (arith, h))
variable_from low (t ∷ ts) zero d r h = r.0
variable_from low (t ∷ ts) (suc i) d r h = omega (arith, r.0, variable_from (t.var.0 + 1) ts i d r.2 (omega (arith, h)))

pub variables_rise : (low : ℕ) (ts : List NormalTerm) (i j : ℕ) (d e : NormalTerm) → Rises low ts → i < j → j < length ts → (get_or ts i d).var.0 < (get_or ts j e).var.0
variables_rise low [] i j d e r h k = absurd (omega (arith, k))
variables_rise low (t ∷ ts) zero zero d e r h k = absurd (omega (arith, h))
variables_rise low (t ∷ ts) zero (suc j) d e r h k = omega (arith, variable_from (t.var.0 + 1) ts j e r.2 (omega (arith, k)))
variables_rise low (t ∷ ts) (suc i) zero d e r h k = absurd (omega (arith, h))
variables_rise low (t ∷ ts) (suc i) (suc j) d e r h k = variables_rise (t.var.0 + 1) ts i j d e r.2 (omega (arith, h)) (omega (arith, k))

-- a term's coefficient is above 0
positive : (low : ℕ) (ts : List NormalTerm) (i : ℕ) (d : NormalTerm) → Rises low ts → i < length ts → 0 < (get_or ts i d).coef
positive low [] i d r h = absurd (omega (arith, h))
positive low (t ∷ ts) zero d r h = r.1
positive low (t ∷ ts) (suc i) d r h = positive (t.var.0 + 1) ts i d r.2 (omega (arith, h))

pub occurs_at : (n : NormalConstraint) (i : ℕ) (t : NormalTerm) → Rises 0 n.terms → i < length n.terms → t ≡ get_or n.terms i t → 0 < coefficient_of n (literal_of t)
occurs_at n i t rises h is = omega (arith, of_term n i t rises h, positive 0 n.terms i t rises h, ap (λ (u : NormalTerm). coefficient_of n (literal_of u)) is)

-- literals that a test tells apart are not the same
beq_same : (b : Bool) → beq b b ≡ true
beq_same true = refl
beq_same false = refl

and_true : (a b : Bool) → a ≡ true → b ≡ true → (a && b) ≡ true
and_true a b e f = cc

tested_same : (l : Lit) → (eqb (l.var.0) (l.var.0) && beq l.negated l.negated) ≡ true
tested_same l = and_true (eqb (l.var.0) (l.var.0)) (beq l.negated l.negated) (grind (arith, nat_tests)) (beq_same l.negated)

pub apart : (l m : Lit) → (eqb (l.var.0) (m.var.0) && beq l.negated m.negated) ≡ false → l ≡ m → ⊥
apart l m f e = false≢true (sym f ∙ ap (λ (x : Lit). eqb (l.var.0) (x.var.0) && beq l.negated x.negated) (sym e) ∙ tested_same l)
