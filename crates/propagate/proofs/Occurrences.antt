-- Where a literal occurs among terms in order of their variables.
use Rattle.std.proofs.Common.{◌≡◌, ℕ, zero, suc, ◌+◌, ◌<◌, ◌≤◌, Bool, true, false, cond, eqb, ◌==◌, ◌&&◌, List, [], ◌∷◌, length, get_or, refl, ap, sym, ◌∙◌, inl, inr, ◌⊎◌, arith}
use mathlib.Core.Bool.{beq}
use Rattle.std.proofs.lemmas.Bool.Decides.{nat_tests}
use Rattle.std.proofs.lemmas.Int.{ints}
use Rattle.linear.specs.declared.term.Lit.{Lit}
use Rattle.normal_form.specs.declared.term.NormalTerm.{NormalTerm}
use Rattle.normal_form.specs.Normal.{NormalConstraint, sum_over, only, same_sign, Rises}
use Rattle.normal_form.proofs.OneList.{absent, counted_own}
use Rattle.linear.specs.Literal.{opposite}
use Rattle.propagate.specs.Literals.{coefficient_of, lists}
use Rattle.propagate.specs.Walk.{CanForce}
use Rattle.propagate.specs.Slack.{not_false, IsForced}
use Rattle.propagate.specs.Passes.{literal_of}
use Rattle.normal_form.proofs.SetSums.{only_is}
use Rattle.normal_form.proofs.Sums.{rises_at}

later_variable : (low : ℕ) (ts : List NormalTerm) (i : ℕ) (d : NormalTerm) → Rises low ts → i < length ts → low ≤ (get_or ts i d).var.0
later_variable low [] i d r h = absurd (omega (arith, h))
later_variable low (t ∷ ts) zero d r h = r.0
later_variable low (t ∷ ts) (suc i) d r h = omega (arith, r.0, later_variable (t.var.0 + 1) ts i d r.2 (omega (arith, h)))

lower : (x v c : ℕ) (b : Bool) → x < v → cond ((x == v) && b) c 0 ≡ 0
lower x v c b h = grind (arith, nat_tests)

-- a term's coefficient is that of its literal
pub own_coefficient : (low : ℕ) (ts : List NormalTerm) (i : ℕ) (d : NormalTerm) → Rises low ts → i < length ts → sum_over (only ((get_or ts i d).var.0) (get_or ts i d).negated) ts ≡ (get_or ts i d).coef
own_coefficient low [] i d r h = absurd (omega (arith, h))
own_coefficient low (t ∷ ts) zero d r h = omega (arith, counted_own t, absent (t.var.0 + 1) ts r.2 (t.var.0) t.negated (omega arith))
own_coefficient low (t ∷ ts) (suc i) d r h =
    let u = get_or ts i d in
    let above = later_variable (t.var.0 + 1) ts i d r.2 (omega (arith, h)) in
    omega (arith, lower (t.var.0) (u.var.0) t.coef (same_sign u.negated t.negated) (omega (arith, above)), own_coefficient (t.var.0 + 1) ts i d r.2 (omega (arith, h)))

-- a literal with a coefficient has a term
abbrev pub StandsAt : List NormalTerm → ℕ → Bool → ℕ → Type 0
StandsAt ts v s k = (k < length ts) × ((d : NormalTerm) → ((get_or ts k d).var.0 ≡ v) × ((get_or ts k d).negated ≡ s))

tested : (b : Bool) (c rest : ℕ) → 0 < cond b c 0 + rest → (b ≡ true) ⊎ (0 < rest)
tested true c rest h = inl refl
tested false c rest h = inr (omega (arith, h))

pub stands : (ts : List NormalTerm) (v : ℕ) (s : Bool) → 0 < sum_over (only v s) ts → (k : ℕ) × StandsAt ts v s k
stands [] v s h = absurd (omega (arith, h))
stands (t ∷ ts) v s h = elim (tested (only v s (t.var.0) t.negated) t.coef (sum_over (only v s) ts) h) [
  | inl o ↦ (0, (omega arith, λ d. only_is v (t.var.0) s t.negated o))
  | inr later ↦ let r = stands ts v s later in (suc r.0, (omega (arith, r.1.0), r.1.1))
]

-- a term whose literal is forced where the slack is this
abbrev pub TermForces : List Lit → ℕ → NormalTerm → Type 0
TermForces assigned slack t = CanForce assigned slack t.coef (literal_of t)

literal : ℕ → Bool → Lit
literal v s = record { var = record { 0 = v }; negated = s }

pub same_literal : (l m : Lit) → l.var.0 ≡ m.var.0 → l.negated ≡ m.negated → l ≡ m
unfolding literal
same_literal l m v s =
    let one : literal (l.var.0) l.negated ≡ literal (m.var.0) l.negated = ap (λ (x : ℕ). literal x l.negated) v in
    let two : literal (m.var.0) l.negated ≡ literal (m.var.0) m.negated = ap (λ (x : Bool). literal (m.var.0) x) s in
    one ∙ two

-- what a term that can force forces, and that nothing else is forced
pub forced_at : (assigned : List Lit) (n : NormalConstraint) (slack : ℕ) (i : ℕ) (t : NormalTerm) → Rises 0 n.terms → i < length n.terms → t ≡ get_or n.terms i t → sum_over (not_false assigned) n.terms ≡ n.degree + slack → TermForces assigned slack t → IsForced assigned (literal_of t) n
forced_at assigned n slack i t r h is e can =
    let own : coefficient_of n (literal_of t) ≡ t.coef =
    ap (λ (u : NormalTerm). coefficient_of n (literal_of u)) is ∙ own_coefficient 0 n.terms i t r h ∙ sym (ap (λ (u : NormalTerm). u.coef) is) in
    record {
      unset = can.1;
      opposite_unset = can.2;
      occurs = omega (arith, own, can.0);
      above = omega (arith, ints, own, can.0, e);
    }

pub nothing_forced : (assigned : List Lit) (n : NormalConstraint) (slack : ℕ) → Rises 0 n.terms → sum_over (not_false assigned) n.terms ≡ n.degree + slack → ((k : ℕ) (d : NormalTerm) → k < length n.terms → TermForces assigned slack (get_or n.terms k d) → ⊥) → (l : Lit) → IsForced assigned l n → ⊥
nothing_forced assigned n slack r e none l f =
    let at = stands n.terms (l.var.0) l.negated f.occurs in
    let d : NormalTerm = record { coef = 0; var = l.var; negated = l.negated } in
    let t = get_or n.terms at.0 d in
    let same : literal_of t ≡ l = same_literal (literal_of t) l (at.1.1 d).0 (at.1.1 d).1 in
    let own : coefficient_of n (literal_of t) ≡ t.coef = own_coefficient 0 n.terms at.0 d r at.1.0 in
    let its : coefficient_of n (literal_of t) ≡ coefficient_of n l = ap (coefficient_of n) same in
    none at.0 d at.1.0 (
      omega (arith, ints, own, its, f.above, e),
      ap (lists assigned) same ∙ f.unset,
      ap (λ (m : Lit). lists assigned (opposite m)) same ∙ f.opposite_unset,
    )

-- a constraint has a literal exactly where a term is of it
pub has_at : (n : NormalConstraint) (l : Lit) (i : ℕ) (t : NormalTerm) → Rises 0 n.terms → i < length n.terms → t ≡ get_or n.terms i t → literal_of t ≡ l → 0 < coefficient_of n l
has_at n l i t r h is same =
    let own : coefficient_of n (literal_of t) ≡ t.coef =
    ap (λ (u : NormalTerm). coefficient_of n (literal_of u)) is ∙ own_coefficient 0 n.terms i t r h ∙ sym (ap (λ (u : NormalTerm). u.coef) is) in
    let its : t.coef ≡ (get_or n.terms i t).coef = ap (λ (u : NormalTerm). u.coef) is in
    let wanted : coefficient_of n (literal_of t) ≡ coefficient_of n l = ap (coefficient_of n) same in
    omega (arith, own, its, wanted, rises_at 0 n.terms i t r h)

pub has_none : (n : NormalConstraint) (l : Lit) → ((k : ℕ) (d : NormalTerm) → k < length n.terms → literal_of (get_or n.terms k d) ≡ l → ⊥) → 0 < coefficient_of n l → ⊥
has_none n l none h =
    let at = stands n.terms (l.var.0) l.negated h in
    let d : NormalTerm = record { coef = 0; var = l.var; negated = l.negated } in
    none at.0 d at.1.0 (same_literal (literal_of (get_or n.terms at.0 d)) l (at.1.1 d).0 (at.1.1 d).1)

-- literals that a test finds equal are one
pub equal : (x l : Lit) → (eqb (x.var.0) (l.var.0) && beq x.negated l.negated) ≡ true → x ≡ l
equal x l h =
    let both = and_true (eqb (x.var.0) (l.var.0)) (beq x.negated l.negated) h in
    let variable : x.var.0 ≡ l.var.0 = grind (arith, nat_tests, both.0) in
    same_literal x l variable (same_signs x.negated l.negated both.1)
  where
    and_true : (a b : Bool) → (a && b) ≡ true → (a ≡ true) × (b ≡ true)
    and_true true b h = (refl, h)
    and_true false b h = absurd (cc)

    same_signs : (a b : Bool) → beq a b ≡ true → a ≡ b
    same_signs true true h = refl
    same_signs true false h = absurd (cc)
    same_signs false true h = absurd (cc)
    same_signs false false h = refl
