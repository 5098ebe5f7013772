-- Each rule of cutting planes has a result, in numbers without bound: on constraints whose variables rise, and addition
-- on any two.
use Rattle.std.proofs.Common.{◌≡◌, ℕ, ◌+◌, ◌-◌, ◌*◌, ◌<◌, min, Bool, true, false, cond, ◌==◌, ◌&&◌, pos, ◌+ℤ◌, List, [], ◌∷◌, ◌++◌, map, refl, ap, arith}
use Rattle.std.specs.Int.{div_ceil}
use Rattle.std.proofs.lemmas.Bool.Decides.{nat_tests}
use Rattle.std.proofs.lemmas.Int.{ints}
use Rattle.linear.specs.declared.term.Lit.{Lit}
use Rattle.linear.specs.declared.term.Term.{Term}
use Rattle.normal_form.specs.declared.term.NormalTerm.{NormalTerm}
use Rattle.normal_form.specs.Normal.{NormalConstraint, coefficient, same_sign, Rises}
use Rattle.normal_form.specs.Balance.{rise_of, rises_of, slopes}
use Rattle.normal_form.proofs.BalancedList.{formed, formed_balances, formed_rises}
use Rattle.substitution.specs.Under.{signed_term}
use Rattle.cut_rules.specs.Rules.{IsSum, IsMultiple, IsQuotient, IsSaturation, IsWeakening, IsAxiom, cancelled}
use Rattle.cut_rules.specs.Steps.{SumBalances, changed, less, times, parts}
use Rattle.cut_rules.proofs.Sum.{sum_from}
use Rattle.cut_rules.proofs.OneOperand.{multiple_from, quotient_from, saturation_from, weakening_from}

abbrev constraint : List NormalTerm → ℕ → NormalConstraint
constraint terms degree = record { terms = terms; degree = degree }

signed_slopes : (set : ℕ → Bool) (ts : List NormalTerm) → slopes set (map signed_term ts) ≡ rises_of set ts
signed_slopes set [] = refl
signed_slopes set (t ∷ ts) = ap (λ z. cond (set (t.var.0)) (rise_of t) (pos 0) +ℤ z) (signed_slopes set ts)

slopes-append : (set : ℕ → Bool) (xs ys : List Term) → slopes set (xs ++ ys) ≡ slopes set xs +ℤ slopes set ys
slopes-append set [] ys = omega (arith, ints)
slopes-append set (x ∷ xs) ys = omega (arith, ints, slopes-append set xs ys)

-- the terms of two constraints, merged
abbrev merged : NormalConstraint → NormalConstraint → List NormalTerm
merged d e = formed (map signed_term d.terms ++ map signed_term e.terms)

merged_balances : (d e : NormalConstraint) → SumBalances d.terms e.terms (merged d e)
merged_balances d e set =
    let ds : List Term = map signed_term d.terms in
    let es : List Term = map signed_term e.terms in
    let whole : rises_of set (merged d e) ≡ slopes set (ds ++ es) = formed_balances (ds ++ es) set in
    let left : slopes set ds ≡ rises_of set d.terms = signed_slopes set d.terms in
    let right : slopes set es ≡ rises_of set e.terms = signed_slopes set e.terms in
    omega (arith, ints, whole, slopes-append set ds es, left, right)

pub sum_exists : (d e : NormalConstraint) → (r : NormalConstraint) × IsSum d e r
sum_exists d e =
    let ts : List NormalTerm = merged d e in
    let degree : ℕ = (d.degree + e.degree) - cancelled d e in
    (constraint ts degree, sum_from d e (constraint ts degree) ts degree (formed_rises (map signed_term d.terms ++ map signed_term e.terms)) (merged_balances d e) refl refl refl)

pub multiple_exists : (k : ℕ) (d : NormalConstraint) → Rises 0 d.terms → (r : NormalConstraint) × IsMultiple k d r
multiple_exists k d up =
    let ts : List NormalTerm = changed (times k) d.terms in
    (constraint ts (k * d.degree), multiple_from k d (constraint ts (k * d.degree)) ts (k * d.degree) up refl refl refl refl)

pub quotient_exists : (k : ℕ) (d : NormalConstraint) → 0 < k → Rises 0 d.terms → (r : NormalConstraint) × IsQuotient k d r
quotient_exists k d above up =
    let ts : List NormalTerm = changed (parts k) d.terms in
    let degree : ℕ = div_ceil d.degree k in
    (constraint ts degree, quotient_from k d (constraint ts degree) ts degree above up refl refl refl refl)

pub saturation_exists : (d : NormalConstraint) → Rises 0 d.terms → (r : NormalConstraint) × IsSaturation d r
saturation_exists d up =
    let ts : List NormalTerm = changed (λ _ c. min c d.degree) d.terms in
    (constraint ts d.degree, saturation_from d (constraint ts d.degree) ts d.degree up refl refl refl refl)

pub weakening_exists : (x : ℕ) (d : NormalConstraint) → Rises 0 d.terms → (r : NormalConstraint) × IsWeakening x d r
weakening_exists x d up =
    let ts : List NormalTerm = changed (less x) d.terms in
    let gone : ℕ = coefficient d x false + coefficient d x true in
    (constraint ts (d.degree - gone), weakening_from x d (constraint ts (d.degree - gone)) ts (d.degree - gone) gone up refl refl refl refl refl)

axiom_at : (x v : ℕ) (s n : Bool) → cond ((x == v) && same_sign s n) 1 0 + 0 ≡ cond ((v == x) && same_sign s n) 1 0
axiom_at x v s n = grind (arith, nat_tests)

pub axiom_exists : (l : Lit) → (r : NormalConstraint) × IsAxiom l r
axiom_exists l = (
  constraint (record { coef = 1; var = l.var; negated = l.negated } ∷ []) 0,
  record { coefficients = λ v s. axiom_at (l.var.0) v s l.negated; degree = refl; rises = (omega arith, omega arith, tt) },
)
