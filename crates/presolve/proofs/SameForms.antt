-- What the code's test of equality says of keys: that their constraints are the same.
use Rattle.std.proofs.Common.{◌≡◌, ◌==◌, ◌&&◌, ℕ, Bool, true, false, refl, subst, sym, ◌∙◌, arith}
use Rattle.std.specs.Prelude.{◌↔◌}
use Rattle.std.proofs.Math.Bool.{beq}
use Rattle.std.proofs.lemmas.Bool.{false≢true}
use Rattle.std.proofs.lemmas.Bool.Decides.{nat_tests}
use Rattle.normal_form.proofs.OneList.{same_term}
use Rattle.normal_form.specs.declared.term.NormalTerm.{NormalTerm}
use Rattle.normal_form.specs.contracts.term.NormalTermPartialEq.TheImpl as terms
use Rattle.presolve.specs.contracts.form.FormPartialEq.TheImpl as forms
use Rattle.presolve.proofs.Keys.{TellsApart, both_same, lists_same}

terms_tell : (t u : NormalTerm) → (terms.eq-value.it t u ≡ true) ↔ (t ≡ u)
terms_tell t u = (λ h. by (t.coef == u.coef) (t.var.0 == u.var.0) t.negated u.negated refl refl refl refl h, λ e. subst (λ x. terms.eq-value.it t x ≡ true) e (itself t.coef (t.var.0) t.negated))
  where
    by : (p q r s : Bool) → p ≡ (t.coef == u.coef) → q ≡ (t.var.0 == u.var.0) → r ≡ t.negated → s ≡ u.negated → (p && (q && beq r s)) ≡ true → t ≡ u
    by true true true true e f g k h = same_term t u (grind (arith, nat_tests)) (grind (arith, nat_tests)) (sym g ∙ k)
    by true true false false e f g k h = same_term t u (grind (arith, nat_tests)) (grind (arith, nat_tests)) (sym g ∙ k)
    by true true true false e f g k h = absurd (false≢true h)
    by true true false true e f g k h = absurd (false≢true h)
    by true false r s e f g k h = absurd (false≢true h)
    by false q r s e f g k h = absurd (false≢true h)

    itself : (c v : ℕ) (s : Bool) → ((c == c) && ((v == v) && beq s s)) ≡ true
    itself c v true = grind (arith, nat_tests)
    itself c v false = grind (arith, nat_tests)

pub tells : TellsApart forms.eq-value.it
tells a b = both_same a b _ _ (lists_same terms.eq-value.it terms_tell a.terms.items b.terms.items) (λ h. grind (arith, nat_tests), λ h. grind (arith, nat_tests))
