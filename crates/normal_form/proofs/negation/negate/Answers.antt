-- The flipped terms with this degree are the negation, whose meaning is a law.
use Rattle.std.proofs.Common.{◌≡◌, ◌+◌, ◌-◌, ◌↔◌, ap, ◌∙◌, arith}
use Rattle.linear.specs.Valuation.{Valuation}
use Rattle.normal_form.specs.Normal.{NormalConstraint, Holds, IsNormal, total}
use Rattle.normal_form.specs.Negation.{IsNegation}
use Rattle.normal_form.specs.Balance.{flipped}
use Rattle.normal_form.proofs.Negations.{negation_from, negation_meaning, not_fitting}
use Rattle.normal_form.proofs.FormDegrees.{if_ok_from}
use Rattle.normal_form.proofs.negation.negate.Goals as goal

terms_are : (c : goal.After-finish) → c.in_ok-opposite.opposite ≡ flipped c.args.constraint.now.terms
terms_are c = c.in_ok-opposite.ensures ∙ ap flipped c.terms.ensures.value

degree_is : (c : goal.After-finish) → c.saturating_sub.result ≡ (total c.args.constraint.now.terms + 1) - c.args.constraint.now.degree
degree_is c = omega (arith, c.saturating_sub.ensures, c.sum.ensures.value, c.degree.ensures.value)

negation_of : (c : goal.After-finish) (m : NormalConstraint) → m.terms ≡ c.in_ok-opposite.opposite → m.degree ≡ c.saturating_sub.result → IsNegation c.args.constraint.now m
negation_of c m t d = negation_from c.args.constraint.now m c.terms.ensures.normal.rises (t ∙ terms_are c) (d ∙ degree_is c)

pub returns-clause-form : goal.returns-clause-form
returns-clause-form c = if_ok_from c.finish.result (λ m. m.terms ≡ c.in_ok-opposite.opposite) (λ m. m.degree ≡ c.saturating_sub.result) IsNormal (IsNegation c.args.constraint.now) (λ m t d normal. negation_of c m t d) c.finish.ensures.terms c.finish.ensures.degree c.finish.ensures.normal

pub returns-clause-meaning : goal.returns-clause-meaning
returns-clause-meaning c = if_ok_from c.finish.result (λ m. m.terms ≡ c.in_ok-opposite.opposite) (λ m. m.degree ≡ c.saturating_sub.result) IsNormal (λ m. (a : Valuation) → Holds a m ↔ (Holds a c.args.constraint.now → ⊥)) (λ m t d normal. negation_meaning c.args.constraint.now m c.terms.ensures.normal.rises (negation_of c m t d)) c.finish.ensures.terms c.finish.ensures.degree c.finish.ensures.normal

pub returns-clause-too_large : goal.returns-clause-too_large
returns-clause-too_large c e = not_fitting c.args.constraint.now c.in_ok-opposite.opposite c.saturating_sub.result c.terms.ensures.normal (terms_are c) (degree_is c) (c.finish.ensures.too_large.0 e)
