-- Where the degree is 0 all terms go, and else they are capped.
use Rattle.std.proofs.Common.{◌≡◌, ℕ, min, List, [], ◌∷◌, ◌++◌, refl, ap, sym, ◌∙◌, arith}
use Rattle.normal_form.specs.declared.term.NormalTerm.{NormalTerm}
use Rattle.cut_rules.specs.Steps.{changed}
use Rattle.cut_rules.proofs.Changed.{kept_none}
use Rattle.cut_rules.proofs.Meaning.{saturation_law}
use Rattle.cut_rules.proofs.OneOperand.{saturation_from}
use Rattle.cut_rules.proofs.saturation.saturate_in_place.Goals as goal

gone : (cap : ℕ) (ts : List NormalTerm) → cap ≡ 0 → changed (λ _ c. min c cap) ts ≡ []
gone cap [] h = refl
gone cap (t ∷ ts) h =
    let none : min t.coef cap ≡ 0 = omega (arith, h) in
    ap (λ (us : List NormalTerm). us ++ changed (λ _ c. min c cap) ts) (kept_none t (min t.coef cap) none) ∙ gone cap ts h

pub returns-then-degree-eq0-clause-saturation : goal.returns-then-degree-eq0-clause-saturation
returns-then-degree-eq0-clause-saturation c = saturation_from c.args.constraint.now c.clear_terms.new.self [] c.degree-degree.result c.degree-degree.ensures.normal.rises (sym (gone c.degree-degree.result c.args.constraint.now.terms c.if-degree-eq0.true)) c.degree-degree.ensures.value c.clear_terms.ensures.terms (c.clear_terms.ensures.degree ∙ sym c.degree-degree.ensures.value)

pub returns-then-degree-eq0-clause-keeps : goal.returns-then-degree-eq0-clause-keeps
returns-then-degree-eq0-clause-keeps c = saturation_law c.args.constraint.now c.clear_terms.new.self (returns-then-degree-eq0-clause-saturation c)

pub returns-clause-saturation : goal.returns-clause-saturation
returns-clause-saturation c = saturation_from c.args.constraint.now c.cap_terms.new.constraint c.cap_terms.new.constraint.terms c.degree-degree.result c.degree-degree.ensures.normal.rises c.cap_terms.ensures.terms c.degree-degree.ensures.value refl (c.cap_terms.ensures.degree ∙ sym c.degree-degree.ensures.value)

pub returns-clause-keeps : goal.returns-clause-keeps
returns-clause-keeps c = saturation_law c.args.constraint.now c.cap_terms.new.constraint (returns-clause-saturation c)
