-- Each step caps the coefficient of the next place.
use Rattle.std.proofs.Common.{ℕ, ◌∙◌, ◌<◌, min, length, refl, ap, arith}
use Rattle.std.proofs.lemmas.List.{get_or_default}
use Rattle.normal_form.specs.declared.term.NormalTerm.{NormalTerm}
use Rattle.cut_rules.proofs.InPlace.{inside, changed_next, changed_all}
use Rattle.cut_rules.proofs.saturation.cap_terms.Goals as goal

-- no coefficient above 0 becomes 0
capped_up : (cap : ℕ) → 0 < cap → (v n : ℕ) → 0 < n → 0 < min n cap
capped_up cap h v n p = omega (arith, h, p)

pub term-coef-requires : goal.term-coef-requires
term-coef-requires c = inside (λ _ x. min x c.args.cap) c.args.constraint.now.terms c.loop-place.constraint.terms c.loop-place.place (omega (arith, c.loop-place-test.true, c.len-place-end.ensures.value)) c.loop-place.invariant.terms

pub cap_term-requires-clause-place : goal.cap_term-requires-clause-place
cap_term-requires-clause-place c = inside (λ _ x. min x c.args.cap) c.args.constraint.now.terms c.loop-place.constraint.terms c.loop-place.place (omega (arith, c.loop-place-test.true, c.len-place-end.ensures.value)) c.loop-place.invariant.terms

pub cap_term-requires-clause-coefficient : goal.cap_term-requires-clause-coefficient
cap_term-requires-clause-coefficient c d =
    let here : c.loop-place.place < length c.loop-place.constraint.terms = inside (λ _ x. min x c.args.cap) c.args.constraint.now.terms c.loop-place.constraint.terms c.loop-place.place (omega (arith, c.loop-place-test.true, c.len-place-end.ensures.value)) c.loop-place.invariant.terms in
    ap (λ (t : NormalTerm). t.coef) (c.term-coef.ensures.value ∙ get_or_default c.loop-place.constraint.terms c.loop-place.place c.term-coef.result d here)

pub loop-place-preserved : goal.loop-place-preserved
loop-place-preserved c = record {
  terms = changed_next (λ _ x. min x c.args.cap) c.args.constraint.now.terms c.loop-place.constraint.terms c.cap_term.new.constraint.terms c.loop-place.place (min c.term-coef.result.coef c.args.cap) c.term-coef.result (omega (arith, c.loop-place-test.true, c.len-place-end.ensures.value)) c.loop-place.invariant.terms c.term-coef.ensures.value refl c.cap_term.ensures.terms;
  degree = c.cap_term.ensures.degree ∙ c.loop-place.invariant.degree;
}

pub returns-clause-terms : goal.returns-clause-terms
returns-clause-terms c = changed_all (λ _ x. min x c.args.cap) c.args.constraint.now.terms c.loop-place.constraint.terms c.loop-place.place c.len-place-end.ensures.normal.rises (capped_up c.args.cap c.requires) (omega (arith, c.loop-place-test.false, c.len-place-end.ensures.value, c.loop-place.auto.place-end)) c.loop-place.invariant.terms
