-- All numbers multiplied are the multiple.
use Rattle.std.proofs.Common.{rules, ◌≡◌, ℕ, false, ap, subst, ◌∙◌}
use mir.Syntax.{w128}
use Rattle.std.specs.Prelude.{IsTrue, unsigned_abs}
use Rattle.std.proofs.lemmas.Int.{to_z-of_z}
use Rattle.normal_form.specs.Normal.{NormalConstraint}
use Rattle.cut_rules.specs.Rules.{IsMultiple, IsTooLarge}
use Rattle.cut_rules.proofs.Meaning.{multiple_law}
use Rattle.cut_rules.proofs.OneOperand.{multiple_too_large, multiple_within}
use Rattle.accumulate.proofs.accumulator.Accumulator.multiply.Goals as goal

never : IsTrue false → ⊥
never h = search rules

pub returns-then-not-multiple_fits-clause-too_large : goal.returns-then-not-multiple_fits-clause-too_large
returns-then-not-multiple_fits-clause-too_large c e =
    let same : c.unsigned_abs-factor.result ≡ unsigned_abs c.args.factor = c.unsigned_abs-factor.ensures.value ∙ ap unsigned_abs (to_z-of_z w128 c.args.factor c.ranges.factor) in
    subst (λ (k : ℕ). (r : NormalConstraint) × IsTooLarge (IsMultiple k c.args.self.now) r) same
    (multiple_too_large c.unsigned_abs-factor.result c.args.self.now c.if-not-multiple_fits.ensures.normal.rises (λ both. never (c.if-not-multiple_fits.ensures.fits.1 both)))

pub returns-clause-multiple : goal.returns-clause-multiple
returns-clause-multiple c =
    let same : c.unsigned_abs-factor.result ≡ unsigned_abs c.args.factor = c.unsigned_abs-factor.ensures.value ∙ ap unsigned_abs (to_z-of_z w128 c.args.factor c.ranges.factor) in
    subst (λ (k : ℕ). IsMultiple k c.args.self.now c.scale.new.self) same (record {
      coefficients = c.in_ok-scale.ensures.coefficients;
      degree = c.in_ok-scale.ensures.degree;
      rises = c.in_ok-scale.ensures.normal.rises;
    })

pub returns-clause-keeps : goal.returns-clause-keeps
returns-clause-keeps c = multiple_law (unsigned_abs c.args.factor) c.args.self.now c.scale.new.self (returns-clause-multiple c)

pub returns-clause-within : goal.returns-clause-within
returns-clause-within c = multiple_within (unsigned_abs c.args.factor) c.args.self.now c.scale.new.self (returns-clause-multiple c) c.in_ok-scale.ensures.normal.fits
