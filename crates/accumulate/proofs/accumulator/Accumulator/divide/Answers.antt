-- All numbers divided are the quotient.
use Rattle.std.proofs.Common.{rules, ◌≡◌, ℕ, ◌<◌, ap, sym, subst, ◌∙◌}
use mir.Syntax.{w128}
use Rattle.std.specs.Prelude.{unsigned_abs}
use Rattle.std.proofs.lemmas.Int.{to_z-of_z}
use Rattle.normal_form.specs.Normal.{coefficient}
use Rattle.cut_rules.specs.Rules.{IsCeiling, IsQuotient}
use Rattle.cut_rules.proofs.Meaning.{quotient_law}
use Rattle.cut_rules.proofs.OneOperand.{ceiling}
use Rattle.accumulate.proofs.accumulator.Accumulator.divide.Goals as goal

pub returns-clause-quotient : goal.returns-clause-quotient
returns-clause-quotient c =
    let above : 0 < c.unsigned_abs.result = search rules in
    let same : c.unsigned_abs.result ≡ unsigned_abs c.args.divisor = c.unsigned_abs.ensures.value ∙ ap unsigned_abs (to_z-of_z w128 c.args.divisor c.ranges.divisor) in
    subst (λ (k : ℕ). IsQuotient k c.args.self.now c.scale.new.self) same (record {
      coefficients = λ v s. subst (IsCeiling c.unsigned_abs.result (coefficient c.args.self.now v s)) (sym (c.in_ok-scale.ensures.coefficients v s)) (ceiling c.unsigned_abs.result (coefficient c.args.self.now v s) above);
      degree = subst (IsCeiling c.unsigned_abs.result c.args.self.now.degree) (sym c.in_ok-scale.ensures.degree) (ceiling c.unsigned_abs.result c.args.self.now.degree above);
      rises = c.in_ok-scale.ensures.normal.rises;
    })

pub returns-clause-keeps : goal.returns-clause-keeps
returns-clause-keeps c = quotient_law (unsigned_abs c.args.divisor) c.args.self.now c.scale.new.self (returns-clause-quotient c)
