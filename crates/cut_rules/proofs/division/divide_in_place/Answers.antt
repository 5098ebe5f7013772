-- The divided terms with the divided degree are the quotient.
use Rattle.std.proofs.Common.{rules, ◌≡◌, ℕ, ◌<◌, ap, subst, ◌∙◌}
use Rattle.std.specs.Prelude.{unsigned_abs}
use Rattle.std.specs.Int.{div_ceil}
use mir.Syntax.{w128}
use Rattle.std.proofs.lemmas.Int.{to_z-of_z}
use Rattle.cut_rules.specs.Rules.{IsQuotient}
use Rattle.cut_rules.proofs.Meaning.{quotient_law}
use Rattle.cut_rules.proofs.OneOperand.{quotient_from}
use Rattle.cut_rules.proofs.division.divide_in_place.Goals as goal

pub returns-clause-quotient : goal.returns-clause-quotient
returns-clause-quotient c =
    let above : 0 < c.unsigned_abs-divisor.result = search rules in
    let same : c.unsigned_abs-divisor.result ≡ unsigned_abs c.args.divisor = c.unsigned_abs-divisor.ensures.value ∙ ap unsigned_abs (to_z-of_z w128 c.args.divisor c.ranges.divisor) in
    let degree : c.divided_up-degree.result ≡ div_ceil c.args.constraint.now.degree c.unsigned_abs-divisor.result = c.divided_up-degree.ensures ∙ ap (λ (x : ℕ). div_ceil x c.unsigned_abs-divisor.result) (c.degree.ensures.value ∙ c.divide_terms.ensures.degree) in
    subst (λ (k : ℕ). IsQuotient k c.args.constraint.now c.lower_degree.new.self) same
    (quotient_from c.unsigned_abs-divisor.result c.args.constraint.now c.lower_degree.new.self c.divide_terms.new.constraint.terms c.divided_up-degree.result above c.divide_terms.ensures.normal.rises c.divide_terms.ensures.terms degree c.lower_degree.ensures.terms c.lower_degree.ensures.degree)

pub returns-clause-keeps : goal.returns-clause-keeps
returns-clause-keeps c = quotient_law (unsigned_abs c.args.divisor) c.args.constraint.now c.lower_degree.new.self (returns-clause-quotient c)
