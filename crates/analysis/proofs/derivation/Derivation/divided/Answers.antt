use Rattle.std.proofs.Common.{rules, ℤ, pos, ◌<ℤ◌, unsigned_abs, FitsSigned, subst, ◌∙◌}
use Rattle.std.proofs.lemmas.Int.{to_z-of_z}
use mir.Syntax.{w128}
use Rattle.cut_rules.specs.Rules.{IsQuotient}
use Rattle.analysis.proofs.Expressions.{divides}
use Rattle.analysis.proofs.derivation.Derivation.divided.Goals as goal

pub returns-clause-derived : goal.returns-clause-derived
returns-clause-derived c given p =
    let made = c.divide_in_place.new.constraint in
    let fits : FitsSigned w128 c.in_ok-written.written = search rules in
    let above : pos 0 <ℤ c.in_ok-written.written = search rules in
    let rule : IsQuotient (unsigned_abs c.in_ok-written.written) c.args.self.constraint made =
    subst (λ (k : ℤ). IsQuotient (unsigned_abs k) c.args.self.constraint made) (to_z-of_z w128 c.in_ok-written.written fits) c.in_ok-divide_in_place.ensures.quotient in
    divides given c.args.self.items.items c.push.new.self.items c.in_ok-written.written c.args.self.constraint made (search rules) above rule p

pub returns-clause-quotient : goal.returns-clause-quotient
returns-clause-quotient c v s =
    let made = c.divide_in_place.new.constraint in
    let fits : FitsSigned w128 c.in_ok-written.written = search rules in
    let rule : IsQuotient c.args.divisor c.args.self.constraint made =
    subst (λ (k : ℤ). IsQuotient (unsigned_abs k) c.args.self.constraint made) (to_z-of_z w128 c.in_ok-written.written fits ∙ c.in_ok-written.ensures) c.in_ok-divide_in_place.ensures.quotient in
    rule.coefficients v s
