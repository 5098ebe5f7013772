use Rattle.std.proofs.Common.{rules, ℤ, pos, ◌<ℤ◌, unsigned_abs, FitsSigned, subst}
use Rattle.std.proofs.lemmas.Int.{to_z-of_z}
use mir.Syntax.{w128}
use Rattle.normal_form.specs.Normal.{NormalConstraint}
use Rattle.cut_rules.specs.Rules.{IsQuotient}
use Rattle.analysis.proofs.Expressions.{divides}
use Rattle.analysis.proofs.resolvent.Resolvent.divide.Goals as goal

pub returns-clause-derived : goal.returns-clause-derived
returns-clause-derived c given p =
    let made : NormalConstraint = c.divide.new.self in
    let before : NormalConstraint = c.args.self.now.sum in
    let fits : FitsSigned w128 c.in_ok-written.written = search rules in
    let above : pos 0 <ℤ c.in_ok-written.written = search rules in
    let rule : IsQuotient (unsigned_abs c.in_ok-written.written) before made =
    subst (λ (k : ℤ). IsQuotient (unsigned_abs k) before made) (to_z-of_z w128 c.in_ok-written.written fits) c.in_ok-divide.ensures.quotient in
    divides given c.args.self.now.items.items c.push.new.self.items c.in_ok-written.written before made (search rules) above rule p
