use Rattle.std.proofs.Common.{rules, ℤ, pos, ◌<ℤ◌, unsigned_abs, FitsSigned, subst}
use Rattle.std.proofs.lemmas.Int.{to_z-of_z}
use mir.Syntax.{w128}
use Rattle.cut_rules.specs.Rules.{IsMultiple}
use Rattle.analysis.proofs.Expressions.{multiplies}
use Rattle.analysis.proofs.derivation.Derivation.multiplied.Goals as goal

pub returns : goal.returns
returns c given p =
    let made = c.in_ok-constraint in
    let fits : FitsSigned w128 c.in_ok-written.written = search rules in
    let above : pos 0 <ℤ c.in_ok-written.written = search rules in
    let rule : IsMultiple (unsigned_abs c.in_ok-written.written) c.args.self.constraint made.constraint =
    subst (λ (k : ℤ). IsMultiple (unsigned_abs k) c.args.self.constraint made.constraint) (to_z-of_z w128 c.in_ok-written.written fits) made.ensures.multiple in
    multiplies given c.args.self.items.items c.push.new.self.items c.in_ok-written.written c.args.self.constraint made.constraint (search rules) above rule c.in_ok-constraint.ensures.normal.fits p
