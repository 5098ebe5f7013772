use Rattle.std.proofs.Common.{None, refl, subst, sym}
use Rattle.proof_rules.specs.Justified.{IsEarned, IsExhausted}
use Rattle.kernel.specs.Held.{Held}
use Rattle.kernel.proofs.kernel.Kernel.judge.Goals as goal

pub returns-in_ok-best-in-Nothing-clause-justified : goal.returns-in_ok-best-in-Nothing-clause-justified
returns-in_ok-best-in-Nothing-clause-justified g c =
    let k : Held = c.args.self.now in
    subst (λ x. IsEarned k.problem k.state x c.in_ok-best-in-Nothing.field-0) (sym c.in-Nothing.is) (k.state, refl, tt, c.in_ok-best-in-Nothing.ensures.best)

pub returns-in_ok-judge_exhausted-in-Unsat-clause-justified : goal.returns-in_ok-judge_exhausted-in-Unsat-clause-justified
returns-in_ok-judge_exhausted-in-Unsat-clause-justified g c =
    let k : Held = c.args.self.now in
    let exhausted : IsExhausted k.state = c.in_ok-judge_exhausted-in-Unsat.ensures.ok in
    subst (λ x. IsEarned k.problem k.state x None) (sym c.in-Unsat.is) (k.state, refl, exhausted, exhausted.unlogged)
