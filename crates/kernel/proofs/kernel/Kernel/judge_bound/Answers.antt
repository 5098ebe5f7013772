use Rattle.std.proofs.Common.{FitsSigned, ◌<ℤ◌, sym, ap, subst, ◌∙◌, rules}
use Rattle.std.proofs.lemmas.Bool.{false≢true}
use Rattle.std.proofs.lemmas.Int.{to_z-of_z}
use mir.Syntax.{w128}
use Rattle.kernel.specs.Held.{Held}
use Rattle.kernel.proofs.Concluded.{not_admitted}
use Rattle.kernel.proofs.kernel.Kernel.judge_bound.Goals as goal

pub returns-then-not-admits-clause-fault : goal.returns-then-not-admits-clause-fault
returns-then-not-admits-clause-fault g c =
    let fits : FitsSigned w128 c.args.bound = search rules in
    let above = not_admitted c.self.inside.log.least _ (λ low. false≢true (c.if-not-admits.ensures.1 low)) in
    (above.0, sym (ap (λ (x : Held). x.state.least) c.self.view_is) ∙ above.1, subst (λ z. above.0 <ℤ z) (to_z-of_z w128 c.args.bound fits) above.2)
