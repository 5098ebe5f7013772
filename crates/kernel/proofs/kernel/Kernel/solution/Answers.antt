use Rattle.std.proofs.Common.{◌≡◌, List, Bool, length, ap, sym, subst, ◌∙◌}
use Rattle.std.proofs.lemmas.Bool.{false≢true}
use Rattle.linear.specs.Opb.{Satisfies}
use Rattle.linear.specs.Valuation.{valuation_of}
use Rattle.proof_rules.specs.State.{constraints}
use Rattle.proof_rules.proofs.Completing.{one_completion}
use Rattle.kernel.specs.Held.{Held}
use Rattle.kernel.proofs.kernel.Kernel.solution.Goals as goal

pub returns-then-not-satisfied-clause-fault : goal.returns-then-not-satisfied-clause-fault
returns-then-not-satisfied-clause-fault g c =
    let k : Held = c.args.self.now in
    let solution : List Bool = c.in_ok-solution.solution in
    let completes = c.in_ok-solution.ensures.completes in
    let problem = ap (λ (x : Held). x.problem) (c.self.view_is ∙ c.in_ok-solution.ensures.same) in (
      (solution, completes),
      λ h d satisfies.
          let same : h ≡ solution = one_completion (constraints k.state) (length k.problem.names) c.args.assigned.now h solution d completes in
          false≢true (c.if-not-satisfied.ensures.1 (subst (λ p. Satisfies (valuation_of solution) p) (sym problem) (subst (λ b. Satisfies (valuation_of b) k.problem) same satisfies))),
    )
