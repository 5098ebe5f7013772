-- The `v` line names the very assignment that is claimed: the text spells one problem, and its names are the ones printed.
use Rattle.std.proofs.Common.{◌≡◌, inl, inr, ℕ, Bool, Some, MatchOption, IfSome, List, sym, subst}
use Rattle.linear.specs.Opb.{Opb}
use Rattle.kernel.specs.Accepted.{Judgement}
use Rattle.proof_rules.specs.Claim.{IsSolution}
use Rattle.checker.specs.Verdicts.{IsTrueOf}
use Rattle.checker.specs.Printed.{IsPrinted, IsWithBest, accepted_line, with_assignment}
use Rattle.checker.specs.declared.verdict.Verdict.TheVariants as verdicts

pub printed_claim : (opb proof : List ℕ) (a : Judgement) (t : IsTrueOf opb proof a) (values : List Bool) (text : List ℕ) → a.best ≡ Some values → IsPrinted opb (verdicts.Accepted a) text
    → IsSolution t.problem values × (text ≡ with_assignment (accepted_line a.conclusion) t.problem.names values)
printed_claim opb proof a t values text best printed = (solution, by with_best)
  where
    solution : IsSolution t.problem values
    solution = subst (λ o. IfSome o (IsSolution t.problem)) best t.claim.solution

    with_best : IsWithBest opb (accepted_line a.conclusion) values text
    with_best = subst (λ o. MatchOption o (text ≡ accepted_line a.conclusion) (λ vs. IsWithBest opb (accepted_line a.conclusion) vs text)) best printed

    by : IsWithBest opb (accepted_line a.conclusion) values text → text ≡ with_assignment (accepted_line a.conclusion) t.problem.names values
    by (inl some) = subst (λ (p : Opb). text ≡ with_assignment (accepted_line a.conclusion) p.names values) (t.alone some.0 some.1.spelled) some.2
    by (inr none) = absurd (none.0 t.problem (record { spelled = t.spelled; within = t.within; as_many = sym solution.long }))
