-- Of what a search found, what its log holds: a best solution, and what was improved to.
use Rattle.std.proofs.Common.{◌≡◌, ◌≢◌, ℕ, ℤ, ◌≤ℤ◌, List, Bool, [], ◌∷◌, ◌++◌, Option, Some, None, Any, length, refl, sym, ap, subst, ◌∙◌, arith}
use Rattle.std.specs.Prelude.{MatchOption, ⊤}
use Rattle.linear.specs.Opb.{Opb}
use Rattle.linear.specs.declared.term.Term.{Term}
use Rattle.proof_rules.specs.Claim.{IsSolution}
use Rattle.proof_rules.specs.Justified.{IsBest, IsJustified}
use Rattle.proof_rules.specs.Legal.{Legal, worth_of}
use Rattle.proof_rules.specs.Preserved.{IsPreserved}
use Rattle.proof_rules.specs.State.{State}
use Rattle.proof_rules.proofs.FileForms.{start_preserved, start_normal}
use Rattle.proof_rules.proofs.Preserving.{steps_preserve}
use Rattle.proof_steps.specs.declared.conclusion.Conclusion.TheVariants as conclusions
use Rattle.proof_steps.specs.declared.conclusion.Lower.{Lower}
use Rattle.proof_steps.specs.declared.conclusion.Lower.TheVariants as lowers
use Rattle.proof_steps.specs.declared.conclusion.Upper.TheVariants as uppers
use Rattle.proof_steps.specs.declared.step.Step.{Step}
use Rattle.proof_steps.specs.declared.step.Step.TheVariants as kinds
use Rattle.proof_log.specs.Log.{Logbook, IsProof, IsFalling, IsWorthLeast, LeadsImproving, improvement, last_of}
use Rattle.search.specs.Solving.{BearsOut, IsBestSoFar, IsOptimum, IsSolvedByAny}
use Rattle.search.specs.declared.found.Found.TheVariants as founds
use Rattle.proof_log.proofs.Improving.{values_fall}
use Rattle.pb_main.specs.Outcome.{AreImprovedTo, IsBestOf, IsNoOptimum, any_serves, stopped}
use Rattle.pb_main.specs.Solution.{NamedValues}

-- where there is an upper bound, some solution is logged

any_there : {X : Type 0} (P : X → Type 0) (xs : List X) → Any P xs → xs ≢ []
any_there P xs (k, x, below, at, h) none = absurd (omega (arith, below, ap length none))

bound_logged : (p : Opb) (s : State) (lower : Lower) (v : ℤ) (best : Option (List Bool)) → IsJustified p s (conclusions.Bounds lower (uppers.At v) None) best → s.logged ≢ []
bound_logged p s lower v best (outside, (t, takes, (objective, is, low, upper), also)) =
    subst (λ (u : State). u.logged ≢ []) takes (any_there (λ g. worth_of p g ≤ℤ v) t.logged upper)

bounded : (l : Logbook) → IsProof l → (lower : Lower) (v : ℤ) → l.conclusion ≡ conclusions.Bounds lower (uppers.At v) None → l.state.logged ≢ []
bounded l p lower v is =
    bound_logged l.problem l.state lower v p.entitled.0 (subst (λ c. IsJustified l.problem l.state c p.entitled.0) is p.entitled.1)

pub optimum_logged : (l : Logbook) → IsProof l → IsOptimum l → l.state.logged ≢ []
optimum_logged l p (v, least_is, is) = bounded l p (lowers.At v) v is

far_logged : (limit : ℕ) (l : Logbook) → IsProof l → IsBestSoFar limit l → l.state.logged ≢ []
far_logged limit l p (may, (v, least_is, is)) = bounded l p lowers.MinusInf v is

-- a search that found some solution

abbrev FoundBy : ℕ → Logbook → Option (List Term) → Type 0
FoundBy limit l o = MatchOption o (IsSolvedByAny l) (λ _. IsBestSoFar limit l)

pub sat_logged : (limit : ℕ) (l : Logbook) → IsProof l → BearsOut limit l founds.Sat → l.state.logged ≢ []
sat_logged limit l p bears = by l.problem.objective bears
  where
    by : (o : Option (List Term)) → FoundBy limit l o → l.state.logged ≢ []
    by None any = any.0
    by (Some objective) far = far_logged limit l p far

pub sat_is_no_optimum : (limit : ℕ) (l : Logbook) → BearsOut limit l founds.Sat → IsNoOptimum limit l
sat_is_no_optimum limit l bears = by l.problem.objective refl bears
  where
    by : (o : Option (List Term)) → l.problem.objective ≡ o → FoundBy limit l o → IsNoOptimum limit l
    by None none any = any_serves none any
    by (Some objective) is far = stopped far

pub log_preserved : (l : Logbook) → IsProof l → IsPreserved l.problem l.state
log_preserved l p =
    (steps_preserve l.problem p.start p.steps l.state (start_preserved l.problem p.start p.starts) (start_normal l.problem p.start p.starts) p.leads).0

-- what a log improved to

unimproved : (p : Opb) (s t : State) (step : Step) → p.objective ≡ None → Legal p s step t → improvement step t ≡ []
unimproved p s t (kinds.Soli assigned) none (outside, (objective, g, n, improves, is)) =
    let clash : None ≡ Some objective = sym none ∙ improves.minimises in
    absurd (cc)
unimproved p s t (kinds.Pol items) none legal = refl
unimproved p s t (kinds.Rup c) none legal = refl
unimproved p s t (kinds.Red c images) none legal = refl
unimproved p s t (kinds.Sol assigned) none legal = refl
unimproved p s t (kinds.Del ids) none legal = refl
unimproved p s t (kinds.RedBegin c images) none legal = refl
unimproved p s t (kinds.Goal name) none legal = refl
unimproved p s t kinds.End none legal = refl

nothing_improves : (p : Opb) (s t : State) (all : List Step) (values : List ℤ) → p.objective ≡ None → LeadsImproving p s all t values → values ≡ []
nothing_improves p s t [] values none (same, nothing) = nothing
nothing_improves p s t (step ∷ rest) values none (between, legal, (later, is, more)) =
    is ∙ ap (λ xs. xs ++ later) (unimproved p s between step none legal) ∙ nothing_improves p between t rest later none more

improved_to : (l : Logbook) → IsProof l → (values : List Bool) → IsWorthLeast l values → AreImprovedTo l.problem values l.improved
improved_to l p values least = by l.problem.objective refl least
  where
    by : (o : Option (List Term)) → l.problem.objective ≡ o → MatchOption o ⊤ (λ _. l.state.least ≡ Some (worth_of l.problem values))
        → MatchOption o (l.improved ≡ []) (λ _. IsFalling l.improved × (last_of l.improved ≡ Some (worth_of l.problem values)))
    by None none least = nothing_improves l.problem p.start l.state p.steps l.improved none p.improves
    by (Some objective) is least = let falls = values_fall l p in (falls.0, falls.1 ∙ least)

-- what is handed out is the best solution, and what the log improved to
pub handed_out : (l : Logbook) (best : List Bool) (s : NamedValues) → IsProof l → IsBest l.problem l.state.logged (Some best) → IsSolution l.problem best → IsWorthLeast l best
    → s.names ≡ l.problem.names → s.values ≡ best → s.improved ≡ l.improved → IsBestOf l s
handed_out l best s p is solution least names values improved =
    let also : IsBest l.problem l.state.logged (Some s.values) = subst (λ v. IsBest l.problem l.state.logged (Some v)) (sym values) is in
    let worth : IsWorthLeast l s.values = subst (IsWorthLeast l) (sym values) least in
    record {
      solution = record {
        names = names;
        solution = subst (IsSolution l.problem) (sym values) solution;
        improved = subst (λ i. AreImprovedTo l.problem s.values i) (sym improved) (improved_to l p s.values worth);
      };
      best = also;
      improved = improved;
      least = worth;
    }
