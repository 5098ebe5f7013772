-- What the state of a log entitles to where a search ends.
use Rattle.std.proofs.Common.{◌≡◌, ℤ, Bool, true, false, List, [], ◌∷◌, ◌++◌, Option, None, Some, is_some, not, refl, sym, ap, ◌∙◌}
use Rattle.std.proofs.lemmas.Bool.{false≢true}
use Rattle.linear.specs.Limits.{IsWithin}
use Rattle.linear.specs.Opb.{Opb}
use Rattle.linear.specs.declared.term.Lit.{Lit}
use Rattle.linear.specs.declared.term.Term.{Term}
use Rattle.propagate.specs.Chain.{IsRefuted}
use Rattle.proof_rules.specs.Justified.{IsBest}
use Rattle.proof_rules.specs.Legal.{LegalSol}
use Rattle.proof_rules.specs.Preserved.{IsPreserved}
use Rattle.proof_rules.specs.State.{State, constraints}
use Rattle.proof_rules.proofs.FileForms.{start_preserved, start_normal}
use Rattle.proof_rules.proofs.NotLegal.{none_some}
use Rattle.proof_rules.proofs.Preserving.{steps_preserve}
use Rattle.proof_steps.specs.declared.conclusion.Conclusion.TheVariants.{Bounds, Nothing}
use Rattle.proof_steps.specs.declared.conclusion.Lower.TheVariants as lowers
use Rattle.proof_steps.specs.declared.conclusion.Upper.TheVariants as uppers
use Rattle.proof_log.specs.Log.{IsEntitled, IsProof, Logbook}
use Rattle.search.proofs.Ending.{optimum, so_far}
use Rattle.proof_log.proofs.Growing.{nothing_justified}
use Rattle.proof_log.proofs.Improving.{least_kept}

-- there is an answer for the problem
kept : (l : Logbook) → IsProof l → IsPreserved l.problem l.state
kept l proof =
    (steps_preserve l.problem proof.start proof.steps l.state (start_preserved l.problem proof.start proof.starts) (start_normal l.problem proof.start proof.starts) proof.leads).0

-- where something was improved, there is an objective
pub asked : (l : Logbook) (best : ℤ) → IsProof l → l.state.least ≡ Some best → (objective : List Term) × (l.problem.objective ≡ Some objective)
asked l best proof is = by l.problem.objective refl
  where
    by : (o : Option (List Term)) → l.problem.objective ≡ o → (objective : List Term) × (l.problem.objective ≡ Some objective)
    by (Some objective) same = (objective, same)
    by None none =
        absurd (none_some l.state.least best (least_kept l.problem proof.start l.state proof.steps none proof.leads ∙ ap (λ (u : State). u.least) proof.starts.2) is)

pub nothing_entitled : (l : Logbook) → IsProof l → IsEntitled l.problem l.state Nothing
nothing_entitled l proof = nothing_justified l.problem l.state proof.entitled.1.0

pub optimum_entitled : (l : Logbook) (best : ℤ) → IsProof l → IsWithin l.problem → l.state.least ≡ Some best → IsRefuted (constraints l.state)
    → IsEntitled l.problem l.state (Bounds (lowers.At best) (uppers.At best) None)
optimum_entitled l best proof within is refuted =
    let objective = asked l best proof is in
    optimum l.problem l.state objective.0 best proof.entitled.1.0 within (kept l proof) objective.1 is refuted

pub so_far_entitled : (l : Logbook) (best : ℤ) → IsProof l → l.state.least ≡ Some best → IsEntitled l.problem l.state (Bounds lowers.MinusInf (uppers.At best) None)
so_far_entitled l best proof is =
    let objective = asked l best proof is in
    so_far l.problem l.state objective.0 best proof.entitled.1.0 (kept l proof) objective.1 is

-- what is best of nothing is nothing, and else what is logged
no_end : (before : List (List Bool)) (g : List Bool) (behind : List (List Bool)) → before ++ g ∷ behind ≡ [] → ⊥
no_end [] g behind e = cc
no_end (x ∷ xs) g behind e = cc

pub some_logged : (p : Opb) (logged : List (List Bool)) (best : Option (List Bool)) (none : Bool) → is_some best ≡ not none → none ≡ false → IsBest p logged best → logged ≡ [] → ⊥
some_logged p logged None none is some best empty = false≢true (is ∙ ap not some)
some_logged p logged (Some g) none is some (before, behind, same, above, least) empty = no_end before g behind (sym same ∙ empty)

pub none_logged : (p : Opb) (logged : List (List Bool)) (best : Option (List Bool)) (none : Bool) → is_some best ≡ not none → none ≡ true → IsBest p logged best → logged ≡ []
none_logged p logged None none test is best = best
none_logged p logged (Some g) none test is best = absurd (false≢true (sym (test ∙ ap not is)))

-- a solution was logged
pub sol_logs : (p : Opb) (s t : State) (assigned : List Lit) → LegalSol p s assigned t → t.logged ≡ [] → ⊥
sol_logs p s t assigned (g, logs, is) empty = no_end s.logged g [] (sym (ap (λ (u : State). u.logged) is) ∙ empty)
