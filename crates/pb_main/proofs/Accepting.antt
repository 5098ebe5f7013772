-- What a log proves, the checker accepts, and what a log bears out is so.
use Rattle.std.proofs.Common.{◌≡◌, ◌⊎◌, inl, inr, ℕ, ℤ, List, Bool, Option, Some, None, sym, ap, subst, ◌∙◌}
use Rattle.std.specs.Prelude.{MatchOption, ⊤}
use Rattle.linear.specs.Limits.{IsWithin}
use Rattle.linear.specs.Opb.{Opb}
use Rattle.linear.specs.declared.term.Term.{Term}
use Rattle.opb_read.specs.Spells.{Spells}
use Rattle.opb_read.specs.declared.fault.OpbFault.{OpbFault}
use Rattle.kernel.specs.Accepted.{Judgement}
use Rattle.proof_rules.specs.Justified.{IsBest, IsJustified, TakesHint, hint_of}
use Rattle.proof_rules.specs.Legal.{worth_of}
use Rattle.proof_rules.specs.State.{State}
use Rattle.proof_rules.proofs.OneState.{one_best}
use Rattle.proof_steps.specs.declared.conclusion.Conclusion.{Conclusion}
use Rattle.proof_steps.specs.declared.conclusion.Conclusion.TheVariants as conclusions
use Rattle.proof_steps.specs.declared.conclusion.Lower.TheVariants as lowers
use Rattle.proof_steps.specs.declared.conclusion.Upper.TheVariants as uppers
use Rattle.checker.specs.Verdicts.{IsProved, IsVerdictOf}
use Rattle.checker.specs.declared.verdict.Code.{Code}
use Rattle.checker.specs.declared.verdict.Verdict.{Verdict}
use Rattle.checker.specs.declared.verdict.Verdict.TheVariants as verdicts
use Rattle.checker.proofs.ProvedAccepted.{proved_accepted}
use Rattle.proof_log.specs.Log.{Logbook, IsProof}
use Rattle.search.specs.Solving.{IsOptimum}
use Rattle.pb_main.specs.Checked.{IsAcceptedOf, IsLogOf, IsWritten}
use Rattle.pb_main.specs.Outcome.{IsBestOf, IsCheckedOptimum, IsSolutionOf}
use Rattle.pb_main.specs.Solution.{NamedValues}

-- the text of a log proves its conclusion, with some best assignment
abbrev judgement_of : (l : Logbook) → IsProof l → Judgement
judgement_of l p = record { conclusion = l.conclusion; best = p.entitled.0 }

log_proved : (l : Logbook) (proof : List ℕ) (p : IsProof l) → IsWritten l proof → IsProved l.problem proof (judgement_of l p)
log_proved l proof p w = record {
  steps = w.steps;
  spelled = w.spelled;
  legal = record { start = w.start; end = l.state; starts = w.starts; leads = w.leads; justified = p.entitled.1 };
}

accepted_alone : (opb proof : List ℕ) (l : Logbook) (p : IsProof l) → Spells opb l.problem → IsWithin l.problem → IsWritten l proof → (v : Verdict) → IsVerdictOf opb proof v
    → (v ≡ verdicts.Accepted (judgement_of l p)) ⊎ (v ≡ verdicts.NoMemory)
accepted_alone opb proof l p spelled within written v is = proved_accepted opb proof l.problem spelled within (judgement_of l p) (log_proved l proof p written) v is

pub never_refused : (opb proof : List ℕ) (l : Logbook) → IsProof l → Spells opb l.problem → IsWithin l.problem → IsWritten l proof → (line : ℕ) (code : Code)
    → IsVerdictOf opb proof (verdicts.Refused line code) → ⊥
never_refused opb proof l p spelled within written line code is = by (accepted_alone opb proof l p spelled within written (verdicts.Refused line code) is)
  where
    by : (verdicts.Refused line code ≡ verdicts.Accepted (judgement_of l p)) ⊎ (verdicts.Refused line code ≡ verdicts.NoMemory) → ⊥
    by (inl e) = cc
    by (inr e) = cc

pub never_bad : (opb proof : List ℕ) (l : Logbook) → IsProof l → Spells opb l.problem → IsWithin l.problem → IsWritten l proof → (fault : OpbFault)
    → IsVerdictOf opb proof (verdicts.BadProblem fault) → ⊥
never_bad opb proof l p spelled within written fault is = by (accepted_alone opb proof l p spelled within written (verdicts.BadProblem fault) is)
  where
    by : (verdicts.BadProblem fault ≡ verdicts.Accepted (judgement_of l p)) ⊎ (verdicts.BadProblem fault ≡ verdicts.NoMemory) → ⊥
    by (inl e) = cc
    by (inr e) = cc

-- without a hint, the best assignment of a conclusion is the best that is logged
pub best_logged : (p : Opb) (s : State) (c : Conclusion) (best other : Option (List Bool)) → IsJustified p s c best → hint_of c ≡ None → IsBest p s.logged other → best ≡ other
best_logged p s c best other (outside, (t, takes, entitles, is)) none also =
    let same : t ≡ s = subst (λ h. TakesHint p s h t) none takes in
    one_best p s.logged best other (subst (λ (r : State). IsBest p r.logged best) same is) also

pub accepted_of : (opb proof : List ℕ) (l : Logbook) → IsProof l → Spells opb l.problem → IsWithin l.problem → IsWritten l proof → (a : Judgement)
    → IsVerdictOf opb proof (verdicts.Accepted a) → IsAcceptedOf opb proof l a
accepted_of opb proof l p spelled within written a is = by (accepted_alone opb proof l p spelled within written (verdicts.Accepted a) is)
  where
    same : (b : Judgement) → verdicts.Accepted a ≡ verdicts.Accepted b → a ≡ b
    same b e = cc

    of : a ≡ judgement_of l p → IsAcceptedOf opb proof l a
    of e = record {
      is_true = is;
      problem = sym (is.alone l.problem spelled);
      conclusion = ap (λ (j : Judgement). j.conclusion) e;
      best = λ best none also. ap (λ (j : Judgement). j.best) e ∙ best_logged l.problem l.state l.conclusion p.entitled.0 best p.entitled.1 none also;
    }

    by : (verdicts.Accepted a ≡ verdicts.Accepted (judgement_of l p)) ⊎ (verdicts.Accepted a ≡ verdicts.NoMemory) → IsAcceptedOf opb proof l a
    by (inl e) = of (same (judgement_of l p) e)
    by (inr e) = cc

-- a conclusion of bounds asks for an objective
bounds_ask : (p : Opb) (s : State) (v : ℤ) (best : Option (List Bool)) → IsJustified p s (conclusions.Bounds (lowers.At v) (uppers.At v) None) best → (objective : List Term) × (p.objective ≡ Some objective)
bounds_ask p s v best (outside, (t, takes, (objective, is, lower, upper), also)) = (objective, is)

with_objective : {X : Type 0} (o : Option (List Term)) (objective : List Term) → o ≡ Some objective → MatchOption o ⊤ (λ _. X) → X
with_objective None objective e h = cc
with_objective (Some terms) objective e h = h

same_value : (v w : ℤ) (o : Option ℤ) → o ≡ Some v → o ≡ Some w → v ≡ w
same_value v w o e f = cc

pub checked_optimum : (opb proof : List ℕ) (l : Logbook) (a : Judgement) (s : NamedValues) → IsOptimum l → IsLogOf opb l → IsWritten l proof → IsAcceptedOf opb proof l a → IsBestOf l s → IsCheckedOptimum opb proof a s
checked_optimum opb proof l a s (v, least_is, concluded) of_text written accepted best =
    let p = of_text.legal in
    let asked = bounds_ask l.problem l.state v p.entitled.0 (subst (λ c. IsJustified l.problem l.state c p.entitled.0) concluded p.entitled.1) in
    let worth : v ≡ worth_of l.problem s.values = same_value v (worth_of l.problem s.values) l.state.least least_is (with_objective l.problem.objective asked.0 asked.1 best.least) in
    let there : v ≡ worth_of accepted.is_true.problem s.values = worth ∙ ap (λ q. worth_of q s.values) (sym accepted.problem) in
    record {
      is_true = accepted.is_true;
      solution = subst (λ q. IsSolutionOf q s) (sym accepted.problem) best.solution;
      best = accepted.best (Some s.values) (ap hint_of concluded) best.best;
      bounds = accepted.conclusion ∙ concluded ∙ ap (λ x. conclusions.Bounds (lowers.At x) (uppers.At x) None) there;
      log = l;
      of_text = of_text;
      written = written;
      from_log = best;
    }
