-- A log that has taken a step, from what was kept of it: the clauses that its calls share, and what holds of it by its type.
use Rattle.std.proofs.Common.{◌≡◌, ℕ, ◌+◌, ℤ, List, ◌++◌, Option, Some, refl, sym, subst}
use Rattle.linear.specs.Limits.{IsWithin}
use Rattle.linear.specs.Opb.{Opb}
use Rattle.linear.specs.declared.term.Lit.{Lit}
use Rattle.kernel.specs.Held.{Held}
use Rattle.normal_form.specs.Normal.{NormalConstraint}
use Rattle.propagate.specs.Biting.{Bites}
use Rattle.proof_steps.specs.declared.conclusion.Conclusion.{Conclusion}
use Rattle.proof_steps.specs.declared.conclusion.Conclusion.TheVariants.{Nothing}
use Rattle.proof_steps.specs.declared.step.Step.{Step}
use Rattle.proof_steps.specs.declared.step.Step.TheVariants.{Soli}
use Rattle.proof_rules.specs.Legal.{Adds, Legal}
use Rattle.proof_rules.specs.State.{State, constraints, with_constraint}
use Rattle.proof_write.specs.Whole.{step_line}
use Rattle.proof_log.specs.Kept.{KeepsLive, Spares}
use Rattle.proof_log.specs.Log.{CanBeWritten, GoesOn, HasTaken, ImprovesIfAsked, ImprovesNothing, IsAtHand, IsLegal, IsProof, IsValueOf, Logbook, Records, StandsAlone, StepBites, improvement}
use Rattle.proof_log.specs.Named.{LiveIsNamed}
use Rattle.proof_log.proofs.Growing.{IsWrittenBehind, biting_alone, biting_other, grows, grows_biting, logbook, no_improvement, written_behind}
use Rattle.proof_log.proofs.Naming.{soli_named, step_named}
use Rattle.proof_log.proofs.StaysLive.{kept_improved, kept_spared, spares_biting}

-- a step of a log is legal, and its line stands behind the others in a text
pub record IsKept (l : Logbook) (step : Step) (text : List ℕ) (t : State) : Type 0 where
  pub legal : Legal l.problem l.state step t
  pub behind : IsWrittenBehind l.problem l.text step text

-- so it is by what a kernel and a text record, which are those of a log
pub is_kept : (old l : Logbook) (names : List (List ℕ)) (step : Step) (text : List ℕ) (k t : Held) → l ≡ old → k.problem ≡ l.problem → k.state ≡ l.state → names ≡ l.problem.names
    → CanBeWritten old step → Records names step l.text k text t → IsKept l step text t.state
is_kept old l names step text k t same problem state named writable kept = record {
  legal = subst (λ p. Legal p l.state step t.state) problem (subst (λ s. Legal k.problem s step t.state) state kept.legal);
  behind = written_behind l.problem l.text step text names named kept.line (subst (λ (b : Logbook). CanBeWritten b step) (sym same) writable) kept.proper;
}

-- what the calls say
pub has_taken : (old l new : Logbook) (step : Step) → l ≡ old → IsKept l step new.text new.state → new.conclusion ≡ Nothing → HasTaken old step new
has_taken old l new step same kept nothing =
    subst (λ (b : Logbook). HasTaken b step new) same (record { legal = kept.legal; kept = kept.behind.0; conclusion = nothing })

pub goes_on_by : (old l new : Logbook) (step : Step) → l ≡ old → new.problem ≡ l.problem → IsKept l step new.text new.state → GoesOn old new
goes_on_by old l new step same problem kept =
    subst (λ (b : Logbook). GoesOn b new) same (record { problem = problem; rest = step_line l.problem.names step; text = kept.behind.0 })

-- what holds of every log
abbrev pub Holds : Logbook → Type 0
Holds l = IsProof l × KeepsLive l × LiveIsNamed l.problem l.state

-- by a step that improves nothing
pub taken : (l : Logbook) (step : Step) (text : List ℕ) (t : State) (x : Conclusion) → Holds l → IsKept l step text t → StandsAlone step → ImprovesNothing step → ImprovesIfAsked l.problem step
    → Spares l step → x ≡ Nothing → Holds (logbook l.problem text t l.improved l.biting x l.asking)
taken l step text t x (proof, live, named) kept alone other asked spares nothing =
    let grown = grows l.problem l.text text l.state t l.improved l.biting l.conclusion l.asking l.asking step proof kept.behind alone asked kept.legal in
    let stays = kept_spared l step t live spares other kept.legal in (
      subst (λ y. IsProof (logbook l.problem text t l.improved l.biting y l.asking)) (sym nothing)
          (subst (λ vs. IsProof (logbook l.problem text t vs l.biting Nothing l.asking)) (no_improvement step t l.improved other) grown),
      record { file = stays.file; improvement = stays.improvement },
      step_named l.problem l.state t step named alone other kept.behind.1 kept.legal,
    )

-- by one that bites, and is counted
pub learned : (l : Logbook) (step : Step) (text : List ℕ) (t : State) (x : Conclusion) → Holds l → IsKept l step text t → StepBites l.state step
    → x ≡ Nothing → Holds (logbook l.problem text t l.improved (l.biting + 1) x l.asking)
learned l step text t x (proof, live, named) kept bites nothing =
    let other = biting_other l.state step bites in
    let grown = grows_biting l.problem l.text text l.state t l.improved l.biting l.conclusion l.asking step proof kept.behind kept.legal bites in
    let stays = kept_spared l step t live (spares_biting l step bites) other kept.legal in (
      subst (λ y. IsProof (logbook l.problem text t l.improved (l.biting + 1) y l.asking)) (sym nothing)
          (subst (λ vs. IsProof (logbook l.problem text t vs (l.biting + 1) Nothing l.asking)) (no_improvement step t l.improved other) grown),
      record { file = stays.file; improvement = stays.improvement },
      step_named l.problem l.state t step named (biting_alone l.state step bites) other kept.behind.1 kept.legal,
    )

-- by one that logs a better solution
pub improved : (l : Logbook) (assigned : List Lit) (text : List ℕ) (t : State) (values : List ℤ) (x : Conclusion) (asking : Option ℕ) → IsWithin l.problem → Holds l → IsKept l (Soli assigned) text t
    → values ≡ l.improved ++ improvement (Soli assigned) t → x ≡ Nothing → asking ≡ Some l.state.next → Holds (logbook l.problem text t values l.biting x asking)
improved l assigned text t values x asking within (proof, live, named) kept fall nothing next =
    let later : Option ℕ = Some l.state.next in
    let grown = grows l.problem l.text text l.state t l.improved l.biting l.conclusion l.asking later (Soli assigned) proof kept.behind tt tt kept.legal in
    let stays = kept_improved l assigned t live kept.legal.1 in
    let whole : Holds (logbook l.problem text t values l.biting Nothing later) = (
      subst (λ vs. IsProof (logbook l.problem text t vs l.biting Nothing later)) (sym fall) grown,
      record { file = stays.file; improvement = stays.improvement },
      soli_named l.problem l.state t assigned within named kept.legal.1,
    ) in
    subst (λ o. Holds (logbook l.problem text t values l.biting x o)) (sym next) (subst (λ y. Holds (logbook l.problem text t values l.biting y later)) (sym nothing) whole)

-- a value that bites is one of a step that bites
pub value_bites : (s : State) (step : Step) (n : NormalConstraint) → IsValueOf s step n → Bites (constraints s) n → StepBites s step
value_bites s step n (items, is, written) bites = subst (StepBites s) (sym is) (n, written, bites)

-- to add it is what its step does
pub value_added : (p : Opb) (s t : State) (step : Step) (n : NormalConstraint) → IsValueOf s step n → Adds n s t → Legal p s step t
value_added p s t step n (items, is, written) adds = subst (λ x. Legal p s x t) (sym is) (n, written, adds)

-- so where it is at hand the step is legal
pub value_legal : (l : Logbook) (step : Step) (n : NormalConstraint) → IsAtHand l.state step n → IsLegal l step
value_legal l step n (value, room) = (with_constraint n l.state, value_added l.problem l.state (with_constraint n l.state) step n value (room, refl))
