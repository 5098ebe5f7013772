-- What is said of what was found, where it is not said with what was accepted.
use Rattle.std.proofs.Common.{◌≡◌, inl, inr, ℕ, List, [], subst, sym}
use Rattle.linear.specs.Limits.{IsWithin}
use Rattle.opb_read.specs.Spells.{Spells}
use Rattle.proof_log.specs.Log.{IsProof, Logbook}
use Rattle.pb_main.specs.Checked.{IsLogOf, IsProofOrNone, IsWrittenOrNone}
use Rattle.pb_main.specs.Outcome.{IsBestOf, IsNoOptimum, IsOutcomeOf}
use Rattle.pb_main.specs.Solution.{NamedValues}
use Rattle.pb_main.specs.declared.outcome.Outcome.{Outcome}
use Rattle.pb_main.specs.declared.outcome.Outcome.TheVariants as outcomes

-- an outcome that has no bytes beside it
pub without_bytes : (opb bytes : List ℕ) (limit : ℕ) (outcome said : Outcome) → outcome ≡ said → bytes ≡ [] → IsOutcomeOf opb [] limit said
    → IsOutcomeOf opb bytes limit outcome
without_bytes opb bytes limit outcome said same none h =
    subst (λ b. IsOutcomeOf opb b limit outcome) (sym none) (subst (λ o. IsOutcomeOf opb [] limit o) (sym same) h)

pub log_of : (opb : List ℕ) (l : Logbook) → Spells opb l.problem → IsWithin l.problem → IsProof l → IsLogOf opb l
log_of opb l spelled within legal = record { spelled = spelled; within = within; legal = legal }

-- the bytes of a log are those of some log
pub bytes_of : (opb proof : List ℕ) (l : Logbook) → IsLogOf opb l → IsWrittenOrNone l proof → IsProofOrNone opb proof
bytes_of opb proof l of_text (inl written) = inl (l, of_text, written)
bytes_of opb proof l of_text (inr none) = inr none

-- a log's best solution
pub solution_said : (opb proof : List ℕ) (limit : ℕ) (l : Logbook) (s : NamedValues) → IsLogOf opb l → IsWrittenOrNone l proof → IsBestOf l s → IsNoOptimum limit l
    → IsOutcomeOf opb proof limit (outcomes.Satisfiable s)
solution_said opb proof limit l s of_text bytes best why = record { log = l; of_text = of_text; bytes = bytes; from_log = best; why = why }
