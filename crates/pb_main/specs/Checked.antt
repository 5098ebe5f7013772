-- The log that an answer rests on, the text of its proof, and what it is for the checker to accept that.
use Rattle.std.specs.Prelude.{◌≡◌, ◌⊎◌, ℕ, List, [], Bool, Option, None}
use Rattle.linear.specs.Limits.{IsWithin}
use Rattle.opb_read.specs.Spells.{Spells}
use Rattle.kernel.specs.Accepted.{Judgement}
use Rattle.proof_rules.specs.Justified.{IsBest, hint_of}
use Rattle.checker.specs.Verdicts.{IsTrueOf}
use Rattle.proof_log.specs.Log.{Logbook, IsProof, IsSpelledBy}
use Rattle.search.specs.Solving.{BearsOut}
use Rattle.search.specs.declared.found.Found.{Found}

-- A log of the problem that the text spells: its text is that of legal steps, which entitle to what it concludes.
pub record IsLogOf (opb : List ℕ) (l : Logbook) : Type 0 where
  pub spelled : Spells opb l.problem
  pub within : IsWithin l.problem
  pub legal : IsProof l

-- the log bears out what was found, for some count of conflicts that the search might meet
abbrev pub IsBorneOut : Logbook → Found → Type 0
IsBorneOut l found = (limit : ℕ) × BearsOut limit l found

-- the text spells the steps and the conclusion of the log
abbrev pub IsWritten : Logbook → List ℕ → Type 0
IsWritten l proof = IsSpelledBy l proof

-- the text is the log's proof, or there is none, as where there is no memory for it
abbrev pub IsWrittenOrNone : Logbook → List ℕ → Type 0
IsWrittenOrNone l proof = IsWritten l proof ⊎ (proof ≡ [])

-- the text is the proof of some log of the problem, or there is none, as where there is no log
abbrev pub IsProofOrNone : List ℕ → List ℕ → Type 0
IsProofOrNone opb proof = ((l : Logbook) × IsLogOf opb l × IsWritten l proof) ⊎ (proof ≡ [])

-- The checker accepted this text as a proof of the log's problem and conclusion. Where the conclusion has no hint, the
-- best assignment that it hands out is the best that was logged.
pub record IsAcceptedOf (opb proof : List ℕ) (l : Logbook) (accepted : Judgement) : Type 0 where
  pub is_true : IsTrueOf opb proof accepted
  pub problem : is_true.problem ≡ l.problem
  pub conclusion : accepted.conclusion ≡ l.conclusion
  pub best :
      (best : Option (List Bool)) → hint_of l.conclusion ≡ None → IsBest l.problem l.state.logged best
      → accepted.best ≡ best
