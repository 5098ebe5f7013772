-- Which deletions are legal, judged on the state before the step alone. `LegalDel` judges each id with the earlier ones
-- gone, as a reader of the line would; that it comes to this is a law.
use Rattle.std.specs.Prelude.{◌≢◌, ℤ, List, All, AllPairs, IsSome}
use Rattle.proof_rules.specs.State.{State, constraint_of, id_of}

-- the numbers name ids that differ, and each of a live constraint; a negative one counts from the end
pub record AreDeletableAtOnce (s : State) (numbers : List ℤ) : Type 0 where
  pub each : All (λ number. IsSome (constraint_of s number)) numbers
  pub apart : AllPairs (λ number other. id_of s.next number ≢ id_of s.next other) numbers
