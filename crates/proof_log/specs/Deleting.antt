-- What is gathered for a deletion.
use Rattle.std.specs.Prelude.{ℤ, List, All}
use Rattle.propagate.specs.Ids.{HasId, IdSet}
use Rattle.proof_rules.specs.Deletion.{AreDeletableAtOnce}
use Rattle.proof_rules.specs.State.{id_of}
use Rattle.proof_text.specs.Writable.{IsWritable}
use Rattle.proof_log.specs.Kept.{IsSpare}
use Rattle.proof_log.specs.Log.{Logbook}

-- numbers of constraints that may be deleted in one step, which can be written; the id of each is in a set
pub record AreNoted (l : Logbook) (numbers : List ℤ) (seen : IdSet) : Type 0 where
  pub spare : All (λ number. IsSpare l.problem l.asking (id_of l.state.next number)) numbers
  pub at_once : AreDeletableAtOnce l.state numbers
  pub writable : All IsWritable numbers
  pub seen_all : All (λ number. HasId seen (id_of l.state.next number)) numbers
