use Rattle.std.proofs.Common.{subst, sym}
use Rattle.proof_rules.specs.State.{AreNumbered}
use Rattle.proof_rules.proofs.Numbering.{numbered_none}
use Rattle.database.proofs.database.Database.empty.Goals as goal

pub invariant_of-result : goal.invariant_of-result
invariant_of-result g c = subst (λ m. AreNumbered m 1) (sym c.empty.ensures) numbered_none
