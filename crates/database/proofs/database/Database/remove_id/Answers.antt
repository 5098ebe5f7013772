use Rattle.std.proofs.Common.{subst, sym}
use Rattle.proof_rules.specs.State.{AreNumbered}
use Rattle.proof_rules.proofs.Numbering.{numbered_less}
use Rattle.database.proofs.database.Database.remove_id.Goals as goal

pub invariant_of-self : goal.invariant_of-self
invariant_of-self g c =
    let d = c.self.inside in
    subst (λ m. AreNumbered m d.next_id) (sym c.remove.ensures.removed) (numbered_less (g.P.Propagator.content d.constraints) d.next_id c.args.id c.self.invariant)

pub invariant_of-self-in_default : goal.invariant_of-self-in_default
invariant_of-self-in_default g c =
    let d = c.self.inside in
    subst (λ m. AreNumbered m d.next_id) (sym c.remove.ensures.removed) (numbered_less (g.P.Propagator.content d.constraints) d.next_id c.args.id c.self.invariant)
