use Rattle.std.proofs.Common.{◌≡◌, ◌+◌, ap, subst, sym, arith}
use Rattle.proof_rules.specs.State.{AreNumbered}
use Rattle.proof_rules.proofs.Numbering.{numbered_more}
use Rattle.database.specs.Database.{Constraints}
use Rattle.database.proofs.database.Database.push.Goals as goal

pub invariant_of-self-2 : goal.invariant_of-self-2
invariant_of-self-2 g c =
    let d = c.self.inside in
    let next : d.next_id ≡ c.args.self.now.next = ap (λ (x : Constraints). x.next) c.self.view_is in
    let room = c.requires in
    subst (λ m. AreNumbered m (d.next_id + 1)) (sym c.in_ok-insert.ensures.ok)
    (numbered_more (g.P.Propagator.content d.constraints) d.next_id _ c.self.invariant (omega (arith, next, room)))
