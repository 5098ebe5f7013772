use Rattle.std.proofs.Common.{◌≡◌, ◌-◌, ℕ, ap, subst, sym, ◌∙◌, arith}
use Rattle.std.specs.FinMap as map
use Rattle.proof_rules.specs.State.{Live, AreNumbered}
use Rattle.database.specs.Database.{Constraints}
use Rattle.database.proofs.TakenBack.{numbered_back}
use Rattle.database.proofs.database.Database.take_back.Goals as goal

pub invariant_of-self : goal.invariant_of-self
invariant_of-self g c =
    let before = c.remove_id.inside in
    let after = c.self.inside in
    let live : Live = g.P.Propagator.content before.constraints in
    let viewed = c.self.view_is ∙ c.remove_id-2.ensures in
    let more = c.requires in
    let next : before.next_id ≡ c.args.self.now.next = ap (λ (x : Constraints). x.next) c.remove_id.view_is in
    let left : g.P.Propagator.content after.constraints ≡ map.remove live (before.next_id - 1) = ap (λ (x : Constraints). x.live) viewed ∙ ap (λ (x : Constraints). map.remove x.live (before.next_id - 1)) (sym c.remove_id.view_is) in
    let same : after.next_id ≡ before.next_id = ap (λ (x : Constraints). x.next) viewed ∙ sym next in
    subst (λ m. AreNumbered m (after.next_id - 1)) (sym left)
    (subst (λ (k : ℕ). AreNumbered (map.remove live (before.next_id - 1)) (k - 1)) (sym same) (numbered_back live before.next_id c.remove_id.invariant (omega (arith, next, more))))
