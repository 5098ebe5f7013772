-- One literal more behind the others, with its reason.
use Rattle.std.proofs.Common.{◌++◌, ◌∷◌, [], List, sym, subst, append_assoc, arith}
use Rattle.linear.specs.declared.term.Lit.{Lit}
use Rattle.ledger.specs.Ledgers.{AreReasons, IsReason, State, shown}
use Rattle.trail.specs.Trails.{on_trail}
use Rattle.ledger.proofs.PlacedOrders.{orders_longer}
use Rattle.ledger.proofs.Reasons.{reasons_push}
use Rattle.ledger.proofs.ledger.Ledger.assign.Goals as goal

pub invariant_of-self : goal.invariant_of-self
invariant_of-self c =
    let e = c.self.inside in
    let l : Lit = c.args.literal in
    let reason : IsReason (shown e.slots.items) (on_trail e.trail) l c.args.reason = subst (λ (s : State). IsReason (shown s.slots) s.assigned l c.args.reason) (sym c.self.view_is) c.requires.reason in
    let reasons = reasons_push (shown e.slots.items) (on_trail e.trail) e.reasons.items l c.args.reason c.self.invariant.1 reason in
    rw (c.push.ensures.value, c.push_reserved.ensures.items) (
      c.self.invariant.0,
      subst (λ (xs : List Lit). AreReasons (shown e.slots.items) xs (e.reasons.items ++ c.args.reason ∷ [])) (append_assoc e.trail.0 e.trail.2 (l ∷ [])) reasons,
      omega (arith, c.self.invariant.2, c.push_reserved.ensures.capacity),
      c.self.invariant.3,
      orders_longer e.slots.items (on_trail e.trail) (e.trail.0 ++ (e.trail.2 ++ l ∷ [])) (l ∷ []) e.orders c.self.invariant.4 (sym (append_assoc e.trail.0 e.trail.2 (l ∷ []))),
    )
