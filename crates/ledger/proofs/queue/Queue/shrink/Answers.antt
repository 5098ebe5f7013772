-- The last place does not wait, so nothing is lost.
use Rattle.std.proofs.Common.{◌≡◌, ◌+◌, ◌-◌, ◌<◌, ℕ, All, IfSome, List, ap, length, subst, sym, take, ◌∙◌, arith}
use Rattle.std.proofs.lemmas.List.{length-take-le}
use Rattle.ledger.specs.Waiting.{with_first}
use Rattle.ledger.proofs.QueueChanges.{before_last, shrunk}
use Rattle.ledger.proofs.queue.Queue.shrink.Goals as goal

pub invariant_of-self : goal.invariant_of-self
invariant_of-self c =
    let q = c.self.inside in
    let n : ℕ = length q.waiting.items in
    let below : All (λ k. k + 1 < n) (with_first q.first q.places.items) = subst (λ (p : List ℕ × ℕ). All (λ k. k + 1 < p.1) p.0) (sym c.self.view_is) c.requires.below in
    let parts = before_last q.first q.places.items n below in
    let long : length (take (n - 1) q.waiting.items) ≡ n - 1 = length-take-le (n - 1) q.waiting.items (omega arith) in
    let rest : c.pop.new.self.items ≡ take (n - 1) q.waiting.items = c.pop.ensures.rest ∙ ap (λ (k : ℕ). take (k - 1) q.waiting.items) (omega (arith, q.waiting.ok)) in
    rw rest (shrunk q.places.items q.waiting.items c.self.invariant.0 parts.0, omega (arith, long, c.self.invariant.1), subst (λ (m : ℕ). IfSome q.first (λ k. k < m)) (sym long) parts.1)
