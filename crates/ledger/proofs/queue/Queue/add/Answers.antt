-- A place that does not wait has room.
use Rattle.std.proofs.Common.{◌≡◌, ◌++◌, ◌∷◌, [], Contains, subst, sym, ◌∙◌, false, arith, length, ◌<◌, get_or, true, ap, List, ℕ, set}
use Rattle.std.proofs.lemmas.List.{get_or_default, length-set}
use Rattle.std.proofs.lemmas.List.Elements.{Contains-append_left, Contains-push}
use Rattle.ledger.proofs.QueueChanges.{first_below, more_behind, pushed, room, waits_behind}
use Rattle.ledger.proofs.queue.Queue.add.Goals as goal

pub push_back_reserved-requires : goal.push_back_reserved-requires
push_back_reserved-requires c =
    let q = c.self.inside in
    let free : get_or q.waiting.items c.args.place false ≡ false = cc in
    let low : c.args.place < length q.waiting.items = omega (arith, c.requires, ap (λ (p : List ℕ × ℕ). p.1) c.self.view_is) in
    omega (arith, room q.places.items q.waiting.items c.args.place c.self.invariant.0 low free, q.places.ok)

pub invariant_of-self : goal.invariant_of-self
invariant_of-self c =
    let q = c.self.inside in
    let free : get_or q.waiting.items c.args.place false ≡ false = cc in
    let low : c.args.place < length q.waiting.items = omega (arith, c.requires, ap (λ (p : List ℕ × ℕ). p.1) c.self.view_is) in
    (rw c.push_back_reserved.ensures.items (pushed q.places.items q.waiting.items c.args.place c.self.invariant.0 low free), omega (arith, length-set q.waiting.items c.args.place true), first_below q.first (length q.waiting.items) (length (set q.waiting.items c.args.place true)) (omega (arith, length-set q.waiting.items c.args.place true)) c.self.invariant.2)

pub returns-then-not-index-clause-there : goal.returns-then-not-index-clause-there
returns-then-not-index-clause-there c =
    let q = c.self.inside in
    rw c.push_back_reserved.ensures.items (waits_behind q.first (q.places.items ++ c.args.place ∷ []) c.args.place (Contains-push q.places.items c.args.place))

pub returns-then-not-index-clause-kept : goal.returns-then-not-index-clause-kept
returns-then-not-index-clause-kept c k h =
    let q = c.self.inside in
    rw c.push_back_reserved.ensures.items (more_behind q.first q.places.items (q.places.items ++ c.args.place ∷ []) (λ j there. Contains-append_left q.places.items (c.args.place ∷ []) j there) k
    (subst (λ (p : List ℕ × ℕ). Contains p.0 k) (sym c.self.view_is) h))

pub returns-else-not-index-clause-there : goal.returns-else-not-index-clause-there
returns-else-not-index-clause-there c =
    let q = c.self.inside in
    let low : c.args.place < length q.waiting.items = omega (arith, c.requires, ap (λ (p : List ℕ × ℕ). p.1) c.self.view_is) in
    let flag : get_or q.waiting.items c.args.place false ≡ true = get_or_default q.waiting.items c.args.place false c.index.result.now low ∙ sym c.index.ensures ∙ c.if-not-index.false in
    subst (λ (p : List ℕ × ℕ). Contains p.0 c.args.place) c.self.view_is (waits_behind q.first q.places.items c.args.place (c.self.invariant.0.there c.args.place low flag))
