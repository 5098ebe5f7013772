-- One clause more at the end of all lists.
use Rattle.std.proofs.Common.{◌≡◌, ◌<◌, ◌≤◌, ℕ, List, Option, Some, [], ◌∷◌, ◌++◌, length, take, refl, ap, sym, subst, ◌∙◌, arith}
use Rattle.normal_form.specs.Normal.{NormalConstraint, variable_bound}
use Rattle.ledger.specs.declared.pair.Pair.{Pair}
use Rattle.trail.specs.Trails.{on_trail}
use Rattle.ledger.specs.Ledgers.{State}
use Rattle.ledger.specs.Watched.{IsPairOf, Tell}
use Rattle.ledger.proofs.Attaching.{attached_watched, of_slot, reasons_beside, with_pairs}
use Rattle.ledger.proofs.FallingRows.{number_inside, variable_below}
use Rattle.ledger.proofs.PlacedOrders.{its, orders_beside, orders_more, others}
use Rattle.ledger.proofs.WatchedPlaces.{watched_kept, watched_more}
use Rattle.ledger.proofs.ledger.Ledger.attach_watched.Goals as goal

-- the literals of the pair are of the variables
first_below : (n : NormalConstraint) (p : Pair) (variables : ℕ) → IsPairOf n p → variable_bound n.terms ≤ variables → p.first.var.0 < variables
first_below n p variables of_it within = variable_below n p.first variables of_it.first within

second_below : (n : NormalConstraint) (p : Pair) (variables : ℕ) → IsPairOf n p → variable_bound n.terms ≤ variables → p.second.var.0 < variables
second_below n p variables of_it within = variable_below n p.second variables of_it.second within

pub watch-requires-clause-first : goal.watch-requires-clause-first
watch-requires-clause-first c =
    let e = c.self.inside in
    let n : NormalConstraint = c.in-Some.constraint.now in
    let there : c.args.slot.now ≡ Some n = sym c.in-Some.ensures.value in
    let of_it : IsPairOf n c.args.pair = of_slot (λ m. IsPairOf m c.args.pair) c.args.slot.now n there c.requires.pair in
    let within : variable_bound n.terms ≤ e.trail.1 = omega (arith, of_slot (λ m. variable_bound m.terms ≤ c.args.self.now.variables) c.args.slot.now n there c.requires.variables, ap (λ (s : State). s.variables) c.self.view_is) in
    number_inside c.args.pair.first e.trail.1 e.watchers.rows (first_below n c.args.pair e.trail.1 of_it within) c.self.invariant.3.size

pub watch-requires-clause-second : goal.watch-requires-clause-second
watch-requires-clause-second c =
    let e = c.self.inside in
    let n : NormalConstraint = c.in-Some.constraint.now in
    let there : c.args.slot.now ≡ Some n = sym c.in-Some.ensures.value in
    let of_it : IsPairOf n c.args.pair = of_slot (λ m. IsPairOf m c.args.pair) c.args.slot.now n there c.requires.pair in
    let within : variable_bound n.terms ≤ e.trail.1 = omega (arith, of_slot (λ m. variable_bound m.terms ≤ c.args.self.now.variables) c.args.slot.now n there c.requires.variables, ap (λ (s : State). s.variables) c.self.view_is) in
    number_inside c.args.pair.second e.trail.1 e.watchers.rows (second_below n c.args.pair e.trail.1 of_it within) c.self.invariant.3.size

pub invariant_of-self : goal.invariant_of-self
invariant_of-self c = rw c.reserve.ensures.items c.self.invariant

pub invariant_of-self-in_err-give : goal.invariant_of-self-in_err-give
invariant_of-self-in_err-give c =
    let e = c.self.inside in
    let room = c.reserve.ensures.items in
    rw room (
      c.self.invariant.0,
      c.self.invariant.1,
      c.self.invariant.2,
      c.self.invariant.3,
      orders_beside e.slots.items (on_trail e.trail) e.orders c.give.new.self c.self.invariant.4 (others e.slots.items c.reserve.new.self.items e.orders c.give.new.self c.len-place.result room (omega (arith, c.len-place.ensures, c.reserve.new.self.ok)) c.give.ensures.others),
    )

pub invariant_of-self-in_err-widen : goal.invariant_of-self-in_err-widen
invariant_of-self-in_err-widen c =
    let e = c.self.inside in
    let room = c.reserve.ensures.items in
    rw room (
      c.self.invariant.0,
      c.self.invariant.1,
      c.self.invariant.2,
      c.self.invariant.3,
      orders_beside e.slots.items (on_trail e.trail) e.orders c.give.new.self c.self.invariant.4 (others e.slots.items c.reserve.new.self.items e.orders c.give.new.self c.len-place.result room (omega (arith, c.len-place.ensures, c.reserve.new.self.ok)) c.give.ensures.others),
    )

pub invariant_of-self-in_err-watch : goal.invariant_of-self-in_err-watch
invariant_of-self-in_err-watch c =
    let e = c.self.inside in
    let room = c.reserve.ensures.items in
    let new = c.watch.new.self in
    rw room (
      with_pairs e.slots.items e.trail.0 e.trail.1 e.table e.clauses e.counters.items e.limits.items e.watchers.pairs new.pairs c.self.invariant.0 c.in_err-watch.ensures.err,
      c.self.invariant.1,
      c.self.invariant.2,
      watched_kept e.slots.items e.trail.0 e.trail.1 e.watchers new c.self.invariant.3 c.in_err-watch.ensures.err (omega (arith, c.watch.ensures.length)) c.watch.ensures.kept c.watch.ensures.others,
      orders_beside e.slots.items (on_trail e.trail) e.orders c.give.new.self c.self.invariant.4 (others e.slots.items c.reserve.new.self.items e.orders c.give.new.self c.len-place.result room (omega (arith, c.len-place.ensures, c.reserve.new.self.ok)) c.give.ensures.others),
    )

pub invariant_of-self-2 : goal.invariant_of-self-2
invariant_of-self-2 c =
    let e = c.self.inside in
    let n : NormalConstraint = c.in-Some.constraint.now in
    let there : c.args.slot.now ≡ Some n = sym c.in-Some.ensures.value in
    let p : Pair = c.args.pair in
    let room = c.reserve.ensures.items in
    let slots : c.push_reserved.new.self.items ≡ e.slots.items ++ Some n ∷ [] = c.push_reserved.ensures.items ∙ ap (λ (o : Option NormalConstraint). c.reserve.new.self.items ++ o ∷ []) (c.take.ensures.value ∙ there) ∙ ap (λ (os : List (Option NormalConstraint)). os ++ Some n ∷ []) room in
    let of_it : IsPairOf n p = of_slot (λ m. IsPairOf m p) c.args.slot.now n there c.requires.pair in
    let within : variable_bound n.terms ≤ e.trail.1 = omega (arith, of_slot (λ m. variable_bound m.terms ≤ c.args.self.now.variables) c.args.slot.now n there c.requires.variables, ap (λ (s : State). s.variables) c.self.view_is) in
    let tell : (h : ℕ) → Tell (take h e.trail.0) n p = subst (λ (s : State). (h : ℕ) → Tell (take h s.propagated) n p) (sym c.self.view_is) (of_slot (λ m. (h : ℕ) → Tell (take h c.args.self.now.propagated) m p) c.args.slot.now n there c.requires.tell) in
    let i = c.self.invariant.0 in
    let new = c.watch.new.self in
    let said = c.in_ok-watch.ensures in
    let it = attached_watched e.slots.items e.trail.0 e.trail.1 e.table e.clauses e.counters.items e.limits.items e.watchers.pairs n p (length e.watchers.pairs) i refl c.in_ok-give.ensures.normal within in
    rw slots (
      with_pairs (e.slots.items ++ Some n ∷ []) e.trail.0 e.trail.1 e.table e.clauses e.counters.items e.limits.items (e.watchers.pairs ++ Some p ∷ []) new.pairs it said.ok,
      reasons_beside e.slots.items (Some n) (on_trail e.trail) e.reasons.items c.self.invariant.1,
      c.self.invariant.2,
      watched_more e.slots.items e.trail.0 e.trail.1 e.watchers new (Some n) (Some p) c.self.invariant.3 i.slots_are.pair_count said.ok (omega (arith, said.length)) said.kept said.others
          (of_it, (first_below n p e.trail.1 of_it within, second_below n p e.trail.1 of_it within), tell, said.first_there, said.second_there, said.listed),
      orders_more e.slots.items (on_trail e.trail) e.orders c.give.new.self (Some n) c.self.invariant.4 (others e.slots.items c.reserve.new.self.items e.orders c.give.new.self c.len-place.result room (omega (arith, c.len-place.ensures, c.reserve.new.self.ok)) c.give.ensures.others) (λ m same. its e.slots.items c.reserve.new.self.items (on_trail e.trail) n m c.give.new.self c.len-place.result same room (omega (arith, c.len-place.ensures, c.reserve.new.self.ok)) c.in_ok-give.ensures.ok c.in_ok-give.ensures.none),
    )
