-- One constraint more at the end of all lists, once each place before it has a counter.
use Rattle.std.proofs.Common.{◌≡◌, ◌+◌, ◌≤◌, ℕ, List, Option, None, Some, [], ◌∷◌, ◌++◌, length, refl, ap, sym, ◌∙◌, arith}
use Rattle.normal_form.specs.Normal.{NormalConstraint, variable_bound}
use Rattle.trail.specs.Trails.{on_trail}
use Rattle.ledger.specs.Ledgers.{IsLedger, State}
use Rattle.ledger.proofs.Attaching.{attached_counted, filled_up, of_slot, reasons_beside, unchanged, with_pairs}
use Rattle.ledger.proofs.PlacedOrders.{its, orders_beside, orders_more, others}
use Rattle.ledger.proofs.WatchedPlaces.{same_rows, watched_kept, watched_more}
use Rattle.ledger.proofs.ledger.Ledger.attach_counted.Goals as goal

pub fill_up-requires-clause-few : goal.fill_up-requires-clause-few
fill_up-requires-clause-few c = omega (arith, c.self.invariant.0.counters_are.few, c.self.invariant.0.slots_are.count, c.len.ensures, c.reserve.new.self.ok, ap (length {A = Option NormalConstraint}) c.reserve.ensures.items)

pub fill_up-requires-clause-as_many : goal.fill_up-requires-clause-as_many
fill_up-requires-clause-as_many c = c.self.invariant.0.limited

pub invariant_of-self : goal.invariant_of-self
invariant_of-self c = rw c.reserve.ensures.items c.self.invariant

pub invariant_of-self-in_err-fill_up : goal.invariant_of-self-in_err-fill_up
invariant_of-self-in_err-fill_up c =
    let e = c.self.inside in
    let i = c.self.invariant.0 in
    let room : c.reserve.new.self.items ≡ e.slots.items = c.reserve.ensures.items in
    let places : c.len.result ≡ length e.slots.items = omega (arith, c.len.ensures, c.reserve.new.self.ok, ap (length {A = Option NormalConstraint}) room) in
    let said = c.fill_up.ensures in
    let counters : List ℕ = c.fill_up.new.counters.items in
    let limits : List ℕ = c.fill_up.new.limits.items in
    let filled : IsLedger e.slots.items e.trail.0 e.trail.1 e.table e.clauses counters limits e.watchers.pairs =
    filled_up e.slots.items e.trail.0 e.trail.1 e.table e.clauses e.counters.items e.limits.items counters limits e.watchers.pairs i said.counters said.limits said.as_many said.more (omega (arith, said.few, places)) in
    rw room (filled, c.self.invariant.1, c.self.invariant.2, c.self.invariant.3, c.self.invariant.4)

pub invariant_of-self-in_err-give : goal.invariant_of-self-in_err-give
invariant_of-self-in_err-give c =
    let e = c.self.inside in
    let i = c.self.invariant.0 in
    let room : c.reserve.new.self.items ≡ e.slots.items = c.reserve.ensures.items in
    let places : c.len.result ≡ length e.slots.items = omega (arith, c.len.ensures, c.reserve.new.self.ok, ap (length {A = Option NormalConstraint}) room) in
    let said = c.fill_up.ensures in
    let counters : List ℕ = c.fill_up.new.counters.items in
    let limits : List ℕ = c.fill_up.new.limits.items in
    let filled : IsLedger e.slots.items e.trail.0 e.trail.1 e.table e.clauses counters limits e.watchers.pairs =
    filled_up e.slots.items e.trail.0 e.trail.1 e.table e.clauses e.counters.items e.limits.items counters limits e.watchers.pairs i said.counters said.limits said.as_many said.more (omega (arith, said.few, places)) in
    rw room (
      filled,
      c.self.invariant.1,
      c.self.invariant.2,
      c.self.invariant.3,
      orders_beside e.slots.items (on_trail e.trail) e.orders c.give.new.self c.self.invariant.4 (others e.slots.items c.reserve.new.self.items e.orders c.give.new.self c.len-2.result room (omega (arith, c.len-2.ensures, c.reserve.new.self.ok)) c.give.ensures.others),
    )

pub invariant_of-self-in_err-enter_counted : goal.invariant_of-self-in_err-enter_counted
invariant_of-self-in_err-enter_counted c =
    let e = c.self.inside in
    let i = c.self.invariant.0 in
    let room : c.reserve.new.self.items ≡ e.slots.items = c.reserve.ensures.items in
    let places : c.len.result ≡ length e.slots.items = omega (arith, c.len.ensures, c.reserve.new.self.ok, ap (length {A = Option NormalConstraint}) room) in
    let said = c.fill_up.ensures in
    let counters : List ℕ = c.fill_up.new.counters.items in
    let limits : List ℕ = c.fill_up.new.limits.items in
    let filled : IsLedger e.slots.items e.trail.0 e.trail.1 e.table e.clauses counters limits e.watchers.pairs =
    filled_up e.slots.items e.trail.0 e.trail.1 e.table e.clauses e.counters.items e.limits.items counters limits e.watchers.pairs i said.counters said.limits said.as_many said.more (omega (arith, said.few, places)) in
    let new = c.enter_counted.new.watchers in
    let it = unchanged e.slots.items e.trail.0 e.trail.1 e.table c.enter_counted.new.table e.clauses counters limits e.watchers.pairs (length e.watchers.pairs) filled c.in_err-enter_counted.ensures.err c.in_err-enter_counted.ensures.length in
    rw room (
      with_pairs e.slots.items e.trail.0 e.trail.1 c.enter_counted.new.table e.clauses counters limits e.watchers.pairs new.pairs it c.in_err-enter_counted.ensures.no_pairs,
      c.self.invariant.1,
      c.self.invariant.2,
      watched_kept e.slots.items e.trail.0 e.trail.1 e.watchers new c.self.invariant.3 c.in_err-enter_counted.ensures.no_pairs (omega (arith, ap (length {A = List ℕ}) c.enter_counted.ensures.rows)) (same_rows e.watchers.rows new.rows c.enter_counted.ensures.rows) c.enter_counted.ensures.others,
      orders_beside e.slots.items (on_trail e.trail) e.orders c.give.new.self c.self.invariant.4 (others e.slots.items c.reserve.new.self.items e.orders c.give.new.self c.len-2.result room (omega (arith, c.len-2.ensures, c.reserve.new.self.ok)) c.give.ensures.others),
    )

pub invariant_of-self-2 : goal.invariant_of-self-2
invariant_of-self-2 c =
    let e = c.self.inside in
    let i = c.self.invariant.0 in
    let room : c.reserve.new.self.items ≡ e.slots.items = c.reserve.ensures.items in
    let places : c.len.result ≡ length e.slots.items = omega (arith, c.len.ensures, c.reserve.new.self.ok, ap (length {A = Option NormalConstraint}) room) in
    let said = c.fill_up.ensures in
    let counters : List ℕ = c.fill_up.new.counters.items in
    let limits : List ℕ = c.fill_up.new.limits.items in
    let filled : IsLedger e.slots.items e.trail.0 e.trail.1 e.table e.clauses counters limits e.watchers.pairs =
    filled_up e.slots.items e.trail.0 e.trail.1 e.table e.clauses e.counters.items e.limits.items counters limits e.watchers.pairs i said.counters said.limits said.as_many said.more (omega (arith, said.few, places)) in
    let n : NormalConstraint = c.in-Some.constraint.now in
    let there : c.args.slot.now ≡ Some n = sym c.in-Some.ensures.value in
    let opened : ℕ = c.open_sum-open.result in
    let limit : ℕ = c.degree.result + c.largest.result in
    let slots : c.push_reserved-3.new.self.items ≡ e.slots.items ++ Some n ∷ [] = c.push_reserved-3.ensures.items ∙ ap (λ (o : Option NormalConstraint). c.reserve.new.self.items ++ o ∷ []) (c.take.ensures.value ∙ there) ∙ ap (λ (os : List (Option NormalConstraint)). os ++ Some n ∷ []) room in
    let within : variable_bound n.terms ≤ e.trail.1 = omega (arith, of_slot (λ m. variable_bound m.terms ≤ c.args.self.now.variables) c.args.slot.now n there c.requires.variables, ap (λ (s : State). s.variables) c.self.view_is) in
    let new = c.enter_counted.new.watchers in
    let pairs = c.in_ok-enter_counted.ensures.pairs in
    let it = attached_counted e.slots.items e.trail.0 e.trail.1 e.table c.enter_counted.new.table e.clauses counters limits e.watchers.pairs n (length e.watchers.pairs) opened limit filled (c.in_ok-fill_up.ensures.all ∙ places) refl c.degree.ensures.normal within
    c.in_ok-enter_counted.ensures.ok c.in_ok-enter_counted.ensures.length c.open_sum-open.ensures (λ l. omega (arith, c.degree.ensures.value, c.largest.ensures.each l)) in
    rw (slots, c.push_reserved.ensures.items, c.push_reserved-2.ensures.items) (
      with_pairs (e.slots.items ++ Some n ∷ []) e.trail.0 e.trail.1 c.enter_counted.new.table e.clauses (counters ++ opened ∷ []) (limits ++ limit ∷ []) (e.watchers.pairs ++ None ∷ []) new.pairs it pairs,
      reasons_beside e.slots.items (Some n) (on_trail e.trail) e.reasons.items c.self.invariant.1,
      c.self.invariant.2,
      watched_more e.slots.items e.trail.0 e.trail.1 e.watchers new (Some n) None c.self.invariant.3 i.slots_are.pair_count pairs (omega (arith, ap (length {A = List ℕ}) c.enter_counted.ensures.rows)) (same_rows e.watchers.rows new.rows c.enter_counted.ensures.rows) c.enter_counted.ensures.others tt,
      orders_more e.slots.items (on_trail e.trail) e.orders c.give.new.self (Some n) c.self.invariant.4 (others e.slots.items c.reserve.new.self.items e.orders c.give.new.self c.len-2.result room (omega (arith, c.len-2.ensures, c.reserve.new.self.ok)) c.give.ensures.others) (λ m same. its e.slots.items c.reserve.new.self.items (on_trail e.trail) n m c.give.new.self c.len-2.result same room (omega (arith, c.len-2.ensures, c.reserve.new.self.ok)) c.in_ok-give.ensures.ok c.in_ok-give.ensures.none),
    )
