-- One constraint fewer at the end of all lists.
use Rattle.std.proofs.Common.{◌≡◌, ◌-◌, ◌+◌, ◌<◌, ◌≤◌, ℕ, List, Option, Some, None, [], ◌∷◌, ◌++◌, length, take, get_or, vec_capacity, refl, ap, sym, subst, ◌∙◌, arith}
use Rattle.std.proofs.Math.Seq.{take-length}
use Rattle.linear.specs.declared.term.Lit.{Lit}
use Rattle.normal_form.specs.declared.term.NormalTerm.{NormalTerm}
use Rattle.normal_form.specs.Normal.{NormalConstraint}
use Rattle.occurrences.specs.declared.occurrence.Occurrence.{Occurrence}
use Rattle.ledger.specs.declared.pair.Pair.{Pair}
use Rattle.trail.specs.Trails.{on_trail}
use Rattle.ledger.specs.Ledgers.{AreReasons, IsIndexBelow, IsLedger, State, shown}
use Rattle.occurrences.specs.Occurrences.{Listed}
use Rattle.ledger.specs.Orders.{AreOrders, Ordering, order_at}
use Rattle.ledger.specs.Watched.{AreWatched, Watching}
use Rattle.occurrences.specs.Occurrences.{HasMore, occurrences_of}
use Rattle.ledger.proofs.Attaching.{counted_before, counted_left, detached, reasons_without, watched_before, watched_left, with_pairs}
use Rattle.ledger.proofs.PlacedOrders.{orders_fewer}
use Rattle.ledger.proofs.WatchedPlaces.{watched_fewer}
use Rattle.ledger.proofs.ledger.Ledger.detach.Goals as goal
use Rattle.ledger.proofs.ledger.Ledger.detach.Goals.{in-None, in-Some}

abbrev End : Type 0
End = goal.After-drop-constraint-inside-in-Some-Some

split : (c : End) → c.self.inside.slots.items ≡ c.pop.new.self.items ++ Some c.in-Some-Some.constraint ∷ []
split c = rw c.in-Some-Some.field-0-is at c.in-Some-Some.ensures.items

paired : (c : End) (o : Option Pair) → c.pair.result ≡ o → get_or c.self.inside.watchers.pairs (length c.pop.new.self.items) None ≡ o
paired c o is =
    ap (λ (k : ℕ). get_or c.self.inside.watchers.pairs k None) (omega (arith, c.len-place.ensures, c.pop.new.self.ok)) ∙ sym c.pair.ensures ∙ is

all_terms : (c : End) (base : Lit → List Occurrence) (table : List (List Occurrence)) (place : ℕ) → HasMore base table place c.in-Some-Some.constraint.terms → HasMore base table place (take c.len-count.result c.in-Some-Some.constraint.terms)
all_terms c base table place m =
    let n : NormalConstraint = c.in-Some-Some.constraint in
    let all : n.terms ≡ take c.len-count.result n.terms = sym (take-length n.terms) ∙ ap (λ (k : ℕ). take k n.terms) (sym c.len-count.ensures.value) in
    subst (λ (ts : List NormalTerm). HasMore base table place ts) all m

-- what is left, where both tables are without the constraint
abbrev Left : End → List (List Occurrence) → Listed → Type 0
Left c after behind =
    IsLedger c.pop.new.self.items c.self.inside.trail.0 c.self.inside.trail.1 after behind c.truncate.new.self.items c.truncate-in-Some-Some.new.self.items c.detach.new.self.pairs
    × AreReasons (shown c.pop.new.self.items) (on_trail c.self.inside.trail) c.self.inside.reasons.items × (c.self.inside.trail.1 ≤ vec_capacity c.self.inside.reasons)
    × AreWatched c.pop.new.self.items c.self.inside.trail.0 c.self.inside.trail.1 c.detach.new.self × AreOrders c.pop.new.self.items (on_trail c.self.inside.trail) c.take_out.new.self

left : (c : End) (after : List (List Occurrence)) (behind : Listed) → length after ≡ length c.self.inside.table → HasMore (λ l. occurrences_of l 0 (take (length c.pop.new.self.items) c.self.invariant.0.counted)) after (length c.pop.new.self.items) []
    → IsIndexBelow (take (length c.pop.new.self.items) c.self.invariant.0.watched) c.self.inside.trail.1 behind
    → c.match-pair.self-inside.counters ≡ c.self.inside.counters → c.match-pair.self-inside.limits ≡ c.self.inside.limits → c.match-pair.self-inside.watchers ≡ c.self.inside.watchers → c.match-pair.self-inside.orders ≡ c.self.inside.orders
    → Left c after behind
left c after behind long none fewer_w same_counters same_limits same_watchers same_orders =
    let e = c.self.inside in
    let i = c.self.invariant.0 in
    let n : NormalConstraint = c.in-Some-Some.constraint in
    let rest : List (Option NormalConstraint) = c.pop.new.self.items in
    let last : c.len-place.result ≡ length rest = omega (arith, c.len-place.ensures, c.pop.new.self.ok) in
    let counters : c.truncate.new.self.items ≡ take (length rest) e.counters.items = c.truncate.ensures.items ∙ ap (λ v. take c.len-place.result v.items) same_counters ∙ ap (λ (k : ℕ). take k e.counters.items) last in
    let limits : c.truncate-in-Some-Some.new.self.items ≡ take (length rest) e.limits.items = c.truncate-in-Some-Some.ensures.items ∙ ap (λ v. take c.len-place.result v.items) same_limits ∙ ap (λ (k : ℕ). take k e.limits.items) last in
    let pairs : c.detach.new.self.pairs ≡ take (length e.watchers.pairs - 1) e.watchers.pairs = c.detach.ensures.pairs ∙ ap (λ (w : Watching). take (length w.pairs - 1) w.pairs) same_watchers in
    let rows : c.detach.new.self.rows ≡ e.watchers.rows = c.detach.ensures.rows ∙ ap (λ (w : Watching). w.rows) same_watchers in
    let lists : (k : ℕ) → k + 1 < length e.watchers.pairs → get_or c.detach.new.self.literals k [] ≡ get_or e.watchers.literals k [] = subst (λ (w : Watching). (k : ℕ) → k + 1 < length w.pairs → get_or c.detach.new.self.literals k [] ≡ get_or w.literals k []) same_watchers c.detach.ensures.others in
    let it = detached e.slots.items rest e.trail.0 e.trail.1 e.table after e.clauses behind e.counters.items e.limits.items e.watchers.pairs n i (split c) long none fewer_w in
    let below : (k place : ℕ) → k < length (on_trail e.trail) → get_or e.reasons.items k None ≡ Some place → place + 1 < length e.slots.items = subst (λ (s : State). (k place : ℕ) → k < length s.assigned → get_or s.reasons k None ≡ Some place → place + 1 < length s.slots) (sym c.self.view_is) c.requires.reasons in
    let fewer : (k : ℕ) → k < length rest → order_at c.take_out.new.self k ≡ order_at e.orders k = λ k low. c.take_out.ensures k (λ here. absurd (omega (arith, here, low, c.len-place.ensures, c.pop.new.self.ok))) ∙ ap (λ (o : Ordering). order_at o k) same_orders in
    rw (counters, limits) (
      with_pairs rest e.trail.0 e.trail.1 after behind (take (length rest) e.counters.items) (take (length rest) e.limits.items) (take (length e.watchers.pairs - 1) e.watchers.pairs) c.detach.new.self.pairs it pairs,
      reasons_without e.slots.items rest n (on_trail e.trail) e.reasons.items (split c) c.self.invariant.1 below,
      c.self.invariant.2,
      watched_fewer e.slots.items rest e.trail.0 e.trail.1 e.watchers c.detach.new.self n (split c) i.slots_are.pair_count pairs rows lists c.self.invariant.3,
      orders_fewer e.slots.items rest (on_trail e.trail) e.orders c.take_out.new.self n (split c) c.self.invariant.4 fewer,
    )

pub invariant_of-self : goal.invariant_of-self
invariant_of-self c =
    let e = c.self.inside in
    let i = c.self.invariant.0 in
    let n : NormalConstraint = c.in-Some-Some.constraint in
    let rest : List (Option NormalConstraint) = c.pop.new.self.items in
    let m : ℕ = length rest in
    let last : c.len-place.result ≡ m = omega (arith, c.len-place.ensures, c.pop.new.self.ok) in
    elim c.match-pair.branch [
      | in-None w ↦
          let unpaired = paired c None w.in-None.is in
          let before = counted_before e.slots.items rest e.trail.0 e.trail.1 e.table e.clauses e.counters.items e.limits.items e.watchers.pairs n i (split c) unpaired in
          let base : Lit → List Occurrence = λ l. occurrences_of l 0 (take m i.counted) in
          let behind = counted_left e.slots.items rest e.trail.0 e.trail.1 e.table e.clauses w.leave_out.new.self e.counters.items e.limits.items e.watchers.pairs n i (split c) unpaired (rw last at w.leave_out.ensures) in
          rw w.self-inside-is (left c w.leave.new.table w.leave_out.new.self w.leave.ensures.length (w.leave.ensures.fewer base m (all_terms c base e.table m before)) behind (ap (λ s. s.counters) w.self-inside-is) (ap (λ s. s.limits) w.self-inside-is) (ap (λ s. s.watchers) w.self-inside-is) (ap (λ s. s.orders) w.self-inside-is))
      | in-Some w ↦
          let p : Pair = w.in-Some.field-0 in
          let with_pair = paired c (Some p) w.in-Some.is in
          let before = watched_before e.slots.items rest e.trail.0 e.trail.1 e.table e.clauses e.counters.items e.limits.items e.watchers.pairs n p i (split c) with_pair in
          let said = w.leave-in-Some.ensures in
          let behind = watched_left e.slots.items rest e.trail.0 e.trail.1 e.table e.clauses w.leave-in-Some.new.self e.counters.items e.limits.items e.watchers.pairs n p c.len-place.result i (split c) with_pair last said.length said.waits said.count said.left in
          rw w.self-inside-is (left c e.table w.leave-in-Some.new.self refl before behind (ap (λ s. s.counters) w.self-inside-is) (ap (λ s. s.limits) w.self-inside-is) (ap (λ s. s.watchers) w.self-inside-is) (ap (λ s. s.orders) w.self-inside-is))
    ]
