-- What a ledger keeps, with a literal more that is true, and with one fewer.
use Rattle.std.proofs.lemmas.Bool.{cases_lt}
use Rattle.std.proofs.Common.{◌≡◌, ℕ, zero, suc, ◌+◌, ◌-◌, ◌<◌, ◌≤◌, ◌⊎◌, inl, inr, false, is_some, Option, None, Some, SomeIff, MatchOption, Contains, All, List, [], ◌∷◌, ◌++◌, length, get_or, refl, ap, sym, subst, ◌∙◌, arith}
use Rattle.std.proofs.lemmas.Int.{ints}
use Rattle.std.proofs.lemmas.List.{get_or_default, get_or_past}
use Rattle.std.proofs.lemmas.List.Elements.{All-get_or, All-nil}
use Rattle.linear.specs.declared.term.Lit.{Lit}
use Rattle.normal_form.specs.Normal.{NormalConstraint, IsNormal, largest_sum, total, variable_bound}
use Rattle.normal_form.proofs.Sums.{sum_over_below}
use Rattle.linear.specs.Literal.{opposite}
use Rattle.propagate.specs.Literals.{coefficient_of, lists}
use Rattle.propagate.specs.Slack.{not_false, IsFalsified}
use Rattle.propagate.specs.Walk.{IsQuiet}
use Rattle.occurrences.specs.declared.occurrence.Occurrence.{Occurrence}
use Rattle.linear.specs.Literal.{code}
use Rattle.occurrences.specs.Occurrences.{share_of, occurrences_of}
use Rattle.trail.specs.Trails.{on_trail}
use Rattle.ledger.specs.Ledgers.{constraint_at, constraint_in, shown, nothing, open_sum, IsLedger, IsIndex, AreCounters, AreKnown, AreParted, AreLimits, AreReasons}
use Rattle.occurrences.specs.Occurrences.{Listed}
use Rattle.ledger.specs.Orders.{AreOrders, Ordering}
use Rattle.ledger.specs.declared.pair.Pair.{Pair}
use Rattle.ledger.specs.Falls.{IsAt}
use Rattle.ledger.specs.Watched.{AreSameKinds, AreWatched, Watching}
use Rattle.occurrences.proofs.Entering.{code_below}
use Rattle.ledger.proofs.EntrySums.{places_below, places_from, shares_from}
use Rattle.ledger.proofs.Opening.{open_less, quiet_at_limit}

abbrev Slots : Type 0
Slots = List (Option NormalConstraint)

-- what a place shows
pub shown_at : (slots : List (Option NormalConstraint)) (k : ℕ) → constraint_at (shown slots) k ≡ constraint_in (get_or slots k None)
shown_at [] k = refl
shown_at (o ∷ os) zero = refl
shown_at (o ∷ os) (suc k) = shown_at os k

-- what is shown at a place is counted there, or nothing, or a clause that is watched
pub record IsWatchedThere (slots : Slots) (pairs : List (Option Pair)) (k : ℕ) : Type 0 where
  pub clause : NormalConstraint
  pub pair : Pair
  pub there : IsAt slots pairs k clause pair

shown_pair : (slots : Slots) (ns ws : List NormalConstraint) (pairs : List (Option Pair)) (k : ℕ) (n : NormalConstraint) (o : Option Pair) → get_or slots k None ≡ Some n → get_or pairs k None ≡ o → AreParted slots ns ws pairs
    → (constraint_at (shown slots) k ≡ constraint_at ns k) ⊎ IsWatchedThere slots pairs k
shown_pair slots ns ws pairs k n None e f x = inl (shown_at slots k ∙ ap constraint_in e ∙ sym (x.counts k n e f).0)
shown_pair slots ns ws pairs k n (Some p) e f x = inr (record { clause = n; pair = p; there = (e, f) })

shown_by : (slots : Slots) (ns ws : List NormalConstraint) (pairs : List (Option Pair)) (k : ℕ) (o : Option NormalConstraint) → get_or slots k None ≡ o → AreParted slots ns ws pairs
    → (constraint_at (shown slots) k ≡ nothing) ⊎ ((constraint_at (shown slots) k ≡ constraint_at ns k) ⊎ IsWatchedThere slots pairs k)
shown_by slots ns ws pairs k None e x = inl (shown_at slots k ∙ ap constraint_in e)
shown_by slots ns ws pairs k (Some n) e x = inr (shown_pair slots ns ws pairs k n (get_or pairs k None) e refl x)

pub shown_kind : (slots : Slots) (ns ws : List NormalConstraint) (pairs : List (Option Pair)) (k : ℕ) → AreParted slots ns ws pairs
    → (constraint_at (shown slots) k ≡ nothing) ⊎ ((constraint_at (shown slots) k ≡ constraint_at ns k) ⊎ IsWatchedThere slots pairs k)
shown_kind slots ns ws pairs k x = shown_by slots ns ws pairs k (get_or slots k None) refl x

pub shown_clause : (slots : Slots) (pairs : List (Option Pair)) (k : ℕ) (w : IsWatchedThere slots pairs k) → constraint_at (shown slots) k ≡ w.clause
shown_clause slots pairs k w = shown_at slots k ∙ ap constraint_in w.there.0

pub quiet_nothing : (assigned : List Lit) → IsQuiet assigned nothing
quiet_nothing assigned = (λ b. omega (arith, ints, b), λ l f. omega (arith, f.occurs))

-- what the entries of a literal add up to at each place is its coefficient there
abbrev pub AreEntries : List NormalConstraint → Lit → List Occurrence → Type 0
AreEntries ns l os = All (λ o. o.place < length ns) os × ((k : ℕ) → k < length ns → share_of k os ≡ coefficient_of (constraint_at ns k) l)

pub entries : (ns : List NormalConstraint) (count : ℕ) (table : List (List Occurrence)) (l m : Lit) (number : ℕ) (os : List Occurrence) → IsIndex ns count table → m ≡ opposite l → number ≡ code m → os ≡ get_or table number [] → AreEntries ns (opposite l) os
entries ns count table l m number os x o named is =
    let there : os ≡ occurrences_of (opposite l) 0 ns = is ∙ ap (λ (k : ℕ). get_or table k []) (named ∙ ap code o) ∙ x.entries (opposite l) in
    subst (λ (ys : List Occurrence). AreEntries ns (opposite l) ys) (sym there)
    (places_from (opposite l) 0 (length ns) ns (omega arith), λ k low. shares_from (opposite l) 0 k k ns low (omega arith))

-- a literal's number is in the table
pub inside : (ns : List NormalConstraint) (count : ℕ) (table : List (List Occurrence)) (l m : Lit) (number : ℕ) → IsIndex ns count table → m ≡ opposite l → number ≡ code m → l.var.0 < count → number < length table
inside ns count table l m number x o named h = omega (arith, named, ap code o, code_below (opposite l) count (length table) (omega (arith, h)) x.size)

-- the entries' places have counters
pub entries_counted : (ns : List NormalConstraint) (assigned : List Lit) (count : ℕ) (table : List (List Occurrence)) (counters : List ℕ) (l m : Lit) (number : ℕ) (os : List Occurrence) → IsIndex ns count table → AreCounters ns assigned counters → m ≡ l → number ≡ code m → os ≡ get_or table number []
    → All (λ o. o.place < length counters) os
entries_counted ns assigned count table counters l m number os x a o named is =
    let there : os ≡ occurrences_of l 0 ns = is ∙ ap (λ (k : ℕ). get_or table k []) (named ∙ ap code o) ∙ x.entries l in
    subst (λ (ys : List Occurrence). All (λ o. o.place < length counters) ys) (sym there) (places_below l 0 (length counters) (length counters) ns a.beyond (omega arith))

-- a place that an entry adds to has a counter
pub counter_of_share : (ns : List NormalConstraint) (assigned : List Lit) (counters : List ℕ) (l : Lit) (os : List Occurrence) (k : ℕ) → AreCounters ns assigned counters → AreEntries ns l os → k < length ns → 0 < share_of k os → k < length counters
counter_of_share ns assigned counters l os k a x low some = elim (cases_lt k (length counters)) [
  | inl there ↦ there
  | inr high ↦ absurd (omega (arith, some, x.1 k low, ap (λ (n : NormalConstraint). coefficient_of n l) (a.beyond k high)))
]

-- no counter goes below 0
pub enough : (ns : List NormalConstraint) (assigned : List Lit) (counters : List ℕ) (l : Lit) (os : List Occurrence) → AreCounters ns assigned counters → AreEntries ns (opposite l) os → lists assigned l ≡ false
    → (k : ℕ) → k < length counters → share_of k os ≤ get_or counters k 0
enough ns assigned counters l os a x unset k h =
    let low : k < length ns = omega (arith, h, a.few) in
    omega (arith, x.1 k low, a.open_sums k, open_less assigned l (constraint_at ns k) unset)

-- what is open where nothing is counted
pub nothing_open : (ns : List NormalConstraint) (before after : List Lit) (counters others : List ℕ) (k : ℕ) → AreCounters ns before counters → length others ≡ length counters → length counters ≤ k → get_or others k 0 ≡ open_sum after (constraint_at ns k)
nothing_open ns before after counters others k a same high = get_or_past others k 0 (omega (arith, same, high)) ∙ ap (open_sum after) (sym (a.beyond k high))

pub counted : (ns : List NormalConstraint) (assigned : List Lit) (before after : List ℕ) (l : Lit) (os : List Occurrence) → AreCounters ns assigned before → AreEntries ns (opposite l) os → lists assigned l ≡ false
    → length after ≡ length before → ((k : ℕ) → k < length before → get_or after k 0 + share_of k os ≡ get_or before k 0)
    → AreCounters ns (assigned ++ l ∷ []) after
counted ns assigned before after l os a x unset same lowered = record {
  few = omega (arith, same, a.few);
  beyond = λ k h. a.beyond k (omega (arith, same, h));
  open_sums = λ k. elim (cases_lt k (length before)) [
    | inl low ↦ omega (arith, lowered k low, x.1 k (omega (arith, low, a.few)), a.open_sums k, open_less assigned l (constraint_at ns k) unset)
    | inr high ↦ nothing_open ns assigned (assigned ++ l ∷ []) before after k a same high
  ];
}

-- a counted constraint whose counter has not fallen below its limit is quiet
pub quiet_counted : (slots : Slots) (ns : List NormalConstraint) (assigned : List Lit) (counters limits : List ℕ) (k : ℕ) → constraint_at (shown slots) k ≡ constraint_at ns k → AreCounters ns assigned counters → AreLimits (shown slots) ns limits
    → get_or limits k 0 ≤ get_or counters k 0 → IsQuiet assigned (constraint_at (shown slots) k)
quiet_counted slots ns assigned counters limits k e a b far =
    quiet_at_limit assigned (constraint_at (shown slots) k) (get_or counters k 0) (get_or limits k 0) (a.open_sums k ∙ ap (open_sum assigned) (sym e)) (λ m. b k m e) far

pub nothing_there : (slots : List (Option NormalConstraint)) (k : ℕ) (l : Lit) → 0 < coefficient_of (constraint_at (shown slots) k) l → k < length slots
nothing_there [] k l h = absurd (omega (arith, h))
nothing_there (o ∷ os) zero l h = omega arith
nothing_there (o ∷ os) (suc k) l h = omega (arith, nothing_there os k l h)

-- a place waits, or what is shown there is quiet, where that is so of what is counted and of what is watched
pub each_kind : (slots : Slots) (ns ws : List NormalConstraint) (pairs : List (Option Pair)) (assigned : List Lit) (counters limits queue : List ℕ) (l : Lit) (os : List Occurrence) → AreParted slots ns ws pairs → AreCounters ns assigned counters → AreLimits (shown slots) ns limits → AreEntries ns l os
    → ((k : ℕ) → k < length ns → 0 < share_of k os → (get_or limits k 0 ≤ get_or counters k 0) ⊎ Contains queue k)
    → ((k : ℕ) (n : NormalConstraint) (p : Pair) → IsAt slots pairs k n p → 0 < coefficient_of n l → IsQuiet assigned n ⊎ Contains queue k)
    → (k : ℕ) → 0 < coefficient_of (constraint_at (shown slots) k) l → IsQuiet assigned (constraint_at (shown slots) k) ⊎ Contains queue k
each_kind slots ns ws pairs assigned counters limits queue l os x a b es counts watches k some =
    let low : k < length slots = nothing_there slots k l some in
    elim (shown_kind slots ns ws pairs k x) [
      | inl e ↦ inl (subst (λ (n : NormalConstraint). IsQuiet assigned n) (sym e) (quiet_nothing assigned))
      | inr rest ↦ elim rest [
        | inl e ↦ elim (counts k (omega (arith, low, x.count)) (omega (arith, some, ap (λ (n : NormalConstraint). coefficient_of n l) e, es.1 k (omega (arith, low, x.count))))) [
          | inl far ↦ inl (quiet_counted slots ns assigned counters limits k e a b far)
          | inr waits ↦ inr waits
        ]
        | inr w ↦
            let same : constraint_at (shown slots) k ≡ w.clause = shown_clause slots pairs k w in
            elim (watches k w.clause w.pair w.there (omega (arith, some, ap (λ (n : NormalConstraint). coefficient_of n l) same))) [
              | inl quiet ↦ inl (subst (λ (n : NormalConstraint). IsQuiet assigned n) (sym same) quiet)
              | inr waits ↦ inr waits
            ]
      ]
    ]

-- the ledger with other counters, of another assignment, and other pairs at the same places
kind_kept : (o o' : Option Pair) → is_some o' ≡ is_some o → o' ≡ None → o ≡ None
kind_kept None o' e f = refl
kind_kept (Some p) None e f = cc
kind_kept (Some p) (Some q) e f = cc

pair_kept : (o o' : Option Pair) (q : Pair) → is_some o' ≡ is_some o → o' ≡ Some q → (p : Pair) × (o ≡ Some p)
pair_kept (Some p) o' q e f = (p, refl)
pair_kept None None q e f = absurd (cc)
pair_kept None (Some p) q e f = absurd (cc)

pub parted_same : (slots : Slots) (ns ws : List NormalConstraint) (pairs new : List (Option Pair)) → AreParted slots ns ws pairs → AreSameKinds pairs new → AreParted slots ns ws new
parted_same slots ns ws pairs new x same = record {
  count = x.count;
  watched_count = x.watched_count;
  pair_count = x.pair_count ∙ sym same.count;
  counts = λ k n e f. x.counts k n e (kind_kept (get_or pairs k None) (get_or new k None) (same.kinds k) f);
  watches = λ k n q e f. let p = pair_kept (get_or pairs k None) (get_or new k None) q (same.kinds k) f in x.watches k n p.0 e p.1;
}

pub recounted : (slots : Slots) (assigned new : List Lit) (variables same_variables : ℕ) (table : List (List Occurrence)) (clauses : Listed) (counters after limits : List ℕ) (pairs others : List (Option Pair)) (e : IsLedger slots assigned variables table clauses counters limits pairs)
    → same_variables ≡ variables → AreCounters e.counted new after → length after ≡ length counters → AreSameKinds pairs others → IsLedger slots new same_variables table clauses after limits others
recounted slots assigned new variables same_variables table clauses counters after limits pairs others e same a long kinds = rw same (record {
  counted = e.counted;
  watched = e.watched;
  index = e.index;
  watched_index = e.watched_index;
  counters_are = a;
  known = e.known;
  watched_known = e.watched_known;
  slots_are = parted_same slots e.counted e.watched pairs others e.slots_are kinds;
  limits_are = e.limits_are;
  limited = e.limited ∙ sym long;
})

-- the counters with the last literal backtracked
pub counted_back : (ns : List NormalConstraint) (assigned : List Lit) (before after : List ℕ) (l : Lit) (os : List Occurrence) → AreCounters ns (assigned ++ l ∷ []) before → AreEntries ns (opposite l) os → lists assigned l ≡ false
    → length after ≡ length before → ((k : ℕ) → k < length before → get_or after k 0 ≡ get_or before k 0 + share_of k os)
    → AreCounters ns assigned after
counted_back ns assigned before after l os a x unset same raised = record {
  few = omega (arith, same, a.few);
  beyond = λ k h. a.beyond k (omega (arith, same, h));
  open_sums = λ k. elim (cases_lt k (length before)) [
    | inl low ↦ omega (arith, raised k low, x.1 k (omega (arith, low, a.few)), a.open_sums k, open_less assigned l (constraint_at ns k) unset)
    | inr high ↦ nothing_open ns (assigned ++ l ∷ []) assigned before after k a same high
  ];
}

-- no counter goes above the sum of all coefficients
pub room : (ns : List NormalConstraint) (count : ℕ) (assigned : List Lit) (counters : List ℕ) (l : Lit) (os : List Occurrence) → AreKnown ns count → AreCounters ns (assigned ++ l ∷ []) counters → AreEntries ns (opposite l) os → lists assigned l ≡ false
    → (k : ℕ) → k < length counters → get_or counters k 0 + share_of k os ≤ largest_sum
room ns count assigned counters l os known a x unset k h =
    let low : k < length ns = omega (arith, h, a.few) in
    let n : NormalConstraint = constraint_at ns k in
    let fits : total n.terms ≤ largest_sum = (All-get_or IsNormal ns k nothing low known.normal).fits.sum in
    omega (arith, x.1 k low, a.open_sums k, open_less assigned l n unset, sum_over_below (not_false assigned) n.terms, fits)

-- the constraint that stands at a place
pub some_at : (slots : List (Option NormalConstraint)) (place : ℕ) (o : Option NormalConstraint) (n : NormalConstraint) → place < length slots → o ≡ get_or slots place o → o ≡ Some n → get_or slots place None ≡ Some n
some_at slots place o n h is e = get_or_default slots place None o h ∙ sym is ∙ e

pub none_at : (slots : List (Option NormalConstraint)) (place : ℕ) (o : Option NormalConstraint) → place < length slots → o ≡ get_or slots place o → o ≡ None → get_or slots place None ≡ None
none_at slots place o h is e = get_or_default slots place None o h ∙ sym is ∙ e

-- its counter is what is open in it, where it is counted
pub counter_there : (slots : Slots) (assigned : List Lit) (variables : ℕ) (table : List (List Occurrence)) (clauses : Listed) (counters limits : List ℕ) (pairs : List (Option Pair)) (place counter : ℕ) (n : NormalConstraint) → IsLedger slots assigned variables table clauses counters limits pairs
    → get_or slots place None ≡ Some n → get_or pairs place None ≡ None → counter ≡ get_or counters place 0 → counter ≡ open_sum assigned n
counter_there slots assigned variables table clauses counters limits pairs place counter n i e f is = is ∙ i.counters_are.open_sums place ∙ ap (open_sum assigned) (i.slots_are.counts place n e f).0

-- its variables are known, and it is normal
known_by : (slots : Slots) (assigned : List Lit) (variables : ℕ) (table : List (List Occurrence)) (clauses : Listed) (counters limits : List ℕ) (pairs : List (Option Pair)) (place : ℕ) (n : NormalConstraint) (o : Option Pair) → IsLedger slots assigned variables table clauses counters limits pairs
    → place < length slots → get_or slots place None ≡ Some n → get_or pairs place None ≡ o → (variable_bound n.terms ≤ variables) × IsNormal n
known_by slots assigned variables table clauses counters limits pairs place n None i h e f =
    let low : place < length i.counted = omega (arith, h, i.slots_are.count) in (
      rw ((i.slots_are.counts place n e f).0) at (All-get_or (λ (m : NormalConstraint). variable_bound m.terms ≤ variables) i.counted place nothing low i.known.within),
      rw ((i.slots_are.counts place n e f).0) at (All-get_or IsNormal i.counted place nothing low i.known.normal),
    )
known_by slots assigned variables table clauses counters limits pairs place n (Some p) i h e f =
    let low : place < length i.watched = omega (arith, h, i.slots_are.watched_count) in (
      rw ((i.slots_are.watches place n p e f).1) at (All-get_or (λ (m : NormalConstraint). variable_bound m.terms ≤ variables) i.watched place nothing low i.watched_known.within),
      rw ((i.slots_are.watches place n p e f).1) at (All-get_or IsNormal i.watched place nothing low i.watched_known.normal),
    )

pub variables_there : (slots : Slots) (assigned : List Lit) (variables : ℕ) (table : List (List Occurrence)) (clauses : Listed) (counters limits : List ℕ) (pairs : List (Option Pair)) (place : ℕ) (n : NormalConstraint) → IsLedger slots assigned variables table clauses counters limits pairs
    → place < length slots → get_or slots place None ≡ Some n → variable_bound n.terms ≤ variables
variables_there slots assigned variables table clauses counters limits pairs place n i h e = (known_by slots assigned variables table clauses counters limits pairs place n (get_or pairs place None) i h e refl).0

pub normal_there : (slots : Slots) (assigned : List Lit) (variables : ℕ) (table : List (List Occurrence)) (clauses : Listed) (counters limits : List ℕ) (pairs : List (Option Pair)) (place : ℕ) (n : NormalConstraint) → IsLedger slots assigned variables table clauses counters limits pairs
    → place < length slots → get_or slots place None ≡ Some n → IsNormal n
normal_there slots assigned variables table clauses counters limits pairs place n i h e = (known_by slots assigned variables table clauses counters limits pairs place n (get_or pairs place None) i h e refl).1

none_past : (slots : Slots) (k : ℕ) (n : NormalConstraint) → get_or slots k None ≡ Some n → k < length slots
none_past slots k n e = elim (cases_lt k (length slots)) [
  | inl low ↦ low
  | inr high ↦ absurd (none_some (sym (get_or_past slots k None high) ∙ e))
]
  where
    none_some : None ≡ Some n → ⊥
    none_some f = cc

pub all_within : (slots : Slots) (assigned : List Lit) (variables : ℕ) (table : List (List Occurrence)) (clauses : Listed) (counters limits : List ℕ) (pairs : List (Option Pair)) → IsLedger slots assigned variables table clauses counters limits pairs
    → (k : ℕ) (n : NormalConstraint) → get_or slots k None ≡ Some n → variable_bound n.terms ≤ variables
all_within slots assigned variables table clauses counters limits pairs i k n e = variables_there slots assigned variables table clauses counters limits pairs k n i (none_past slots k n e) e

-- a ledger with nothing in it
nowhere : IsLedger [] [] 0 [] (record { count = 0; rows = [] }) [] [] []
nowhere = record {
  counted = [];
  watched = [];
  index = record { size = omega arith; entries = λ l. refl };
  watched_index = record { low = omega arith; index = record { size = omega arith; entries = λ l. refl } };
  counters_are = record { few = omega arith; beyond = λ k h. refl; open_sums = λ k. refl };
  known = record { normal = All-nil IsNormal; within = All-nil (λ (n : NormalConstraint). variable_bound n.terms ≤ 0) };
  watched_known = record { normal = All-nil IsNormal; within = All-nil (λ (n : NormalConstraint). variable_bound n.terms ≤ 0) };
  slots_are = record { count = refl; watched_count = refl; pair_count = refl; counts = λ k n e f. absurd (cc); watches = λ k n p e f. absurd (cc) };
  limits_are = λ k l e. omega arith;
  limited = refl;
}

nobody : AreWatched [] [] 0 (record { rows = []; pairs = []; literals = [] })
nobody = record { size = omega arith; within = λ k p e. absurd (cc); there = λ k p e. absurd (cc); each = λ k n p e f. absurd (cc); listed = λ k n p e f. absurd (cc) }

no_constraint : (n : NormalConstraint) → None ≡ Some n → ⊥
no_constraint n e = cc

no_orders : (xs : List Lit) (orders : Ordering) → AreOrders [] xs orders
no_orders xs orders k n e = absurd (no_constraint n e)

no_reasons : AreReasons [] [] []
no_reasons = record { as_many = refl; forced = λ k d h. absurd (omega (arith, h)) }

pub empty : (slots : Slots) (trail : List Lit × ℕ × List Lit) (table : List (List Occurrence)) (clauses : Listed) (counters limits : List ℕ) (watchers : Watching) (reasons : List (Option ℕ)) (capacity : ℕ) (orders : Ordering) → slots ≡ [] → trail ≡ ([], 0, []) → table ≡ [] → clauses ≡ record { count = 0; rows = [] } → counters ≡ [] → limits ≡ [] → watchers ≡ record { rows = []; pairs = []; literals = [] } → reasons ≡ []
    → IsLedger slots trail.0 trail.1 table clauses counters limits watchers.pairs × AreReasons (shown slots) (on_trail trail) reasons × (trail.1 ≤ capacity) × AreWatched slots trail.0 trail.1 watchers × AreOrders slots (on_trail trail) orders
empty slots trail table clauses counters limits watchers reasons capacity orders s t b d c l w r = rw (s, t, b, d, c, l, w, r) (nowhere, no_reasons, omega arith, nobody, no_orders (on_trail ([], 0, [])) orders)

pub queued_there : (slots same : List (Option NormalConstraint)) (assigned new : List Lit) (queue : List ℕ) (l : Lit) → slots ≡ same → new ≡ assigned ++ l ∷ []
    → ((k : ℕ) → 0 < coefficient_of (constraint_at (shown slots) k) (opposite l) → IsQuiet (assigned ++ l ∷ []) (constraint_at (shown slots) k) ⊎ Contains queue k)
    → (k : ℕ) → 0 < coefficient_of (constraint_at (shown same) k) (opposite l) → IsQuiet new (constraint_at (shown same) k) ⊎ Contains queue k
queued_there slots same assigned new queue l e f h =
    subst (λ (os : List (Option NormalConstraint)). (k : ℕ) → 0 < coefficient_of (constraint_at (shown os) k) (opposite l) → IsQuiet new (constraint_at (shown os) k) ⊎ Contains queue k) e
    (subst (λ (xs : List Lit). (k : ℕ) → 0 < coefficient_of (constraint_at (shown slots) k) (opposite l) → IsQuiet xs (constraint_at (shown slots) k) ⊎ Contains queue k) (sym f) h)

-- what a counter has more than a degree is the slack
pub slack_said : (r : Option ℕ) (assigned : List Lit) (n m : NormalConstraint) (counter degree : ℕ) → SomeIff r (degree ≤ counter) (counter - degree) → counter ≡ open_sum assigned n → degree ≡ n.degree → m ≡ n
    → MatchOption r (IsFalsified assigned m) (λ s. open_sum assigned m ≡ m.degree + s)
slack_said None assigned n m counter degree said is same e = elim (cases_lt counter degree) [
  | inr below ↦ absurd (said below)
  | inl above ↦ omega (arith, ints, above, is, same, ap (open_sum assigned) e, ap (λ (k : NormalConstraint). k.degree) e)
]
slack_said (Some s) assigned n m counter degree said is same e = omega (arith, said.0, said.1, is, same, ap (open_sum assigned) e, ap (λ (k : NormalConstraint). k.degree) e)
