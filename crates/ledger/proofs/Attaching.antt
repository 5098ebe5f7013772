-- A ledger with a constraint more at the end, and with one fewer.
use Rattle.std.proofs.Common.{◌≡◌, ℕ, ◌+◌, ◌-◌, ◌*◌, ◌<◌, ◌≤◌, ◌⊎◌, inl, inr, IfSome, Option, None, Some, List, [], ◌∷◌, ◌++◌, length, get_or, set, take, min, refl, ap, sym, subst, ◌∙◌, append-nil, length-append, arith}
use Rattle.std.proofs.lemmas.Bool.{cases_eq, cases_lt}
use Rattle.std.proofs.lemmas.List.{get_or_push, get_or_append_left, get_or-set_same, get_or-set_other, length-set, get_or-take, length-take, length-take-le, length-map, take_more, take-append-le, take-set-le, take-take, map_push, get_or_past}
use Rattle.std.proofs.lemmas.List.Elements.{All-push, All-set, All-take, All-weaker}
use Rattle.std.proofs.Math.Seq.{take-length}
use Rattle.linear.specs.declared.term.Lit.{Lit}
use Rattle.normal_form.specs.declared.term.NormalTerm.{NormalTerm}
use Rattle.normal_form.specs.Normal.{NormalConstraint, IsNormal, variable_bound}
use Rattle.propagate.specs.Literals.{coefficient_of}
use Rattle.occurrences.specs.declared.occurrence.Occurrence.{Occurrence}
use Rattle.occurrences.specs.Occurrences.{entries_of, entry_of, occurrences_of, HasMore}
use Rattle.ledger.specs.Ledgers.{constraint_at, constraint_in, shown, nothing, open_sum, IsIndex, IsIndexBelow, IsLedger, AreCounters, AreKnown, AreParted, AreLimits, AreReasons}
use Rattle.occurrences.specs.Occurrences.{Listed}
use Rattle.ledger.specs.declared.pair.Pair.{Pair}
use Rattle.ledger.proofs.EntrySums.{occurrences_push}
use Rattle.ledger.proofs.Reasons.{reasons_moved}
use Rattle.ledger.proofs.Standing.{shown_at, variables_there}

pub none_is_not_some : (n : NormalConstraint) → None ≡ Some n → ⊥
none_is_not_some n e = cc

-- the last constraint of some
last_is : (ns : List NormalConstraint) (n : NormalConstraint) (k : ℕ) → k ≡ length ns → constraint_at (ns ++ n ∷ []) k ≡ n
last_is ns n k e = get_or_push ns n nothing k (sym e)

earlier_is : (ns : List NormalConstraint) (n : NormalConstraint) (k : ℕ) → k < length ns → constraint_at (ns ++ n ∷ []) k ≡ constraint_at ns k
earlier_is ns n k h = get_or_append_left ns (n ∷ []) nothing k h

earlier_or_last : (ns : List NormalConstraint) (n : NormalConstraint) (k : ℕ) → k < length (ns ++ n ∷ []) → (k < length ns) ⊎ (k ≡ length ns)
earlier_or_last ns n k h = elim (cases_eq k (length ns)) [
  | inl e ↦ inr e
  | inr other ↦ inl (omega (arith, h, other, length-append ns (n ∷ [])))
]

pub shown_more : (slots : List (Option NormalConstraint)) (s : Option NormalConstraint) → shown (slots ++ s ∷ []) ≡ shown slots ++ constraint_in s ∷ []
shown_more slots s = map_push constraint_in slots s

-- nothing more at the end shows nowhere
nothing_more : (ns : List NormalConstraint) (k : ℕ) → constraint_at (ns ++ nothing ∷ []) k ≡ constraint_at ns k
nothing_more ns k = elim (cases_lt k (length ns)) [
  | inl low ↦ earlier_is ns nothing k low
  | inr high ↦ elim (cases_eq k (length ns)) [
    | inl e ↦ last_is ns nothing k e ∙ sym (get_or_past ns k nothing high)
    | inr other ↦ get_or_past (ns ++ nothing ∷ []) k nothing (omega (arith, high, other, length-append ns (nothing ∷ []))) ∙ sym (get_or_past ns k nothing high)
  ]
]

-- the counters and limits with one more that is counted, where each place has one
counters_more : (ns : List NormalConstraint) (assigned : List Lit) (counters : List ℕ) (n : NormalConstraint) (opened : ℕ) → AreCounters ns assigned counters → length counters ≡ length ns → opened ≡ open_sum assigned n → AreCounters (ns ++ n ∷ []) assigned (counters ++ opened ∷ [])
counters_more ns assigned counters n opened a all is = record {
  few = omega (arith, all, length-append ns (n ∷ []), length-append counters (opened ∷ []));
  beyond = λ k h. get_or_past (ns ++ n ∷ []) k nothing (omega (arith, h, all, length-append ns (n ∷ []), length-append counters (opened ∷ [])));
  open_sums = λ k. elim (cases_lt k (length ns)) [
    | inl low ↦ get_or_append_left counters (opened ∷ []) 0 k (omega (arith, low, all)) ∙ a.open_sums k ∙ ap (open_sum assigned) (sym (earlier_is ns n k low))
    | inr high ↦ elim (cases_eq k (length ns)) [
      | inl e ↦ get_or_push counters opened 0 k (omega (arith, e, all)) ∙ is ∙ ap (open_sum assigned) (sym (last_is ns n k e))
      | inr other ↦
          get_or_past (counters ++ opened ∷ []) k 0 (omega (arith, high, other, all, length-append counters (opened ∷ [])))
          ∙ ap (open_sum assigned) (sym (get_or_past (ns ++ n ∷ []) k nothing (omega (arith, high, other, length-append ns (n ∷ [])))))
    ]
  ];
}

limits_more : (cs ns : List NormalConstraint) (limits : List ℕ) (n : NormalConstraint) (limit : ℕ) → AreLimits cs ns limits → length cs ≡ length ns → length limits ≡ length ns → ((l : Lit) → n.degree + coefficient_of n l ≤ limit) → AreLimits (cs ++ n ∷ []) (ns ++ n ∷ []) (limits ++ limit ∷ [])
limits_more cs ns limits n limit a same all enough = λ k l is. elim (cases_lt k (length ns)) [
  | inl low ↦
      let here : constraint_at (cs ++ n ∷ []) k ≡ constraint_at cs k = earlier_is cs n k (omega (arith, low, same)) in
      omega (arith, get_or_append_left limits (limit ∷ []) 0 k (omega (arith, low, all)), a k l (sym here ∙ is ∙ earlier_is ns n k low), ap (λ (m : NormalConstraint). m.degree + coefficient_of m l) here)
  | inr high ↦ elim (cases_eq k (length ns)) [
    | inl e ↦ omega (arith, get_or_push limits limit 0 k (omega (arith, e, all)), enough l, ap (λ (m : NormalConstraint). m.degree + coefficient_of m l) (last_is cs n k (omega (arith, e, same))))
    | inr other ↦ omega (arith, ap (λ (m : NormalConstraint). m.degree + coefficient_of m l) (get_or_past (cs ++ n ∷ []) k nothing (omega (arith, high, other, same, length-append cs (n ∷ [])))))
  ]
]

-- the same with one more that is not counted
counters_beside : (ns : List NormalConstraint) (assigned : List Lit) (counters : List ℕ) → AreCounters ns assigned counters → AreCounters (ns ++ nothing ∷ []) assigned counters
counters_beside ns assigned counters a = record {
  few = omega (arith, a.few, length-append ns (nothing ∷ []));
  beyond = λ k h. nothing_more ns k ∙ a.beyond k h;
  open_sums = λ k. a.open_sums k ∙ ap (open_sum assigned) (sym (nothing_more ns k));
}

limits_beside : (cs ns : List NormalConstraint) (limits : List ℕ) (n : NormalConstraint) → AreLimits cs ns limits → length cs ≡ length ns → AreLimits (cs ++ n ∷ []) (ns ++ nothing ∷ []) limits
limits_beside cs ns limits n a same = λ k l is. elim (cases_lt k (length ns)) [
  | inl low ↦
      let here : constraint_at (cs ++ n ∷ []) k ≡ constraint_at cs k = earlier_is cs n k (omega (arith, low, same)) in
      omega (arith, a k l (sym here ∙ is ∙ nothing_more ns k), ap (λ (m : NormalConstraint). m.degree + coefficient_of m l) here)
  | inr high ↦ omega (arith, ap (λ (m : NormalConstraint). m.degree + coefficient_of m l) (is ∙ nothing_more ns k ∙ get_or_past ns k nothing high))
]

-- what a place adds to what is counted and to what is watched: its constraint, where it has one, with two literals or without
pub record IsPartOf (s : Option NormalConstraint) (counted watched : NormalConstraint) (o : Option Pair) : Type 0 where
  pub counts : (n : NormalConstraint) → s ≡ Some n → o ≡ None → (counted ≡ n) × (watched ≡ nothing)
  pub watches : (n : NormalConstraint) (p : Pair) → s ≡ Some n → o ≡ Some p → (counted ≡ nothing) × (watched ≡ n)

-- what is said of what a slot has, where it has this
pub of_slot : (P : NormalConstraint → Type 0) (s : Option NormalConstraint) (n : NormalConstraint) → s ≡ Some n → IfSome s P → P n
of_slot P s n e h = subst (λ (o : Option NormalConstraint). IfSome o P) e h

own : (n m : NormalConstraint) → Some n ≡ Some m → n ≡ m
own n m e = cc

pub part_counted : (n : NormalConstraint) → IsPartOf (Some n) n nothing None
part_counted n = record { counts = λ m e f. (own n m e, refl); watches = λ m p e f. absurd (cc) }

pub part_watched : (n : NormalConstraint) (p : Pair) → IsPartOf (Some n) nothing n (Some p)
part_watched n p = record { counts = λ m e f. absurd (cc); watches = λ m q e f. (refl, own n m e) }

pub part_empty : IsPartOf None nothing nothing None
part_empty = record { counts = λ n e f. absurd (none_is_not_some n e); watches = λ n p e f. absurd (none_is_not_some n e) }

-- a place behind the others, or before the end
pub place_cases : (slots : List (Option NormalConstraint)) (s : Option NormalConstraint) (m : NormalConstraint) (k : ℕ) → get_or (slots ++ s ∷ []) k None ≡ Some m → ((k < length slots) × (get_or slots k None ≡ Some m)) ⊎ ((k ≡ length slots) × (s ≡ Some m))
place_cases slots s m k e = elim (cases_eq k (length slots)) [
  | inl here ↦ inr (here, sym (get_or_push slots s None k (sym here)) ∙ e)
  | inr other ↦ elim (cases_lt k (length slots)) [
    | inl low ↦ inl (low, sym (get_or_append_left slots (s ∷ []) None k low) ∙ e)
    | inr high ↦
        let past : get_or (slots ++ s ∷ []) k None ≡ None = get_or_past (slots ++ s ∷ []) k None (omega (arith, high, other, length-append slots (s ∷ []))) in
        absurd (none_is_not_some m (sym past ∙ e))
  ]
]

parted_more : (slots : List (Option NormalConstraint)) (ns ws : List NormalConstraint) (pairs : List (Option Pair)) (s : Option NormalConstraint) (c w : NormalConstraint) (o : Option Pair) → AreParted slots ns ws pairs → IsPartOf s c w o → AreParted (slots ++ s ∷ []) (ns ++ c ∷ []) (ws ++ w ∷ []) (pairs ++ o ∷ [])
parted_more slots ns ws pairs s c w o x part = record {
  count = omega (arith, x.count, length-append slots (s ∷ []), length-append ns (c ∷ []));
  watched_count = omega (arith, x.watched_count, length-append slots (s ∷ []), length-append ws (w ∷ []));
  pair_count = omega (arith, x.pair_count, length-append slots (s ∷ []), length-append pairs (o ∷ []));
  counts = λ k m e f. elim (place_cases slots s m k e) [
    | inl before ↦
        let it = x.counts k m before.1 (sym (get_or_append_left pairs (o ∷ []) None k (omega (arith, before.0, x.pair_count))) ∙ f) in
        (earlier_is ns c k (omega (arith, before.0, x.count)) ∙ it.0, earlier_is ws w k (omega (arith, before.0, x.watched_count)) ∙ it.1)
    | inr last ↦
        let it = part.counts m last.1 (sym (get_or_push pairs o None k (omega (arith, last.0, x.pair_count))) ∙ f) in
        (last_is ns c k (omega (arith, last.0, x.count)) ∙ it.0, last_is ws w k (omega (arith, last.0, x.watched_count)) ∙ it.1)
  ];
  watches = λ k m p e f. elim (place_cases slots s m k e) [
    | inl before ↦
        let it = x.watches k m p before.1 (sym (get_or_append_left pairs (o ∷ []) None k (omega (arith, before.0, x.pair_count))) ∙ f) in
        (earlier_is ns c k (omega (arith, before.0, x.count)) ∙ it.0, earlier_is ws w k (omega (arith, before.0, x.watched_count)) ∙ it.1)
    | inr last ↦
        let it = part.watches m p last.1 (sym (get_or_push pairs o None k (omega (arith, last.0, x.pair_count))) ∙ f) in
        (last_is ns c k (omega (arith, last.0, x.count)) ∙ it.0, last_is ws w k (omega (arith, last.0, x.watched_count)) ∙ it.1)
  ];
}

entries_more : (ns : List NormalConstraint) (n : NormalConstraint) (table after : List (List Occurrence)) (place : ℕ) → ((l : Lit) → entries_of table l ≡ occurrences_of l 0 ns) → place ≡ length ns → HasMore (entries_of table) after place n.terms → (l : Lit) → entries_of after l ≡ occurrences_of l 0 (ns ++ n ∷ [])
entries_more ns n table after place is e more l =
    more l ∙ ap (λ (os : List Occurrence). os ++ entry_of l place n.terms) (is l) ∙ ap (λ (k : ℕ). occurrences_of l 0 ns ++ entry_of l k n.terms) (omega (arith, e)) ∙ sym (occurrences_push l 0 ns n)

-- a table with the entries of one constraint more, and with none
index_more : (ns : List NormalConstraint) (variables place : ℕ) (table after : List (List Occurrence)) (n : NormalConstraint) → IsIndex ns variables table → place ≡ length ns → HasMore (entries_of table) after place n.terms → length after ≡ length table → IsIndex (ns ++ n ∷ []) variables after
index_more ns variables place table after n i e more long = record { size = omega (arith, long, i.size); entries = entries_more ns n table after place i.entries e more }

pub none_more : (table : List (List Occurrence)) (place : ℕ) → HasMore (entries_of table) table place []
none_more table place l = sym (append-nil (entries_of table l))

nothing_normal : IsNormal nothing
nothing_normal = record { rises = tt; fits = record { sum = omega arith; degree = omega arith } }

-- lists of the first constraints stand where one more comes
below_more : (ws : List NormalConstraint) (variables : ℕ) (lists : Listed) (w : NormalConstraint) → IsIndexBelow ws variables lists → IsIndexBelow (ws ++ w ∷ []) variables lists
below_more ws variables lists w b = record {
  low = omega (arith, b.low, length-append ws (w ∷ []));
  index = subst (λ (ns : List NormalConstraint). IsIndex ns variables lists.rows) (sym (take-append-le lists.count ws (w ∷ []) b.low)) b.index;
}

-- one place more
attached : (slots : List (Option NormalConstraint)) (assigned : List Lit) (variables : ℕ) (table after : List (List Occurrence)) (clauses : Listed) (counters limits new_counters new_limits : List ℕ) (pairs : List (Option Pair)) (s : Option NormalConstraint) (c w : NormalConstraint) (o : Option Pair) (place : ℕ)
    (i : IsLedger slots assigned variables table clauses counters limits pairs) → IsPartOf s c w o → place ≡ length pairs → IsNormal c → IsNormal w → variable_bound c.terms ≤ variables → variable_bound w.terms ≤ variables
    → HasMore (entries_of table) after place c.terms → length after ≡ length table
    → AreCounters (i.counted ++ c ∷ []) assigned new_counters → AreLimits (shown slots ++ constraint_in s ∷ []) (i.counted ++ c ∷ []) new_limits → length new_limits ≡ length new_counters
    → IsLedger (slots ++ s ∷ []) assigned variables after clauses new_counters new_limits (pairs ++ o ∷ [])
attached slots assigned variables table after clauses counters limits new_counters new_limits pairs s c w o place i part e normal_c normal_w within_c within_w more long counters_are limits_are limited =
    let x = i.slots_are in
    record {
      counted = i.counted ++ c ∷ [];
      watched = i.watched ++ w ∷ [];
      index = index_more i.counted variables place table after c i.index (omega (arith, e, x.count, x.pair_count)) more long;
      watched_index = below_more i.watched variables clauses w i.watched_index;
      counters_are = counters_are;
      known = record { normal = All-push IsNormal i.counted c i.known.normal normal_c; within = All-push (λ (m : NormalConstraint). variable_bound m.terms ≤ variables) i.counted c i.known.within within_c };
      watched_known = record { normal = All-push IsNormal i.watched w i.watched_known.normal normal_w; within = All-push (λ (m : NormalConstraint). variable_bound m.terms ≤ variables) i.watched w i.watched_known.within within_w };
      slots_are = parted_more slots i.counted i.watched pairs s c w o x part;
      limits_are = rw (shown_more slots s) limits_are;
      limited = limited;
    }

-- as many constraints are shown as stand at places, counted or not
as_many_shown : (slots : List (Option NormalConstraint)) (ns : List NormalConstraint) → length slots ≡ length ns → length (shown slots) ≡ length ns
as_many_shown slots ns e = length-map slots constraint_in ∙ e

pub attached_counted : (slots : List (Option NormalConstraint)) (assigned : List Lit) (variables : ℕ) (table after : List (List Occurrence)) (clauses : Listed) (counters limits : List ℕ) (pairs : List (Option Pair)) (n : NormalConstraint) (place opened limit : ℕ)
    → IsLedger slots assigned variables table clauses counters limits pairs → length counters ≡ length slots → place ≡ length pairs → IsNormal n → variable_bound n.terms ≤ variables
    → HasMore (entries_of table) after place n.terms → length after ≡ length table → opened ≡ open_sum assigned n → ((l : Lit) → n.degree + coefficient_of n l ≤ limit)
    → IsLedger (slots ++ Some n ∷ []) assigned variables after clauses (counters ++ opened ∷ []) (limits ++ limit ∷ []) (pairs ++ None ∷ [])
attached_counted slots assigned variables table after clauses counters limits pairs n place opened limit i all e normal within more long is enough =
    attached slots assigned variables table after clauses counters limits (counters ++ opened ∷ []) (limits ++ limit ∷ []) pairs (Some n) n nothing None place i (part_counted n) e normal nothing_normal within (omega arith) more long
    (counters_more i.counted assigned counters n opened i.counters_are (omega (arith, all, i.slots_are.count)) is)
    (limits_more (shown slots) i.counted limits n limit i.limits_are (as_many_shown slots i.counted i.slots_are.count) (omega (arith, i.limited, all, i.slots_are.count)) enough)
    (omega (arith, i.limited, length-append counters (opened ∷ []), length-append limits (limit ∷ [])))

pub attached_watched : (slots : List (Option NormalConstraint)) (assigned : List Lit) (variables : ℕ) (table : List (List Occurrence)) (clauses : Listed) (counters limits : List ℕ) (pairs : List (Option Pair)) (n : NormalConstraint) (p : Pair) (place : ℕ)
    → IsLedger slots assigned variables table clauses counters limits pairs → place ≡ length pairs → IsNormal n → variable_bound n.terms ≤ variables
    → IsLedger (slots ++ Some n ∷ []) assigned variables table clauses counters limits (pairs ++ Some p ∷ [])
attached_watched slots assigned variables table clauses counters limits pairs n p place i e normal within =
    attached slots assigned variables table table clauses counters limits counters limits pairs (Some n) nothing n (Some p) place i (part_watched n p) e nothing_normal normal (omega arith) within (none_more table place) refl
    (counters_beside i.counted assigned counters i.counters_are) (limits_beside (shown slots) i.counted limits n i.limits_are (as_many_shown slots i.counted i.slots_are.count)) i.limited

pub attached_empty : (slots : List (Option NormalConstraint)) (assigned : List Lit) (variables : ℕ) (table : List (List Occurrence)) (clauses : Listed) (counters limits : List ℕ) (pairs : List (Option Pair)) → IsLedger slots assigned variables table clauses counters limits pairs
    → IsLedger (slots ++ None ∷ []) assigned variables table clauses counters limits (pairs ++ None ∷ [])
attached_empty slots assigned variables table clauses counters limits pairs i =
    attached slots assigned variables table table clauses counters limits counters limits pairs None nothing nothing None (length pairs) i part_empty refl nothing_normal nothing_normal (omega arith) (omega arith) (none_more table (length pairs)) refl
    (counters_beside i.counted assigned counters i.counters_are) (limits_beside (shown slots) i.counted limits nothing i.limits_are (as_many_shown slots i.counted i.slots_are.count)) i.limited

-- more counters in memory, of places that are not counted
pub filled_up : (slots : List (Option NormalConstraint)) (assigned : List Lit) (variables : ℕ) (table : List (List Occurrence)) (clauses : Listed) (counters limits new_counters new_limits : List ℕ) (pairs : List (Option Pair)) → IsLedger slots assigned variables table clauses counters limits pairs
    → ((k : ℕ) → get_or new_counters k 0 ≡ get_or counters k 0) → ((k : ℕ) → get_or new_limits k 0 ≡ get_or limits k 0) → length new_limits ≡ length new_counters → length counters ≤ length new_counters → length new_counters ≤ length slots
    → IsLedger slots assigned variables table clauses new_counters new_limits pairs
filled_up slots assigned variables table clauses counters limits new_counters new_limits pairs i same_counters same_limits limited more few = record {
  counted = i.counted;
  watched = i.watched;
  index = i.index;
  watched_index = i.watched_index;
  counters_are = record {
    few = omega (arith, few, i.slots_are.count);
    beyond = λ k h. i.counters_are.beyond k (omega (arith, more, h));
    open_sums = λ k. same_counters k ∙ i.counters_are.open_sums k;
  };
  known = i.known;
  watched_known = i.watched_known;
  slots_are = i.slots_are;
  limits_are = λ k l is. omega (arith, same_limits k, i.limits_are k l is);
  limited = limited;
}

-- the reasons stand beside one place more
pub reasons_beside : (slots : List (Option NormalConstraint)) (s : Option NormalConstraint) (xs : List Lit) (rs : List (Option ℕ)) → AreReasons (shown slots) xs rs → AreReasons (shown (slots ++ s ∷ [])) xs rs
reasons_beside slots s xs rs a = rw (shown_more slots s) (reasons_moved (shown slots) (shown slots ++ constraint_in s ∷ []) xs rs a
    (λ k place low is below. (omega (arith, below, length-append (shown slots) (constraint_in s ∷ [])), earlier_is (shown slots) (constraint_in s) place below)))

-- what was put in for nothing
index_same : (ns : List NormalConstraint) (variables place : ℕ) (table after : List (List Occurrence)) → IsIndex ns variables table → HasMore (entries_of table) after place [] → length after ≡ length table → IsIndex ns variables after
index_same ns variables place table after i none long = record { size = omega (arith, long, i.size); entries = λ l. none l ∙ append-nil (entries_of table l) ∙ i.entries l }

pub unchanged : (slots : List (Option NormalConstraint)) (assigned : List Lit) (variables : ℕ) (table after : List (List Occurrence)) (clauses : Listed) (counters limits : List ℕ) (pairs : List (Option Pair)) (place : ℕ) → IsLedger slots assigned variables table clauses counters limits pairs
    → HasMore (entries_of table) after place [] → length after ≡ length table → IsLedger slots assigned variables after clauses counters limits pairs
unchanged slots assigned variables table after clauses counters limits pairs place i none long = record {
  counted = i.counted;
  watched = i.watched;
  index = index_same i.counted variables place table after i.index none long;
  watched_index = i.watched_index;
  counters_are = i.counters_are;
  known = i.known;
  watched_known = i.watched_known;
  slots_are = i.slots_are;
  limits_are = i.limits_are;
  limited = i.limited;
}

-- more room for literals and variables
index_wider : (ns : List NormalConstraint) (variables more : ℕ) (table after : List (List Occurrence)) → IsIndex ns variables table → 2 * more ≤ length after → ((k : ℕ) → get_or after k [] ≡ get_or table k []) → IsIndex ns more after
index_wider ns variables more table after i long same = record { size = long; entries = λ l. same _ ∙ i.entries l }

known_wider : (ns : List NormalConstraint) (variables more : ℕ) → AreKnown ns variables → variables ≤ more → AreKnown ns more
known_wider ns variables more a up = record { normal = a.normal; within = All-weaker (λ (m : NormalConstraint). variable_bound m.terms ≤ variables) (λ m. variable_bound m.terms ≤ more) (λ m h. omega (arith, h, up)) ns a.within }

below_wider : (ws : List NormalConstraint) (variables more : ℕ) (lists behind : Listed) → IsIndexBelow ws variables lists → behind.count ≡ lists.count → 2 * more ≤ length behind.rows → ((k : ℕ) → get_or behind.rows k [] ≡ get_or lists.rows k []) → IsIndexBelow ws more behind
below_wider ws variables more lists behind b same long kept = record {
  low = omega (arith, same, b.low);
  index = subst (λ (k : ℕ). IsIndex (take k ws) more behind.rows) (sym same) (index_wider (take lists.count ws) variables more lists.rows behind.rows b.index long kept);
}

pub widened : (slots : List (Option NormalConstraint)) (assigned : List Lit) (variables more : ℕ) (table after : List (List Occurrence)) (clauses behind : Listed) (counters limits : List ℕ) (pairs : List (Option Pair)) → IsLedger slots assigned variables table clauses counters limits pairs → variables ≤ more
    → 2 * more ≤ length after → ((k : ℕ) → get_or after k [] ≡ get_or table k []) → behind.count ≡ clauses.count → 2 * more ≤ length behind.rows → ((k : ℕ) → get_or behind.rows k [] ≡ get_or clauses.rows k [])
    → IsLedger slots assigned more after behind counters limits pairs
widened slots assigned variables more table after clauses behind counters limits pairs i up long same count_w long_w same_w = record {
  counted = i.counted;
  watched = i.watched;
  index = index_wider i.counted variables more table after i.index long same;
  watched_index = below_wider i.watched variables more clauses behind i.watched_index count_w long_w same_w;
  counters_are = i.counters_are;
  known = known_wider i.counted variables more i.known up;
  watched_known = known_wider i.watched variables more i.watched_known up;
  slots_are = i.slots_are;
  limits_are = i.limits_are;
  limited = i.limited;
}

-- the last one fewer
taken : (ns : List NormalConstraint) (n : NormalConstraint) (k : ℕ) → k + 1 ≡ length ns → constraint_at ns k ≡ n → ns ≡ take k ns ++ n ∷ []
taken ns n k e is = sym (take-length ns) ∙ ap (λ (j : ℕ). take j ns) (sym e) ∙ take_more ns k nothing (omega (arith, e)) ∙ ap (λ (m : NormalConstraint). take k ns ++ m ∷ []) is

-- what a table had before the last one
index_before : (ns : List NormalConstraint) (variables m : ℕ) (table : List (List Occurrence)) (n : NormalConstraint) → IsIndex ns variables table → m + 1 ≡ length ns → constraint_at ns m ≡ n → HasMore (λ l. occurrences_of l 0 (take m ns)) table m n.terms
index_before ns variables m table n i many is l =
    let last : ns ≡ take m ns ++ n ∷ [] = taken ns n m many is in
    let short : length (take m ns) ≡ m = length-take-le m ns (omega (arith, many)) in
    i.entries l ∙ ap (occurrences_of l 0) last ∙ occurrences_push l 0 (take m ns) n ∙ ap (λ (k : ℕ). occurrences_of l 0 (take m ns) ++ entry_of l k n.terms) (omega (arith, short))

slot_last : (slots rest : List (Option NormalConstraint)) (n : NormalConstraint) → slots ≡ rest ++ Some n ∷ [] → get_or slots (length rest) None ≡ Some n
slot_last slots rest n e = ap (λ (os : List (Option NormalConstraint)). get_or os (length rest) None) e ∙ get_or_push rest (Some n) None (length rest) refl

slot_count : (slots rest : List (Option NormalConstraint)) (n : NormalConstraint) → slots ≡ rest ++ Some n ∷ [] → length slots ≡ length rest + 1
slot_count slots rest n e = ap (length {A = Option NormalConstraint}) e ∙ length-append rest (Some n ∷ [])

-- what the table had before the last constraint, which is counted or watched
pub counted_before : (slots rest : List (Option NormalConstraint)) (assigned : List Lit) (variables : ℕ) (table : List (List Occurrence)) (clauses : Listed) (counters limits : List ℕ) (pairs : List (Option Pair)) (n : NormalConstraint) (i : IsLedger slots assigned variables table clauses counters limits pairs) → slots ≡ rest ++ Some n ∷ []
    → get_or pairs (length rest) None ≡ None → HasMore (λ l. occurrences_of l 0 (take (length rest) i.counted)) table (length rest) n.terms
counted_before slots rest assigned variables table clauses counters limits pairs n i e o =
    index_before i.counted variables (length rest) table n i.index (omega (arith, slot_count slots rest n e, i.slots_are.count)) (i.slots_are.counts (length rest) n (slot_last slots rest n e) o).0

pub watched_before : (slots rest : List (Option NormalConstraint)) (assigned : List Lit) (variables : ℕ) (table : List (List Occurrence)) (clauses : Listed) (counters limits : List ℕ) (pairs : List (Option Pair)) (n : NormalConstraint) (p : Pair) (i : IsLedger slots assigned variables table clauses counters limits pairs) → slots ≡ rest ++ Some n ∷ []
    → get_or pairs (length rest) None ≡ Some p → HasMore (λ l. occurrences_of l 0 (take (length rest) i.counted)) table (length rest) []
watched_before slots rest assigned variables table clauses counters limits pairs n p i e o =
    index_before i.counted variables (length rest) table nothing i.index (omega (arith, slot_count slots rest n e, i.slots_are.count)) (i.slots_are.watches (length rest) n p (slot_last slots rest n e) o).0

index_fewer : (ns : List NormalConstraint) (variables m : ℕ) (table after : List (List Occurrence)) → IsIndex ns variables table → length after ≡ length table → HasMore (λ l. occurrences_of l 0 (take m ns)) after m [] → IsIndex (take m ns) variables after
index_fewer ns variables m table after i long none = record { size = omega (arith, long, i.size); entries = λ l. none l ∙ append-nil (occurrences_of l 0 (take m ns)) }

-- the lists without the last constraint, which a list that reaches so far has lost
pub below_fewer : (ws : List NormalConstraint) (variables m : ℕ) (lists behind : Listed) (terms : List NormalTerm) → IsIndexBelow ws variables lists → length ws ≡ m + 1 → (constraint_at ws m).terms ≡ terms → length behind.rows ≡ length lists.rows
    → (lists.count ≤ m → (behind.count ≡ lists.count) × (behind.rows ≡ lists.rows)) → (m < lists.count → behind.count ≡ m) → (m < lists.count → (base : Lit → List Occurrence) → HasMore base lists.rows m terms → HasMore base behind.rows m []) → IsIndexBelow (take m ws) variables behind
below_fewer ws variables m lists behind terms b many is long waits count left = elim (cases_lt m lists.count) [
  | inl reaches ↦
      let all : lists.count ≡ m + 1 = omega (arith, reaches, b.low, many) in
      let whole : take lists.count ws ≡ ws = ap (λ (k : ℕ). take k ws) (omega (arith, all, many)) ∙ take-length ws in
      let full : IsIndex ws variables lists.rows = subst (λ (ns : List NormalConstraint). IsIndex ns variables lists.rows) whole b.index in
      let before : HasMore (λ l. occurrences_of l 0 (take m ws)) lists.rows m terms = subst (λ (ts : List NormalTerm). HasMore (λ l. occurrences_of l 0 (take m ws)) lists.rows m ts) is (index_before ws variables m lists.rows (constraint_at ws m) full (sym many) refl) in
      let short : length (take m ws) ≡ m = length-take-le m ws (omega (arith, many)) in
      record {
        low = omega (arith, count reaches, short);
        index = subst (λ (ns : List NormalConstraint). IsIndex ns variables behind.rows) (sym (ap (λ (k : ℕ). take k (take m ws)) (count reaches ∙ sym short) ∙ take-length (take m ws)))
            (index_fewer ws variables m lists.rows behind.rows full long (left reaches (λ l. occurrences_of l 0 (take m ws)) before));
      }
  | inr waiting ↦
      let short : length (take m ws) ≡ m = length-take-le m ws (omega (arith, many)) in
      record {
        low = omega (arith, (waits waiting).0, waiting, short);
        index = subst (λ (table : List (List Occurrence)). IsIndex (take behind.count (take m ws)) variables table) (sym (waits waiting).1)
            (subst (λ (ns : List NormalConstraint). IsIndex ns variables lists.rows) (sym (ap (λ (k : ℕ). take k (take m ws)) (waits waiting).0 ∙ take-take lists.count m ws waiting)) b.index);
      }
]

pub counted_left : (slots rest : List (Option NormalConstraint)) (assigned : List Lit) (variables : ℕ) (table : List (List Occurrence)) (clauses behind : Listed) (counters limits : List ℕ) (pairs : List (Option Pair)) (n : NormalConstraint) (i : IsLedger slots assigned variables table clauses counters limits pairs) → slots ≡ rest ++ Some n ∷ []
    → get_or pairs (length rest) None ≡ None → behind ≡ record clauses { count = min clauses.count (length rest) } → IsIndexBelow (take (length rest) i.watched) variables behind
counted_left slots rest assigned variables table clauses behind counters limits pairs n i e o is =
    let none : (constraint_at i.watched (length rest)).terms ≡ [] = ap (λ (c : NormalConstraint). c.terms) (i.slots_are.counts (length rest) n (slot_last slots rest n e) o).1 in
    rw is (below_fewer i.watched variables (length rest) clauses (record clauses { count = min clauses.count (length rest) }) [] i.watched_index (omega (arith, slot_count slots rest n e, i.slots_are.watched_count)) none refl
    (λ h. (omega (arith, h), refl)) (λ h. omega (arith, h)) (λ h base more. more))

pub watched_left : (slots rest : List (Option NormalConstraint)) (assigned : List Lit) (variables : ℕ) (table : List (List Occurrence)) (clauses behind : Listed) (counters limits : List ℕ) (pairs : List (Option Pair)) (n : NormalConstraint) (p : Pair) (place : ℕ) (i : IsLedger slots assigned variables table clauses counters limits pairs) → slots ≡ rest ++ Some n ∷ []
    → get_or pairs (length rest) None ≡ Some p → place ≡ length rest → length behind.rows ≡ length clauses.rows → (clauses.count ≤ place → behind ≡ clauses) → (place < clauses.count → behind.count ≡ place)
    → (place < clauses.count → (base : Lit → List Occurrence) → HasMore base clauses.rows place n.terms → HasMore base behind.rows place []) → IsIndexBelow (take (length rest) i.watched) variables behind
watched_left slots rest assigned variables table clauses behind counters limits pairs n p place i e o last long waits count left =
    let is : (constraint_at i.watched place).terms ≡ n.terms = ap (λ (k : ℕ). (constraint_at i.watched k).terms) last ∙ ap (λ (c : NormalConstraint). c.terms) (i.slots_are.watches (length rest) n p (slot_last slots rest n e) o).1 in
    subst (λ (k : ℕ). IsIndexBelow (take k i.watched) variables behind) last
    (below_fewer i.watched variables place clauses behind n.terms i.watched_index (omega (arith, last, slot_count slots rest n e, i.slots_are.watched_count)) is long
    (λ h. (ap (λ (l : Listed). l.count) (waits h), ap (λ (l : Listed). l.rows) (waits h))) count left)

pub last_known : (slots rest : List (Option NormalConstraint)) (assigned : List Lit) (variables : ℕ) (table : List (List Occurrence)) (clauses : Listed) (counters limits : List ℕ) (pairs : List (Option Pair)) (n : NormalConstraint) → IsLedger slots assigned variables table clauses counters limits pairs → slots ≡ rest ++ Some n ∷ []
    → (2 * variable_bound n.terms ≤ length table) × (2 * variable_bound n.terms ≤ length clauses.rows)
last_known slots rest assigned variables table clauses counters limits pairs n i e =
    let below = variables_there slots assigned variables table clauses counters limits pairs (length rest) n i (omega (arith, slot_count slots rest n e)) (slot_last slots rest n e) in
    (omega (arith, below, i.index.size), omega (arith, below, i.watched_index.index.size))

fewer_shown : (slots rest : List (Option NormalConstraint)) (n : NormalConstraint) → slots ≡ rest ++ Some n ∷ [] → shown slots ≡ shown rest ++ n ∷ []
fewer_shown slots rest n e = ap shown e ∙ shown_more rest (Some n)

known_fewer : (ns : List NormalConstraint) (variables m : ℕ) → AreKnown ns variables → AreKnown (take m ns) variables
known_fewer ns variables m a = record { normal = All-take IsNormal m ns a.normal; within = All-take (λ (c : NormalConstraint). variable_bound c.terms ≤ variables) m ns a.within }

parted_fewer : (slots rest : List (Option NormalConstraint)) (ns ws : List NormalConstraint) (pairs : List (Option Pair)) (n : NormalConstraint) → slots ≡ rest ++ Some n ∷ [] → AreParted slots ns ws pairs
    → AreParted rest (take (length rest) ns) (take (length rest) ws) (take (length pairs - 1) pairs)
parted_fewer slots rest ns ws pairs n e x =
    let m : ℕ = length rest in
    let count = slot_count slots rest n e in
    let short : length (take m ns) ≡ m = length-take-le m ns (omega (arith, count, x.count)) in
    let short_w : length (take m ws) ≡ m = length-take-le m ws (omega (arith, count, x.watched_count)) in
    let short_p : length (take (length pairs - 1) pairs) ≡ length pairs - 1 = length-take-le (length pairs - 1) pairs (omega arith) in
    let was : (k : ℕ) (c : NormalConstraint) → k < m → get_or rest k None ≡ Some c → get_or slots k None ≡ Some c = λ k c low is. ap (λ (os : List (Option NormalConstraint)). get_or os k None) e ∙ get_or_append_left rest (Some n ∷ []) None k low ∙ is in
    let pair : (k : ℕ) (o : Option Pair) → k < m → get_or (take (length pairs - 1) pairs) k None ≡ o → get_or pairs k None ≡ o = λ k o low is. sym (get_or-take (length pairs - 1) pairs k None (omega (arith, low, count, x.pair_count))) ∙ is in
    record {
      count = sym short;
      watched_count = sym short_w;
      pair_count = omega (arith, short_p, count, x.pair_count);
      counts = λ k c is o. elim (cases_lt k m) [
        | inl low ↦ let it = x.counts k c (was k c low is) (pair k None low o) in (get_or-take m ns k nothing low ∙ it.0, get_or-take m ws k nothing low ∙ it.1)
        | inr high ↦ absurd (none_is_not_some c (sym (get_or_past rest k None high) ∙ is))
      ];
      watches = λ k c p is o. elim (cases_lt k m) [
        | inl low ↦ let it = x.watches k c p (was k c low is) (pair k (Some p) low o) in (get_or-take m ns k nothing low ∙ it.0, get_or-take m ws k nothing low ∙ it.1)
        | inr high ↦ absurd (none_is_not_some c (sym (get_or_past rest k None high) ∙ is))
      ];
    }

-- the counters of the first places
counters_fewer : (ns : List NormalConstraint) (assigned : List Lit) (counters : List ℕ) (m : ℕ) → AreCounters ns assigned counters → AreCounters (take m ns) assigned (take m counters)
counters_fewer ns assigned counters m a = record {
  few = omega (arith, a.few, length-take m ns, length-take m counters);
  beyond = λ k h. elim (cases_lt k m) [
    | inl low ↦ get_or-take m ns k nothing low ∙ a.beyond k (omega (arith, h, low, length-take m counters))
    | inr high ↦ get_or_past (take m ns) k nothing (omega (arith, high, length-take m ns))
  ];
  open_sums = λ k. elim (cases_lt k m) [
    | inl low ↦ get_or-take m counters k 0 low ∙ a.open_sums k ∙ ap (open_sum assigned) (sym (get_or-take m ns k nothing low))
    | inr high ↦ get_or_past (take m counters) k 0 (omega (arith, high, length-take m counters)) ∙ ap (open_sum assigned) (sym (get_or_past (take m ns) k nothing (omega (arith, high, length-take m ns))))
  ];
}

pub detached : (slots rest : List (Option NormalConstraint)) (assigned : List Lit) (variables : ℕ) (table after : List (List Occurrence)) (clauses behind : Listed) (counters limits : List ℕ) (pairs : List (Option Pair)) (n : NormalConstraint) (i : IsLedger slots assigned variables table clauses counters limits pairs) → slots ≡ rest ++ Some n ∷ []
    → length after ≡ length table → HasMore (λ l. occurrences_of l 0 (take (length rest) i.counted)) after (length rest) []
    → IsIndexBelow (take (length rest) i.watched) variables behind
    → IsLedger rest assigned variables after behind (take (length rest) counters) (take (length rest) limits) (take (length pairs - 1) pairs)
detached slots rest assigned variables table after clauses behind counters limits pairs n i e long none fewer =
    let m : ℕ = length rest in
    let ns : List NormalConstraint = i.counted in
    let count : length slots ≡ m + 1 = slot_count slots rest n e in
    let all : length ns ≡ m + 1 = omega (arith, count, i.slots_are.count) in
    let many : length (take m ns) ≡ m = length-take-le m ns (omega (arith, all)) in
    let shows : shown slots ≡ shown rest ++ n ∷ [] = fewer_shown slots rest n e in
    let same : (k : ℕ) → k < m → constraint_at (shown slots) k ≡ constraint_at (shown rest) k = λ k low. ap (λ (cs : List NormalConstraint). constraint_at cs k) shows ∙ earlier_is (shown rest) n k (omega (arith, low, length-map rest constraint_in)) in
    record {
      counted = take m ns;
      watched = take m i.watched;
      index = index_fewer ns variables m table after i.index long none;
      watched_index = fewer;
      counters_are = counters_fewer ns assigned counters m i.counters_are;
      known = known_fewer ns variables m i.known;
      watched_known = known_fewer i.watched variables m i.watched_known;
      slots_are = parted_fewer slots rest ns i.watched pairs n e i.slots_are;
      limits_are = λ k l is. elim (cases_lt k m) [
        | inl low ↦ omega (arith, get_or-take m limits k 0 low, i.limits_are k l (same k low ∙ is ∙ get_or-take m ns k nothing low), ap (λ (c : NormalConstraint). c.degree + coefficient_of c l) (same k low))
        | inr high ↦ omega (arith, ap (λ (c : NormalConstraint). c.degree + coefficient_of c l) (get_or_past (shown rest) k nothing (omega (arith, high, length-map rest constraint_in))))
      ];
      limited = length-take m limits ∙ ap (λ (k : ℕ). min m k) i.limited ∙ sym (length-take m counters);
    }

none_is_no_pair : (p : Pair) → None ≡ Some p → ⊥
none_is_no_pair p e = cc

-- the next place is listed: a clause that is watched with its entries, any other as nothing
emptied : (slots : List (Option NormalConstraint)) (ns ws : List NormalConstraint) (pairs : List (Option Pair)) (place : ℕ) → (get_or slots place None ≡ None) ⊎ (get_or pairs place None ≡ None) → place < length ws → AreParted slots ns ws pairs → AreParted slots ns (set ws place nothing) pairs
emptied slots ns ws pairs place none low x = record {
  count = x.count;
  watched_count = x.watched_count ∙ sym (length-set ws place nothing);
  pair_count = x.pair_count;
  counts = λ k n e f. elim (cases_eq k place) [
    | inl here ↦ ((x.counts k n e f).0, ap (λ (j : ℕ). constraint_at (set ws place nothing) j) here ∙ get_or-set_same ws place nothing nothing low)
    | inr other ↦ ((x.counts k n e f).0, get_or-set_other ws place k nothing nothing other ∙ (x.counts k n e f).1)
  ];
  watches = λ k n p e f. elim (cases_eq k place) [
    | inl here ↦ elim none [
      | inl gone ↦ absurd (none_is_not_some n (sym gone ∙ ap (λ (j : ℕ). get_or slots j None) (sym here) ∙ e))
      | inr unpaired ↦ absurd (none_is_no_pair p (sym unpaired ∙ ap (λ (j : ℕ). get_or pairs j None) (sym here) ∙ f))
    ]
    | inr other ↦ ((x.watches k n p e f).0, get_or-set_other ws place k nothing nothing other ∙ (x.watches k n p e f).1)
  ];
}

below_on : (ws : List NormalConstraint) (variables : ℕ) (lists after : Listed) (w : NormalConstraint) → IsIndexBelow ws variables lists → lists.count < length ws → constraint_at ws lists.count ≡ w → after.count ≡ lists.count + 1 → length after.rows ≡ length lists.rows
    → HasMore (entries_of lists.rows) after.rows lists.count w.terms → IsIndexBelow ws variables after
below_on ws variables lists after w b low is next long more =
    let short : length (take lists.count ws) ≡ lists.count = length-take-le lists.count ws (omega (arith, low)) in
    let taken : take after.count ws ≡ take lists.count ws ++ w ∷ [] = ap (λ (k : ℕ). take k ws) next ∙ take_more ws lists.count nothing low ∙ ap (λ (m : NormalConstraint). take lists.count ws ++ m ∷ []) is in
    record {
      low = omega (arith, next, low);
      index = subst (λ (ns : List NormalConstraint). IsIndex ns variables after.rows) (sym taken) (index_more (take lists.count ws) variables lists.count lists.rows after.rows w b.index (sym short) more long);
    }

pub listed_on : (slots : List (Option NormalConstraint)) (assigned : List Lit) (variables : ℕ) (table : List (List Occurrence)) (clauses after : Listed) (counters limits : List ℕ) (pairs : List (Option Pair)) (n : NormalConstraint) (p : Pair) → IsLedger slots assigned variables table clauses counters limits pairs
    → get_or slots clauses.count None ≡ Some n → get_or pairs clauses.count None ≡ Some p → clauses.count < length slots → after.count ≡ clauses.count + 1 → length after.rows ≡ length clauses.rows → HasMore (entries_of clauses.rows) after.rows clauses.count n.terms
    → IsLedger slots assigned variables table after counters limits pairs
listed_on slots assigned variables table clauses after counters limits pairs n p i there paired low next long more = record {
  counted = i.counted;
  watched = i.watched;
  index = i.index;
  watched_index = below_on i.watched variables clauses after n i.watched_index (omega (arith, low, i.slots_are.watched_count)) (i.slots_are.watches clauses.count n p there paired).1 next long more;
  counters_are = i.counters_are;
  known = i.known;
  watched_known = i.watched_known;
  slots_are = i.slots_are;
  limits_are = i.limits_are;
  limited = i.limited;
}

-- nothing was listed, where memory ended
pub listed_kept : (slots : List (Option NormalConstraint)) (assigned : List Lit) (variables : ℕ) (table : List (List Occurrence)) (clauses after : Listed) (counters limits : List ℕ) (pairs : List (Option Pair)) → IsLedger slots assigned variables table clauses counters limits pairs
    → after.count ≡ clauses.count → length after.rows ≡ length clauses.rows → HasMore (entries_of clauses.rows) after.rows clauses.count [] → IsLedger slots assigned variables table after counters limits pairs
listed_kept slots assigned variables table clauses after counters limits pairs i same long none = record {
  counted = i.counted;
  watched = i.watched;
  index = i.index;
  watched_index = record {
    low = omega (arith, same, i.watched_index.low);
    index = subst (λ (k : ℕ). IsIndex (take k i.watched) variables after.rows) (sym same) (index_same (take clauses.count i.watched) variables clauses.count clauses.rows after.rows i.watched_index.index none long);
  };
  counters_are = i.counters_are;
  known = i.known;
  watched_known = i.watched_known;
  slots_are = i.slots_are;
  limits_are = i.limits_are;
  limited = i.limited;
}

known_emptied : (ws : List NormalConstraint) (variables place : ℕ) → AreKnown ws variables → AreKnown (set ws place nothing) variables
known_emptied ws variables place a = record {
  normal = All-set IsNormal ws place nothing nothing_normal a.normal;
  within = All-set (λ (m : NormalConstraint). variable_bound m.terms ≤ variables) ws place nothing (omega arith) a.within;
}

pub passed_over : (slots : List (Option NormalConstraint)) (assigned : List Lit) (variables : ℕ) (table : List (List Occurrence)) (clauses after : Listed) (counters limits : List ℕ) (pairs : List (Option Pair)) → IsLedger slots assigned variables table clauses counters limits pairs
    → (get_or slots clauses.count None ≡ None) ⊎ (get_or pairs clauses.count None ≡ None) → clauses.count < length slots → after ≡ record clauses { count = clauses.count + 1 } → IsLedger slots assigned variables table after counters limits pairs
passed_over slots assigned variables table clauses after counters limits pairs i none low is =
    let inside : clauses.count < length i.watched = omega (arith, low, i.slots_are.watched_count) in
    let same : take clauses.count (set i.watched clauses.count nothing) ≡ take clauses.count i.watched = take-set-le clauses.count i.watched clauses.count nothing (omega arith) in
    let before : IsIndexBelow (set i.watched clauses.count nothing) variables clauses = record {
      low = omega (arith, i.watched_index.low, length-set i.watched clauses.count nothing);
      index = subst (λ (ns : List NormalConstraint). IsIndex ns variables clauses.rows) (sym same) i.watched_index.index;
    } in
    rw is (record {
      counted = i.counted;
      watched = set i.watched clauses.count nothing;
      index = i.index;
      watched_index = below_on (set i.watched clauses.count nothing) variables clauses (record clauses { count = clauses.count + 1 }) nothing before (omega (arith, inside, length-set i.watched clauses.count nothing)) (get_or-set_same i.watched clauses.count nothing nothing inside) refl refl (none_more clauses.rows clauses.count);
      counters_are = i.counters_are;
      known = i.known;
      watched_known = known_emptied i.watched variables clauses.count i.watched_known;
      slots_are = emptied slots i.counted i.watched pairs clauses.count none inside i.slots_are;
      limits_are = i.limits_are;
      limited = i.limited;
    })

-- the reasons stand without the last constraint, where it is none of them
pub reasons_without : (slots rest : List (Option NormalConstraint)) (n : NormalConstraint) (xs : List Lit) (rs : List (Option ℕ)) → slots ≡ rest ++ Some n ∷ [] → AreReasons (shown slots) xs rs
    → ((k place : ℕ) → k < length xs → get_or rs k None ≡ Some place → place + 1 < length slots) → AreReasons (shown rest) xs rs
reasons_without slots rest n xs rs e a h = reasons_moved (shown slots) (shown rest) xs rs a (λ k place low is below.
    let under : place < length (shown rest) = omega (arith, h k place low is, ap (length {A = Option NormalConstraint}) e, length-append rest (Some n ∷ []), length-map rest constraint_in) in (
      under,
      sym (ap (λ (cs : List NormalConstraint). constraint_at cs place) (fewer_shown slots rest n e) ∙ earlier_is (shown rest) n place under),
    ))

-- one constraint is taken out of its place
none_there : (slots : List (Option NormalConstraint)) (place k : ℕ) → place < length slots → k ≡ place → get_or (set slots place None) k None ≡ None
none_there slots place k low e = ap (λ (j : ℕ). get_or (set slots place None) j None) e ∙ get_or-set_same slots place None None low

same_there : (slots : List (Option NormalConstraint)) (place k : ℕ) → (k ≡ place → ⊥) → constraint_at (shown (set slots place None)) k ≡ constraint_at (shown slots) k
same_there slots place k other = shown_at (set slots place None) k ∙ ap constraint_in (get_or-set_other slots place k None None other) ∙ sym (shown_at slots k)

parted_without : (slots : List (Option NormalConstraint)) (place : ℕ) (ns ws : List NormalConstraint) (pairs : List (Option Pair)) → place < length slots → AreParted slots ns ws pairs → AreParted (set slots place None) ns ws (set pairs place None)
parted_without slots place ns ws pairs low x = record {
  count = length-set slots place None ∙ x.count;
  watched_count = length-set slots place None ∙ x.watched_count;
  pair_count = length-set slots place None ∙ x.pair_count ∙ sym (length-set pairs place None);
  counts = λ k n e o. elim (cases_eq k place) [
    | inl here ↦ absurd (none_is_not_some n (sym (none_there slots place k low here) ∙ e))
    | inr other ↦ x.counts k n (sym (get_or-set_other slots place k None None other) ∙ e) (sym (get_or-set_other pairs place k None None other) ∙ o)
  ];
  watches = λ k n p e o. elim (cases_eq k place) [
    | inl here ↦ absurd (none_is_not_some n (sym (none_there slots place k low here) ∙ e))
    | inr other ↦ x.watches k n p (sym (get_or-set_other slots place k None None other) ∙ e) (sym (get_or-set_other pairs place k None None other) ∙ o)
  ];
}

pub taken_out : (slots : List (Option NormalConstraint)) (place : ℕ) (assigned : List Lit) (variables : ℕ) (table : List (List Occurrence)) (clauses : Listed) (counters limits : List ℕ) (pairs : List (Option Pair)) → IsLedger slots assigned variables table clauses counters limits pairs → place < length slots
    → IsLedger (set slots place None) assigned variables table clauses counters (set limits place 0) (set pairs place None)
taken_out slots place assigned variables table clauses counters limits pairs i low =
    record {
      counted = i.counted;
      watched = i.watched;
      index = i.index;
      watched_index = i.watched_index;
      counters_are = i.counters_are;
      known = i.known;
      watched_known = i.watched_known;
      slots_are = parted_without slots place i.counted i.watched pairs low i.slots_are;
      limits_are = λ k l is. elim (cases_eq k place) [
        | inl here ↦
            let says : constraint_at (shown (set slots place None)) k ≡ nothing = shown_at (set slots place None) k ∙ ap constraint_in (none_there slots place k low here) in
            omega (arith, ap (λ (n : NormalConstraint). n.degree + coefficient_of n l) says)
        | inr other ↦
            omega (arith, get_or-set_other limits place k 0 0 other, i.limits_are k l (sym (same_there slots place k other) ∙ is), ap (λ (n : NormalConstraint). n.degree + coefficient_of n l) (same_there slots place k other))
      ];
      limited = length-set limits place 0 ∙ i.limited;
    }

pub reasons_apart : (slots : List (Option NormalConstraint)) (place : ℕ) (xs : List Lit) (rs : List (Option ℕ)) → AreReasons (shown slots) xs rs → ((k : ℕ) → k < length xs → get_or rs k None ≡ Some place → ⊥)
    → AreReasons (shown (set slots place None)) xs rs
reasons_apart slots place xs rs a free = reasons_moved (shown slots) (shown (set slots place None)) xs rs a (λ k p low is below. (
  omega (arith, below, length-map slots constraint_in, length-map (set slots place None) constraint_in, length-set slots place None),
  same_there slots place p (λ e. free k low (is ∙ ap (λ (j : ℕ). Some j) e)),
))

-- the same ledger, with the same pairs
pub with_pairs : (slots : List (Option NormalConstraint)) (assigned : List Lit) (variables : ℕ) (table : List (List Occurrence)) (clauses : Listed) (counters limits : List ℕ) (pairs new : List (Option Pair)) → IsLedger slots assigned variables table clauses counters limits pairs → new ≡ pairs → IsLedger slots assigned variables table clauses counters limits new
with_pairs slots assigned variables table clauses counters limits pairs new i e = subst (λ (ps : List (Option Pair)). IsLedger slots assigned variables table clauses counters limits ps) (sym e) i
