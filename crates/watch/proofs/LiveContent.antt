-- The constraints by their ids are those at their places, but for places that say nothing.
use Rattle.std.proofs.Common.{◌≡◌, ℕ, suc, ◌<◌, ◌⊎◌, inl, inr, Bool, true, false, cond, Contains, Option, None, Some, MatchOption, List, [], ◌∷◌, length, get_or, refl, ap, sym, ◌∙◌, arith}
use Rattle.std.proofs.lemmas.List.{get_or_default, length-map}
use Rattle.std.specs.FinMap as fin
use Rattle.std.specs.Ordering.{nat_cmp, eq_by_cmp}
use Rattle.normal_form.specs.Normal.{NormalConstraint}
use Rattle.propagate.specs.Content.{Content, IsLeastAbove}
use Rattle.propagate.proofs.Entries.{Entries, found_at, ids_of, values_of}
use Rattle.ledger.specs.Ledgers.{constraint_at, constraint_in, nothing, shown}
use Rattle.places.specs.Places.{IsNextPlaced, place_of}
use Rattle.watch.specs.Named.{AreNamed, content_at}
use Rattle.watch.proofs.LiveOnes.{AddsNothing}
use Rattle.watch.proofs.NamedPlaces.{below, got, got_none, shows}
use Rattle.ledger.proofs.Standing.{shown_at}

abbrev Slots : Type 0
Slots = List (Option NormalConstraint)

abbrev Places : Type 0
Places = List (ℕ × ℕ)

here_or_later : (ns : List NormalConstraint) (x n : NormalConstraint) (b : Bool) (rest : Option NormalConstraint) → (rest ≡ Some n → Contains ns n) → cond b (Some x) rest ≡ Some n → Contains (x ∷ ns) n
here_or_later ns x n true rest later is = let same : x ≡ n = cc in (0, omega arith, same)
here_or_later ns x n false rest later is = let it = later is in (suc it.0, omega (arith, it.1), it.2)

found_in : (es : Entries) (q : ℕ) (n : NormalConstraint) → fin.find nat_cmp q es ≡ Some n → Contains (values_of es) n
found_in [] q n is = absurd (cc)
found_in (e ∷ es) q n is = here_or_later (values_of es) e.1 n (eq_by_cmp nat_cmp q e.0) (fin.find nat_cmp q es) (found_in es q n) is

-- the constraint of an id is among all
value_of : (m : Content) (q : ℕ) (n : NormalConstraint) → fin.get m q ≡ Some n → Contains (fin.values m) n
value_of m q n is = found_in (fin.entries m) q n (sym (fin.get-entries m q) ∙ is)

-- each of them has an id
id_of : (m : Content) (n : NormalConstraint) → Contains (fin.values m) n → (q : ℕ) × (fin.get m q ≡ Some n)
id_of m n c =
    let q = get_or (ids_of (fin.entries m)) c.0 0 in
    (q, fin.get-entries m q ∙ found_at (fin.entries m) c.0 0 n (fin.entries_sorted m) c.1 c.2)

in_slots : (slots : Slots) (es : Places) (ids : List ℕ) (q : ℕ) (n : NormalConstraint) (o : Option ℕ) → AreNamed es ids slots → place_of es q ≡ o → fin.get (content_at slots es) q ≡ Some n → Contains (shown slots) n
in_slots slots es ids q n None a e is =
    let none = got_none slots es q e in
    absurd (cc)
in_slots slots es ids q n (Some k) a e is =
    let there : get_or slots k None ≡ Some n = got slots es ids q k a e ∙ is in
    let low : k < length (shown slots) = omega (arith, below slots k n there, length-map slots constraint_in) in
    (k, low, get_or_default (shown slots) k n nothing low ∙ shows slots k n there)

at_slot : (slots : Slots) (es : Places) (ids : List ℕ) (k : ℕ) (n : NormalConstraint) (o : Option NormalConstraint) → AreNamed es ids slots → get_or slots k None ≡ o → constraint_at (shown slots) k ≡ n → (n ≡ nothing) ⊎ Contains (fin.values (content_at slots es)) n
at_slot slots es ids k n None a e is = inl (sym is ∙ shown_at slots k ∙ ap constraint_in e)
at_slot slots es ids k n (Some m) a e is =
    let id = get_or ids k 0 in
    let same : m ≡ n = sym (shows slots k m e) ∙ is in
    inr (value_of (content_at slots es) id n (sym (got slots es ids id k a (a.named k m e)) ∙ e ∙ ap (λ (x : NormalConstraint). Some x) same))

pub live_content : (slots : Slots) (es : Places) (ids : List ℕ) → AreNamed es ids slots → AddsNothing (shown slots) (fin.values (content_at slots es))
live_content slots es ids a = record {
  has = λ n c. let it = id_of (content_at slots es) n c in in_slots slots es ids it.0 n (place_of es it.0) a refl it.1;
  rest = λ n c. at_slot slots es ids c.0 n (get_or slots c.0 None) a refl (get_or_default (shown slots) c.0 nothing n c.1 ∙ c.2);
}

-- the least id above another that has a place is the least one that has a constraint
first_above : (slots : Slots) (es : Places) (ids : List ℕ) (id next : ℕ) → AreNamed es ids slots → IsNextPlaced es id next → IsLeastAbove (content_at slots es) id (Some next)
first_above slots es ids id next a h =
    let k = h.1.0 in
    let it = a.live next k h.1.1 in
    (h.0, (it.0, sym (got slots es ids next k a h.1.1) ∙ it.1), λ q above below. got_none slots es q (h.2 q above below))

nothing_above : (slots : Slots) (es : Places) (id : ℕ) → ((k : ℕ) → id < k → place_of es k ≡ None) → IsLeastAbove (content_at slots es) id None
nothing_above slots es id h k above = got_none slots es k (h k above)

pub least_placed : (slots : Slots) (es : Places) (ids : List ℕ) (id : ℕ) (o : Option ℕ) → AreNamed es ids slots → MatchOption o ((k : ℕ) → id < k → place_of es k ≡ None) (IsNextPlaced es id) → IsLeastAbove (content_at slots es) id o
least_placed slots es ids id None a h = nothing_above slots es id h
least_placed slots es ids id (Some next) a h = first_above slots es ids id next a h
