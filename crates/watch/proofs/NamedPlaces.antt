-- Ids and places, with a constraint more and with one fewer.
use Rattle.std.proofs.Common.{◌≡◌, ℕ, ◌<◌, inl, inr, Bool, true, false, cond, Option, None, Some, List, [], ◌∷◌, ◌++◌, length, get_or, map, set, refl, ap, sym, ◌∙◌, length-append, arith}
use Rattle.std.specs.BTreeMap.{is_at}
use Rattle.std.specs.FinMap as fin
use Rattle.std.specs.Map.{lookup}
use Rattle.std.specs.Option.{option_map}
use Rattle.std.specs.Ordering.{nat_cmp}
use Rattle.std.proofs.lemmas.Bool.{false≢true, cases_eq, cases_lt}
use Rattle.std.proofs.lemmas.Bool.Decides.{nat_tests}
use Rattle.std.proofs.lemmas.Cmp.{nat_cmp_total}
use Rattle.std.proofs.lemmas.List.{get_or_append_left, get_or_past, get_or_push, get_or-set_other, get_or-set_same, length-set}
use Rattle.normal_form.specs.Normal.{NormalConstraint}
use Rattle.propagate.proofs.Entries.{get_is, one_given, one_removed}
use Rattle.places.proofs.Ids.{other_id, own_id}
use Rattle.ledger.specs.Ledgers.{constraint_at, constraint_in, shown}
use Rattle.places.specs.Places.{place_of}
use Rattle.watch.specs.Named.{AreNamed, content_at}
use Rattle.ledger.proofs.Standing.{shown_at}

abbrev Slots : Type 0
Slots = List (Option NormalConstraint)

abbrev Places : Type 0
Places = List (ℕ × ℕ)

mapped_first : (f : ℕ → NormalConstraint) (b : Bool) (k : ℕ) (o : Option ℕ) (r : Option NormalConstraint) → r ≡ option_map f o → cond b (Some (f k)) r ≡ option_map f (cond b (Some k) o)
mapped_first f true k o r e = refl
mapped_first f false k o r e = e

-- what is found at an id is the constraint at its place
pub found_mapped : (slots : Slots) (es : Places) (q : ℕ) → lookup (is_at (nat_cmp q)) (map (λ e. (e.0, constraint_at (shown slots) e.1)) es) ≡ option_map (constraint_at (shown slots)) (place_of es q)
found_mapped slots [] q = refl
found_mapped slots (e ∷ es) q = mapped_first (constraint_at (shown slots)) (is_at (nat_cmp q) e.0) e.1 (place_of es q) (lookup (is_at (nat_cmp q)) (map (λ e. (e.0, constraint_at (shown slots) e.1)) es)) (found_mapped slots es q)

pub content_get : (slots : Slots) (es : Places) (q : ℕ) → fin.get (content_at slots es) q ≡ option_map (constraint_at (shown slots)) (place_of es q)
content_get slots es q = get_is (map (λ e. (e.0, constraint_at (shown slots) e.1)) es) q ∙ found_mapped slots es q

pub same_id : (k q : ℕ) → is_at (nat_cmp k) q ≡ true → k ≡ q
same_id k q h = grind (arith, nat_tests)

none_is_not_some : {X : Type 0} (x : X) (o : Option X) → o ≡ None → o ≡ Some x → ⊥
none_is_not_some x o e f = cc

-- a place with a constraint is there
pub below : (slots : Slots) (k : ℕ) (n : NormalConstraint) → get_or slots k None ≡ Some n → k < length slots
below slots k n e = elim (cases_lt k (length slots)) [
  | inl low ↦ low
  | inr high ↦ absurd (none_is_not_some n (get_or slots k None) (get_or_past slots k None high) e)
]

pub place_there : (slots : Slots) (es : Places) (ids : List ℕ) (id k : ℕ) → AreNamed es ids slots → place_of es id ≡ Some k → k < length slots
place_there slots es ids id k a e = let it = a.live id k e in below slots k it.0 it.1

pub shows : (slots : Slots) (k : ℕ) (n : NormalConstraint) → get_or slots k None ≡ Some n → constraint_at (shown slots) k ≡ n
shows slots k n e = shown_at slots k ∙ ap constraint_in e

-- what an id gets
pub got : (slots : Slots) (es : Places) (ids : List ℕ) (id k : ℕ) → AreNamed es ids slots → place_of es id ≡ Some k → get_or slots k None ≡ fin.get (content_at slots es) id
got slots es ids id k a e =
    let it = a.live id k e in
    it.1 ∙ ap (λ (n : NormalConstraint). Some n) (sym (shows slots k it.0 it.1)) ∙ sym (content_get slots es id ∙ ap (option_map (constraint_at (shown slots))) e)

pub got_none : (slots : Slots) (es : Places) (id : ℕ) → place_of es id ≡ None → fin.get (content_at slots es) id ≡ None
got_none slots es id e = content_get slots es id ∙ ap (option_map (constraint_at (shown slots))) e

mapped_none : (f : ℕ → NormalConstraint) (o : Option ℕ) → option_map f o ≡ None → o ≡ None
mapped_none f None h = refl
mapped_none f (Some k) h = absurd (none_is_not_some (f k) (Some (f k)) h refl)

-- places that are kept show the same
same_mapped : (slots new : Slots) (o : Option ℕ) → ((k : ℕ) → o ≡ Some k → constraint_at (shown new) k ≡ constraint_at (shown slots) k) → option_map (constraint_at (shown new)) o ≡ option_map (constraint_at (shown slots)) o
same_mapped slots new None h = refl
same_mapped slots new (Some k) h = ap (λ (n : NormalConstraint). Some n) (h k refl)

-- one constraint more
grown_there : (slots : Slots) (n : NormalConstraint) (k : ℕ) → k < length slots → constraint_at (shown (slots ++ Some n ∷ [])) k ≡ constraint_at (shown slots) k
grown_there slots n k low = shown_at (slots ++ Some n ∷ []) k ∙ ap constraint_in (get_or_append_left slots (Some n ∷ []) None k low) ∙ sym (shown_at slots k)

given_one : (slots : Slots) (n : NormalConstraint) (place : ℕ) (b : Bool) (o : Option ℕ) → place ≡ length slots → ((k : ℕ) → o ≡ Some k → k < length slots) → option_map (constraint_at (shown (slots ++ Some n ∷ []))) (cond b (Some place) o) ≡ cond b (Some n) (option_map (constraint_at (shown slots)) o)
given_one slots n place true o e h = ap (λ (m : NormalConstraint). Some m) (shows (slots ++ Some n ∷ []) place n (get_or_push slots (Some n) None place (sym e)))
given_one slots n place false o e h = same_mapped slots (slots ++ Some n ∷ []) o (λ k is. grown_there slots n k (h k is))

pub content_more : (slots : Slots) (es fs : Places) (ids : List ℕ) (id place : ℕ) (n : NormalConstraint) → place ≡ length slots → AreNamed es ids slots → ((q : ℕ) → place_of fs q ≡ cond (is_at (nat_cmp id) q) (Some place) (place_of es q)) → content_at (slots ++ Some n ∷ []) fs ≡ fin.insert (content_at slots es) id n
content_more slots es fs ids id place n e a h =
    one_given (map (λ e. (e.0, constraint_at (shown slots) e.1)) es) (map (λ e. (e.0, constraint_at (shown (slots ++ Some n ∷ [])) e.1)) fs) id n (λ q.
    found_mapped (slots ++ Some n ∷ []) fs q ∙ ap (option_map (constraint_at (shown (slots ++ Some n ∷ [])))) (h q)
    ∙ given_one slots n place (is_at (nat_cmp id) q) (place_of es q) e (λ k is. place_there slots es ids q k a is)
    ∙ ap (cond (is_at (nat_cmp id) q) (Some n)) (sym (found_mapped slots es q)))

live_more : (slots : Slots) (es : Places) (ids : List ℕ) (id place : ℕ) (n : NormalConstraint) → place ≡ length slots → AreNamed es ids slots → (q k : ℕ) (b : Bool) → (b ≡ true → id ≡ q) → cond b (Some place) (place_of es q) ≡ Some k
    → (m : NormalConstraint) × (get_or (slots ++ Some n ∷ []) k None ≡ Some m) × (get_or (ids ++ id ∷ []) k 0 ≡ q)
live_more slots es ids id place n e a q k true same is =
    let here : place ≡ k = cc in
    (n, get_or_push slots (Some n) None k (sym e ∙ here), get_or_push ids id 0 k (a.as_many ∙ sym e ∙ here) ∙ same refl)
live_more slots es ids id place n e a q k false same is =
    let it = a.live q k is in
    let low : k < length slots = below slots k it.0 it.1 in
    (it.0, get_or_append_left slots (Some n ∷ []) None k low ∙ it.1, get_or_append_left ids (id ∷ []) 0 k (omega (arith, low, a.as_many)) ∙ it.2)

pub named_more : (slots : Slots) (es fs : Places) (ids : List ℕ) (id place : ℕ) (n : NormalConstraint) → place ≡ length slots → AreNamed es ids slots → fin.get (content_at slots es) id ≡ None → ((q : ℕ) → place_of fs q ≡ cond (is_at (nat_cmp id) q) (Some place) (place_of es q)) → AreNamed fs (ids ++ id ∷ []) (slots ++ Some n ∷ [])
named_more slots es fs ids id place n e a free h =
    let absent : place_of es id ≡ None = mapped_none (constraint_at (shown slots)) (place_of es id) (sym (content_get slots es id) ∙ free) in
    record {
      as_many = omega (arith, a.as_many, length-append ids (id ∷ []), length-append slots (Some n ∷ []));
      live = λ q k is. live_more slots es ids id place n e a q k (is_at (nat_cmp id) q) (same_id id q) (sym (h q) ∙ is);
      named = λ k m is. elim (cases_eq k (length slots)) [
        | inl last ↦
            let its : get_or (ids ++ id ∷ []) k 0 ≡ id = get_or_push ids id 0 k (a.as_many ∙ sym last) in
            ap (place_of fs) its ∙ h id ∙ ap (λ (b : Bool). cond b (Some place) (place_of es id)) (own_id id) ∙ ap (λ (j : ℕ). Some j) (e ∙ sym last)
        | inr other ↦
            let low : k < length slots = omega (arith, other, below (slots ++ Some n ∷ []) k m is, length-append slots (Some n ∷ [])) in
            let before : place_of es (get_or ids k 0) ≡ Some k = a.named k m (sym (get_or_append_left slots (Some n ∷ []) None k low) ∙ is) in
            let its : get_or (ids ++ id ∷ []) k 0 ≡ get_or ids k 0 = get_or_append_left ids (id ∷ []) 0 k (omega (arith, low, a.as_many)) in
            let differs : id ≡ get_or ids k 0 → ⊥ = λ same. none_is_not_some k (place_of es id) absent (ap (place_of es) same ∙ before) in
            ap (place_of fs) its ∙ h (get_or ids k 0) ∙ ap (λ (b : Bool). cond b (Some place) (place_of es (get_or ids k 0))) (other_id id (get_or ids k 0) differs) ∙ before
      ];
    }

-- one constraint fewer
left_there : (slots : Slots) (place k : ℕ) → (k ≡ place → ⊥) → constraint_at (shown (set slots place None)) k ≡ constraint_at (shown slots) k
left_there slots place k other = shown_at (set slots place None) k ∙ ap constraint_in (get_or-set_other slots place k None None other) ∙ sym (shown_at slots k)

one_place : (slots : Slots) (es : Places) (ids : List ℕ) (id q place : ℕ) → AreNamed es ids slots → place_of es id ≡ Some place → place_of es q ≡ Some place → id ≡ q
one_place slots es ids id q place a e f = sym (a.live id place e).2 ∙ (a.live q place f).2

removed_one : (slots : Slots) (es : Places) (ids : List ℕ) (id q place : ℕ) (b : Bool) → AreNamed es ids slots → place_of es id ≡ Some place → is_at (nat_cmp id) q ≡ b → option_map (constraint_at (shown (set slots place None))) (cond b None (place_of es q)) ≡ cond b None (option_map (constraint_at (shown slots)) (place_of es q))
removed_one slots es ids id q place true a e is = refl
removed_one slots es ids id q place false a e is =
    same_mapped slots (set slots place None) (place_of es q) (λ k f. left_there slots place k (λ same.
    let both : id ≡ q = one_place slots es ids id q place a e (f ∙ ap (λ (j : ℕ). Some j) same) in
    false≢true (sym is ∙ ap (λ (j : ℕ). is_at (nat_cmp id) j) (sym both) ∙ own_id id)))

pub content_fewer : (slots : Slots) (es fs : Places) (ids : List ℕ) (id place : ℕ) → AreNamed es ids slots → place_of es id ≡ Some place → ((q : ℕ) → place_of fs q ≡ cond (is_at (nat_cmp id) q) None (place_of es q)) → content_at (set slots place None) fs ≡ fin.remove (content_at slots es) id
content_fewer slots es fs ids id place a e h =
    one_removed (map (λ e. (e.0, constraint_at (shown slots) e.1)) es) (map (λ e. (e.0, constraint_at (shown (set slots place None)) e.1)) fs) id (λ q.
    found_mapped (set slots place None) fs q ∙ ap (option_map (constraint_at (shown (set slots place None)))) (h q)
    ∙ removed_one slots es ids id q place (is_at (nat_cmp id) q) a e refl
    ∙ ap (cond (is_at (nat_cmp id) q) None) (sym (found_mapped slots es q)))

live_fewer : (slots : Slots) (es : Places) (ids : List ℕ) (id place : ℕ) → AreNamed es ids slots → place_of es id ≡ Some place → (q k : ℕ) (b : Bool) → is_at (nat_cmp id) q ≡ b → cond b None (place_of es q) ≡ Some k
    → (m : NormalConstraint) × (get_or (set slots place None) k None ≡ Some m) × (get_or ids k 0 ≡ q)
live_fewer slots es ids id place a e q k true same is = absurd (none_is_not_some k None refl is)
live_fewer slots es ids id place a e q k false same is =
    let it = a.live q k is in
    let other : k ≡ place → ⊥ = λ here.
    let both : id ≡ q = one_place slots es ids id q place a e (is ∙ ap (λ (j : ℕ). Some j) here) in
    false≢true (sym same ∙ ap (λ (j : ℕ). is_at (nat_cmp id) j) (sym both) ∙ own_id id) in
    (it.0, get_or-set_other slots place k None None other ∙ it.1, it.2)

pub named_fewer : (slots : Slots) (es fs : Places) (ids : List ℕ) (id place : ℕ) → AreNamed es ids slots → place_of es id ≡ Some place → ((q : ℕ) → place_of fs q ≡ cond (is_at (nat_cmp id) q) None (place_of es q)) → AreNamed fs ids (set slots place None)
named_fewer slots es fs ids id place a e h = record {
  as_many = a.as_many ∙ sym (length-set slots place None);
  live = λ q k is. live_fewer slots es ids id place a e q k (is_at (nat_cmp id) q) refl (sym (h q) ∙ is);
  named = λ k m is. elim (cases_eq k place) [
    | inl here ↦
        let gone : get_or (set slots place None) k None ≡ None = ap (λ (j : ℕ). get_or (set slots place None) j None) here ∙ get_or-set_same slots place None None (place_there slots es ids id place a e) in
        absurd (none_is_not_some m (get_or (set slots place None) k None) gone is)
    | inr other ↦
        let before : place_of es (get_or ids k 0) ≡ Some k = a.named k m (sym (get_or-set_other slots place k None None other) ∙ is) in
        let differs : id ≡ get_or ids k 0 → ⊥ = λ same.
        let its : place_of es id ≡ Some k = ap (place_of es) same ∙ before in
        other (sym (some_same place k (sym e ∙ its))) in
        h (get_or ids k 0) ∙ ap (λ (b : Bool). cond b None (place_of es (get_or ids k 0))) (other_id id (get_or ids k 0) differs) ∙ before
  ];
}
  where
    some_same : (j k : ℕ) → Some j ≡ Some k → j ≡ k
    some_same j k f = cc

-- an id that is put in and taken out again
back_again : (place : ℕ) (b : Bool) (o : Option ℕ) → (b ≡ true → o ≡ None) → cond b None (cond b (Some place) o) ≡ o
back_again place true o h = sym (h refl)
back_again place false o h = refl

pub places_again : (slots : Slots) (es fs gs : Places) (id place : ℕ) → fin.get (content_at slots es) id ≡ None → ((q : ℕ) → place_of fs q ≡ cond (is_at (nat_cmp id) q) (Some place) (place_of es q)) → ((q : ℕ) → place_of gs q ≡ cond (is_at (nat_cmp id) q) None (place_of fs q)) → (q : ℕ) → place_of gs q ≡ place_of es q
places_again slots es fs gs id place free h k q =
    let absent : place_of es id ≡ None = mapped_none (constraint_at (shown slots)) (place_of es id) (sym (content_get slots es id) ∙ free) in
    k q ∙ ap (cond (is_at (nat_cmp id) q) None) (h q) ∙ back_again place (is_at (nat_cmp id) q) (place_of es q) (λ e. ap (place_of es) (sym (same_id id q e)) ∙ absent)

pub content_again : (slots : Slots) (es gs : Places) → ((q : ℕ) → place_of gs q ≡ place_of es q) → content_at slots gs ≡ content_at slots es
content_again slots es gs h = fin.same_map nat_cmp_total fin.nat_cmp-IsAntisymmetric (content_at slots gs) (content_at slots es) (λ q.
    content_get slots gs q ∙ ap (option_map (constraint_at (shown slots))) (h q) ∙ sym (content_get slots es q))

pub named_again : (slots : Slots) (es gs : Places) (ids : List ℕ) → ((q : ℕ) → place_of gs q ≡ place_of es q) → AreNamed es ids slots → AreNamed gs ids slots
named_again slots es gs ids h a = record {
  as_many = a.as_many;
  live = λ q k e. a.live q k (sym (h q) ∙ e);
  named = λ k n e. h (get_or ids k 0) ∙ a.named k n e;
}

-- no id has a place
pub named_none : (places : Places) (ids : List ℕ) (slots : Slots) → places ≡ [] → ids ≡ [] → slots ≡ [] → AreNamed places ids slots
named_none places ids slots e f g = rw (e, f, g) (record { as_many = refl; live = λ q k is. absurd (none_is_not_some k None refl is); named = λ k n is. absurd (none_is_not_some n None refl is) })

-- an id that is not there takes nothing with it
none_mapped : (f : ℕ → NormalConstraint) (b : Bool) (o : Option ℕ) → option_map f (cond b None o) ≡ cond b None (option_map f o)
none_mapped f true o = refl
none_mapped f false o = refl

pub content_without : (slots : Slots) (es fs : Places) (id : ℕ) → ((q : ℕ) → place_of fs q ≡ cond (is_at (nat_cmp id) q) None (place_of es q)) → content_at slots fs ≡ fin.remove (content_at slots es) id
content_without slots es fs id h =
    one_removed (map (λ e. (e.0, constraint_at (shown slots) e.1)) es) (map (λ e. (e.0, constraint_at (shown slots) e.1)) fs) id (λ q.
    found_mapped slots fs q ∙ ap (option_map (constraint_at (shown slots))) (h q) ∙ none_mapped (constraint_at (shown slots)) (is_at (nat_cmp id) q) (place_of es q)
    ∙ ap (cond (is_at (nat_cmp id) q) None) (sym (found_mapped slots es q)))
