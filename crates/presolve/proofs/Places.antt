-- Which keys have a variable, by their places.
use Rattle.std.proofs.Common.{◌≡◌, ◌≢◌, ℕ, zero, suc, ◌+◌, ◌<◌, ◌≤◌, ◌⊎◌, inl, inr, ◌==◌, Bool, true, false, List, [], ◌∷◌, ◌++◌, map, take, drop, length, get_or, slice_set, Contains, All, refl, sym, ap, subst, ◌∙◌, arith}
use Rattle.std.specs.Prelude.{◌↔◌}
use Rattle.std.specs.Global.{Vec}
use Rattle.std.proofs.lemmas.Bool.{cases_lt}
use Rattle.std.proofs.lemmas.Bool.Decides.{nat_tests}
use Rattle.std.proofs.lemmas.List.{get_or_default, get_or-set_other, get_or-set_same, get_or-take, get_or-map, length-map, length-take, map-set, take_more}
use Rattle.std.proofs.Math.Seq.{take-append_seam}
use Rattle.std.proofs.lemmas.List.Elements.{All-head, All-tail, Contains-append_left, Contains-push, Contains-push_cases}
use Rattle.std.proofs.lemmas.List.Quantifiers.{Any-push}
use Rattle.normal_form.specs.declared.term.NormalTerm.{NormalTerm}
use Rattle.presolve.specs.Forms.{ArePlacesOf, HasKeyAt, HasTerm, NotesPlace, NotesPlaces, NotesTerms, places_at}
use Rattle.presolve.specs.declared.form.Form.{Form}

noted : (lists : List (List ℕ)) (u place : ℕ) (xs : List ℕ) → u < length lists → xs ≡ get_or lists u [] ++ place ∷ [] → (v i : ℕ) → Contains (get_or (slice_set lists u xs) v []) i ↔ (Contains (get_or lists v []) i ⊎ ((i ≡ place) × (v ≡ u)))
noted lists u place xs h e v i = by (v == u) refl
  where
    by : (b : Bool) → b ≡ (v == u) → Contains (get_or (slice_set lists u xs) v []) i ↔ (Contains (get_or lists v []) i ⊎ ((i ≡ place) × (v ≡ u)))
    by true t =
        let same : v ≡ u = grind (arith, nat_tests) in
        let here : get_or (slice_set lists u xs) v [] ≡ get_or lists v [] ++ place ∷ [] = ap (λ k. get_or (slice_set lists u xs) k []) same ∙ get_or-set_same lists u xs [] h ∙ e ∙ ap (λ k. get_or lists k [] ++ place ∷ []) (sym same) in
        (λ c. out same (Contains-push_cases (get_or lists v []) place i (subst (λ l. Contains l i) here c)), λ c. subst (λ l. Contains l i) (sym here) (into c))
      where
        out : v ≡ u → Contains (get_or lists v []) i ⊎ (place ≡ i) → Contains (get_or lists v []) i ⊎ ((i ≡ place) × (v ≡ u))
        out same (inl c) = inl c
        out same (inr c) = inr (sym c, same)

        into : Contains (get_or lists v []) i ⊎ ((i ≡ place) × (v ≡ u)) → Contains (get_or lists v [] ++ place ∷ []) i
        into (inl c) = Contains-append_left (get_or lists v []) (place ∷ []) i c
        into (inr c) = subst (Contains (get_or lists v [] ++ place ∷ [])) (sym c.0) (Contains-push (get_or lists v []) place)
    by false t =
        let other : v ≢ u = λ same. grind (arith, nat_tests) in
        let here : get_or (slice_set lists u xs) v [] ≡ get_or lists v [] = get_or-set_other lists u v xs [] other in
        (λ c. inl (subst (λ l. Contains l i) here c), λ c. subst (λ l. Contains l i) (sym here) (into other c))
      where
        into : v ≢ u → Contains (get_or lists v []) i ⊎ ((i ≡ place) × (v ≡ u)) → Contains (get_or lists v []) i
        into other (inl c) = c
        into other (inr c) = absurd (other c.1)

-- a place at the end of one list
pub place_noted : (table : List (Vec ℕ)) (u place : ℕ) (d new : Vec ℕ) → u < length table → new.items ≡ (get_or table u d).items ++ place ∷ [] → NotesPlace u place table (slice_set table u new)
place_noted table u place d new h pushed v inside i =
    subst (λ lists. Contains (get_or lists v []) i ↔ (Contains (places_at table v) i ⊎ ((i ≡ place) × (v ≡ u)))) (sym (map-set (λ (p : Vec ℕ). p.items) table u new))
    (noted (map (λ (p : Vec ℕ). p.items) table) u place new.items (omega (arith, h, length-map table (λ (p : Vec ℕ). p.items)))
    (pushed ∙ ap (λ xs. xs ++ place ∷ []) (sym (get_or-map (λ (p : Vec ℕ). p.items) table u d [] h))) v i)

-- what is noted one after the other
notes_both : (P Q : ℕ → Type 0) (place : ℕ) (old between new : List (Vec ℕ)) → length between ≡ length old → NotesPlaces P place old between → NotesPlaces Q place between new → NotesPlaces (λ v. P v ⊎ Q v) place old new
notes_both P Q place old between new long first second v inside i =
    let f = first v inside i in
    let g = second v (subst (λ n. v < n) (sym long) inside) i in
    (λ c. out f (g.0 c), λ c. g.1 (into f c))
  where
    out : Contains (places_at between v) i ↔ (Contains (places_at old v) i ⊎ ((i ≡ place) × P v)) → Contains (places_at between v) i ⊎ ((i ≡ place) × Q v) → Contains (places_at old v) i ⊎ ((i ≡ place) × (P v ⊎ Q v))
    out f (inr q) = inr (q.0, inr q.1)
    out f (inl c) = elim (f.0 c) as (λ _. Contains (places_at old v) i ⊎ ((i ≡ place) × (P v ⊎ Q v))) [ inl k ↦ inl k | inr k ↦ inr (k.0, inl k.1) ]

    into : Contains (places_at between v) i ↔ (Contains (places_at old v) i ⊎ ((i ≡ place) × P v)) → Contains (places_at old v) i ⊎ ((i ≡ place) × (P v ⊎ Q v)) → Contains (places_at between v) i ⊎ ((i ≡ place) × Q v)
    into f (inl c) = inl (f.1 (inl c))
    into f (inr (e, inl p)) = inl (f.1 (inr (e, p)))
    into f (inr (e, inr q)) = inr (e, q)

-- the same said in other words
notes_as : (P Q : ℕ → Type 0) (place : ℕ) (old new : List (Vec ℕ)) → ((v : ℕ) → P v ↔ Q v) → NotesPlaces P place old new → NotesPlaces Q place old new
notes_as P Q place old new same notes v inside i = (λ c. out ((notes v inside i).0 c), λ c. (notes v inside i).1 (into c))
  where
    out : Contains (places_at old v) i ⊎ ((i ≡ place) × P v) → Contains (places_at old v) i ⊎ ((i ≡ place) × Q v)
    out (inl c) = inl c
    out (inr c) = inr (c.0, (same v).0 c.1)

    into : Contains (places_at old v) i ⊎ ((i ≡ place) × Q v) → Contains (places_at old v) i ⊎ ((i ≡ place) × P v)
    into (inl c) = inl c
    into (inr c) = inr (c.0, (same v).1 c.1)

-- a variable has a term among more terms where it has one among the first, or the next one is
term_out : (v : ℕ) (ts : List NormalTerm) (i : ℕ) (d : NormalTerm) → i < length ts → HasTerm v (take (i + 1) ts) → HasTerm v (take i ts) ⊎ (v ≡ (get_or ts i d).var.0)
term_out v ts i d h a = by (Contains-push_cases (take i ts) (get_or ts i d) a.1 (subst (λ l. Contains l a.1) (take_more ts i d h) (a.0, a.2, a.3)))
  where
    by : Contains (take i ts) a.1 ⊎ (get_or ts i d ≡ a.1) → HasTerm v (take i ts) ⊎ (v ≡ (get_or ts i d).var.0)
    by (inl c) = inl (c.0, a.1, c.1, c.2, a.4)
    by (inr e) = inr (sym a.4 ∙ sym (ap (λ (t : NormalTerm). t.var.0) e))

term_into : (v : ℕ) (ts : List NormalTerm) (i : ℕ) (d : NormalTerm) → i < length ts → HasTerm v (take i ts) ⊎ (v ≡ (get_or ts i d).var.0) → HasTerm v (take (i + 1) ts)
term_into v ts i d h (inl a) =
    let c = Contains-append_left (take i ts) (get_or ts i d ∷ []) a.1 (a.0, a.2, a.3) in
    subst (HasTerm v) (sym (take_more ts i d h)) (c.0, a.1, c.1, c.2, a.4)
term_into v ts i d h (inr e) = subst (HasTerm v) (sym (take_more ts i d h)) (Any-push (λ (t : NormalTerm). t.var.0 ≡ v) (take i ts) (get_or ts i d) (sym e))

pub terms_more : (ts : List NormalTerm) (i : ℕ) (d : NormalTerm) (place : ℕ) (start old new : List (Vec ℕ)) → i < length ts → length old ≡ length start
    → NotesTerms (take i ts) place start old → NotesPlace ((get_or ts i d).var.0) place old new → NotesTerms (take (i + 1) ts) place start new
terms_more ts i d place start old new h long before here =
    notes_as (λ v. HasTerm v (take i ts) ⊎ (v ≡ (get_or ts i d).var.0)) (λ v. HasTerm v (take (i + 1) ts)) place start new (λ v. (term_into v ts i d h, term_out v ts i d h))
    (notes_both (λ v. HasTerm v (take i ts)) (λ v. v ≡ (get_or ts i d).var.0) place start old new long before here)

pub no_terms : (ts : List NormalTerm) (place : ℕ) (table : List (Vec ℕ)) → NotesTerms (take 0 ts) place table table
no_terms ts place table v inside i = (λ c. inl c, back)
  where
    back : Contains (places_at table v) i ⊎ ((i ≡ place) × HasTerm v []) → Contains (places_at table v) i
    back (inl c) = c
    back (inr c) = absurd (omega (arith, c.1.2))

-- a key is at a place among more keys where it is among the first, or the next one is
key_out : (keys : List Form) (i : ℕ) (d : Form) (j v : ℕ) → i < length keys → HasKeyAt (take (i + 1) keys) j v → HasKeyAt (take i keys) j v ⊎ ((j ≡ i) × HasTerm v (get_or keys i d).terms.items)
key_out keys i d j v h k = by (cases_lt j i)
  where
    by : (j < i) ⊎ (i ≤ j) → HasKeyAt (take i keys) j v ⊎ ((j ≡ i) × HasTerm v (get_or keys i d).terms.items)
    by (inl below) = inl (omega (arith, below, h, length-take i keys), λ e. subst (λ (f : Form). HasTerm v f.terms.items) (get_or-take (i + 1) keys j e (omega (arith, below)) ∙ sym (get_or-take i keys j e below)) (k.1 e))
    by (inr above) =
        let same : j ≡ i = omega (arith, above, k.0, length-take (i + 1) keys) in
        inr (same, subst (λ (f : Form). HasTerm v f.terms.items) (get_or-take (i + 1) keys j d (omega (arith, same)) ∙ ap (λ n. get_or keys n d) same) (k.1 d))

key_into : (keys : List Form) (i : ℕ) (d : Form) (j v : ℕ) → i < length keys → HasKeyAt (take i keys) j v ⊎ ((j ≡ i) × HasTerm v (get_or keys i d).terms.items) → HasKeyAt (take (i + 1) keys) j v
key_into keys i d j v h (inl k) =
    let below : j < i = omega (arith, k.0, length-take i keys) in
    (omega (arith, below, h, length-take (i + 1) keys), λ e. subst (λ (f : Form). HasTerm v f.terms.items) (get_or-take i keys j e below ∙ sym (get_or-take (i + 1) keys j e (omega (arith, below)))) (k.1 e))
key_into keys i d j v h (inr k) = (
  omega (arith, k.0, h, length-take (i + 1) keys),
  λ e. subst (λ (f : Form). HasTerm v f.terms.items) (get_or_default keys i d e h ∙ ap (λ n. get_or keys n e) (sym k.0) ∙ sym (get_or-take (i + 1) keys j e (omega (arith, k.0)))) k.1,
)

pub places_more : (keys : List Form) (i : ℕ) (d : Form) (count : ℕ) (old new : List (Vec ℕ)) → i < length keys → length new ≡ length old
    → ArePlacesOf (take i keys) count old → NotesTerms (get_or keys i d).terms.items i old new → ArePlacesOf (take (i + 1) keys) count new
places_more keys i d count old new h long before here = record {
  count_is = long ∙ before.count_is;
  places = λ v inside j.
      let was = before.places v inside j in
      let is = here v (subst (λ n. v < n) (sym before.count_is) inside) j in
      (λ c. key_into keys i d j v h (out was (is.0 c)), λ k. is.1 (into was (key_out keys i d j v h k)));
}
  where
    out : {v j : ℕ} → Contains (places_at old v) j ↔ HasKeyAt (take i keys) j v → Contains (places_at old v) j ⊎ ((j ≡ i) × HasTerm v (get_or keys i d).terms.items) → HasKeyAt (take i keys) j v ⊎ ((j ≡ i) × HasTerm v (get_or keys i d).terms.items)
    out was (inl c) = inl (was.0 c)
    out was (inr c) = inr c

    into : {v j : ℕ} → Contains (places_at old v) j ↔ HasKeyAt (take i keys) j v → HasKeyAt (take i keys) j v ⊎ ((j ≡ i) × HasTerm v (get_or keys i d).terms.items) → Contains (places_at old v) j ⊎ ((j ≡ i) × HasTerm v (get_or keys i d).terms.items)
    into was (inl k) = inl (was.1 k)
    into was (inr k) = inr k

empty_at : (table : List (Vec ℕ)) (v : ℕ) → All (λ (places : Vec ℕ). places.items ≡ []) table → places_at table v ≡ []
empty_at [] v none = refl
empty_at (p ∷ ps) zero none = All-head (λ (places : Vec ℕ). places.items ≡ []) p ps none
empty_at (p ∷ ps) (suc v) none = empty_at ps v (All-tail (λ (places : Vec ℕ). places.items ≡ []) p ps none)

pub no_keys_placed : (count : ℕ) (table : List (Vec ℕ)) → length table ≡ count → All (λ (places : Vec ℕ). places.items ≡ []) table → ArePlacesOf [] count table
no_keys_placed count table long none = record { count_is = long; places = λ v inside j. (λ c. absurd (by v (subst (λ l. Contains l j) (empty_at table v none) c)), λ k. absurd (omega (arith, k.0))) }
  where
    by : {j : ℕ} (v : ℕ) → Contains [] j → ⊥
    by v c = omega (arith, c.1)

-- a list that was lent whole is what was written
pub written_back : {A : Type 0} (new items : List A) (len : ℕ) → length new ≡ len → take len (new ++ drop (length new) items) ≡ new
written_back new items len long = ap (λ n. take n (new ++ drop (length new) items)) (sym long) ∙ take-append_seam new (drop (length new) items)
