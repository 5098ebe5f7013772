-- A map that is filled with what another has, place by place.
use Rattle.std.proofs.Common.{◌≡◌, ℕ, ◌<◌, ◌≤◌, ◌+◌, inl, inr, Bool, cond, Option, None, Some, List, MatchOption, length, get_or, refl, ap, sym, ◌∙◌, arith}
use Rattle.std.specs.FinMap as fin
use Rattle.std.specs.Ordering.{nat_cmp}
use Rattle.std.proofs.lemmas.Bool.{cases_eq}
use Rattle.std.proofs.lemmas.Cmp.{nat_cmp_total}
use Rattle.normal_form.specs.Normal.{NormalConstraint}
use Rattle.propagate.specs.Content.{Content}
use Rattle.places.specs.Places.{place_of}
use Rattle.watch.specs.Named.{AreNamed, content_at}
use Rattle.places.proofs.Ids.{other_id, own_id}
use Rattle.watch.proofs.NamedPlaces.{below, got, got_none}

abbrev Slots : Type 0
Slots = List (Option NormalConstraint)

-- what stands at the first places is there under its id, and nothing else is
pub record IsFilledTo (slots : Slots) (ids : List ℕ) (new : Content) (count : ℕ) : Type 0 where
  pub there : (k : ℕ) (n : NormalConstraint) → k < count → get_or slots k None ≡ Some n → fin.get new (get_or ids k 0) ≡ Some n
  pub free : (q : ℕ) → ((k : ℕ) (n : NormalConstraint) → k < count → get_or slots k None ≡ Some n → get_or ids k 0 ≡ q → ⊥) → fin.get new q ≡ None

pub filled_first : (slots : Slots) (ids : List ℕ) → IsFilledTo slots ids fin.empty 0
filled_first slots ids = record {
  there = λ k n low is. absurd (omega (arith, low));
  free = λ q none. fin.get-empty nat_cmp q;
}

same_some : (j k : ℕ) → Some j ≡ Some k → j ≡ k
same_some j k e = cc

-- two places with a constraint have two ids
one_place : (slots : Slots) (es : List (ℕ × ℕ)) (ids : List ℕ) (j k : ℕ) (n m : NormalConstraint) → AreNamed es ids slots → get_or slots j None ≡ Some n → get_or slots k None ≡ Some m → get_or ids j 0 ≡ get_or ids k 0 → j ≡ k
one_place slots es ids j k n m a is at same = same_some j k (sym (a.named j n is) ∙ ap (place_of es) same ∙ a.named k m at)

pub next_free : (slots : Slots) (es : List (ℕ × ℕ)) (ids : List ℕ) (new : Content) (count : ℕ) (n : NormalConstraint) → AreNamed es ids slots → IsFilledTo slots ids new count → get_or slots count None ≡ Some n → fin.get new (get_or ids count 0) ≡ None
next_free slots es ids new count n a h is = h.free (get_or ids count 0) (λ k m low at same.
    let here : k ≡ count = one_place slots es ids k count m n a at is same in
    omega (arith, here, low))

none_is_not_some : {X : Type 0} (x : X) (o : Option X) → o ≡ None → o ≡ Some x → ⊥
none_is_not_some x o e f = cc

last_or_before : (k count : ℕ) → k < count + 1 → (k ≡ count → ⊥) → k < count
last_or_before k count low other = omega (arith, low, other)

got_put : (new more : Content) (id : ℕ) (n : NormalConstraint) → more ≡ fin.insert new id n → fin.get more id ≡ Some n
got_put new more id n g = ap (λ (m : Content). fin.get m id) g ∙ fin.get-insert nat_cmp_total new id n id ∙ ap (λ (b : Bool). cond b (Some n) (fin.get new id)) (own_id id)

got_kept : (new more : Content) (id q : ℕ) (n : NormalConstraint) → more ≡ fin.insert new id n → (q ≡ id → ⊥) → fin.get more q ≡ fin.get new q
got_kept new more id q n g other = ap (λ (m : Content). fin.get m q) g ∙ fin.get-insert nat_cmp_total new id n q ∙ ap (λ (b : Bool). cond b (Some n) (fin.get new q)) (other_id q id other)

-- one place more
pub filled_more : (slots : Slots) (es : List (ℕ × ℕ)) (ids : List ℕ) (new more : Content) (count : ℕ) (o : Option NormalConstraint) → AreNamed es ids slots → IsFilledTo slots ids new count → o ≡ get_or slots count None
    → MatchOption o (more ≡ new) (λ n. more ≡ fin.insert new (get_or ids count 0) n) → IsFilledTo slots ids more (count + 1)
filled_more slots es ids new more count None a h at g = record {
  there = λ k n low is.
      let before : k < count = last_or_before k count low (λ same. none_is_not_some n (get_or slots k None) (ap (λ (j : ℕ). get_or slots j None) same ∙ sym at) is) in
      ap (λ (m : Content). fin.get m (get_or ids k 0)) g ∙ h.there k n before is;
  free = λ q none. ap (λ (m : Content). fin.get m q) g ∙ h.free q (λ k n low is same. none k n (omega (arith, low)) is same);
}
filled_more slots es ids new more count (Some x) a h at g = record {
  there = λ k n low is. elim (cases_eq k count) as (λ _. fin.get more (get_or ids k 0) ≡ Some n) [
    | inl here ↦
        let same : Some x ≡ Some n = at ∙ ap (λ (j : ℕ). get_or slots j None) (sym here) ∙ is in
        ap (λ (j : ℕ). fin.get more (get_or ids j 0)) here ∙ got_put new more (get_or ids count 0) x g ∙ same
    | inr other ↦
        let before : k < count = last_or_before k count low other in
        let differs : get_or ids k 0 ≡ get_or ids count 0 → ⊥ = λ same. other (one_place slots es ids k count n x a is (sym at) same) in
        got_kept new more (get_or ids count 0) (get_or ids k 0) x g differs ∙ h.there k n before is
  ];
  free = λ q none.
      let differs : q ≡ get_or ids count 0 → ⊥ = λ same. none count x (omega arith) (sym at) (sym same) in
      got_kept new more (get_or ids count 0) q x g differs ∙ h.free q (λ k n low is same. none k n (omega (arith, low)) is same);
}

pub filled : (slots : Slots) (es : List (ℕ × ℕ)) (ids : List ℕ) (new : Content) (count : ℕ) → AreNamed es ids slots → length slots ≤ count → IsFilledTo slots ids new count → new ≡ content_at slots es
filled slots es ids new count a all h = fin.same_map nat_cmp_total fin.nat_cmp-IsAntisymmetric new (content_at slots es) (λ q. by q (place_of es q) refl)
  where
    by : (q : ℕ) (o : Option ℕ) → place_of es q ≡ o → fin.get new q ≡ fin.get (content_at slots es) q
    by q None e = h.free q (λ k n low is same. none_is_not_some k (place_of es q) e (ap (place_of es) (sym same) ∙ a.named k n is)) ∙ sym (got_none slots es q e)
    by q (Some k) e =
        let it = a.live q k e in
        let low : k < count = omega (arith, all, below slots k it.0 it.1) in
        ap (fin.get new) (sym it.2) ∙ h.there k it.0 low it.1 ∙ sym it.1 ∙ got slots es ids q k a e
