-- To judge each id of a deletion in its turn, the earlier ones gone, is to ask that the ids differ and that each is live
-- now.
use Rattle.std.proofs.Common.{◌≡◌, ◌≢◌, ℕ, suc, ℤ, Bool, true, false, cond, List, [], ◌∷◌, Option, None, IsSome, All, get_or, refl, sym, ap, subst, ◌∙◌, arith}
use Rattle.std.specs.List.{AllPairs}
use Rattle.std.specs.FinMap as fin
use Rattle.std.specs.Ordering.{nat_cmp, eq_by_cmp, is_eq}
use Rattle.std.specs.Cmp.{tied_itself}
use Rattle.std.proofs.lemmas.Bool.{false≢true}
use Rattle.std.proofs.lemmas.Cmp.{nat_cmp_total}
use Rattle.std.proofs.lemmas.List.Elements.{All-nil, All-cons, All-head, All-tail, All-weaker}
use Rattle.std.proofs.lemmas.List.Kept.{AllPairs-cons}
use Rattle.normal_form.specs.Normal.{NormalConstraint}
use Rattle.proof_rules.specs.Deletion.{AreDeletableAtOnce}
use Rattle.proof_rules.specs.Legal.{LegalDel, without}
use Rattle.proof_rules.specs.State.{State, constraint_of, id_of}
use Rattle.proof_rules.proofs.LiveConstraints.{key_of}

pairs_head : {X : Type 0} (R : X → X → Type 0) (x : X) (xs : List X) → AllPairs R (x ∷ xs) → All (R x) xs
pairs_head R x xs h k d below = h 0 (suc k) d (omega arith) (omega (arith, below))

pairs_tail : {X : Type 0} (R : X → X → Type 0) (x : X) (xs : List X) → AllPairs R (x ∷ xs) → AllPairs R xs
pairs_tail R x xs h i j d less below = h (suc i) (suc j) d (omega (arith, less)) (omega (arith, below))

-- what is found without a key, and so before it went, has another key
found_before : (b : Bool) (o : Option NormalConstraint) → IsSome (cond b None o) → (b ≡ false) × IsSome o
found_before true o h = absurd (false≢true h)
found_before false o h = (refl, h)

found_after : (b : Bool) (o : Option NormalConstraint) → b ≡ false → IsSome o → IsSome (cond b None o)
found_after true o h is = absurd (false≢true (sym h))
found_after false o h is = is

other_key : (id gone : ℕ) → id ≢ gone → eq_by_cmp nat_cmp id gone ≡ false
other_key id gone apart = by (eq_by_cmp nat_cmp id gone) refl
  where
    by : (b : Bool) → eq_by_cmp nat_cmp id gone ≡ b → b ≡ false
    by true same = absurd (apart (key_of id gone same))
    by false same = refl

key_itself : (id gone : ℕ) → gone ≡ id → eq_by_cmp nat_cmp id gone ≡ true
key_itself id gone same = ap (λ k. eq_by_cmp nat_cmp id k) same ∙ ap is_eq (tied_itself nat_cmp_total id)

-- what is live where an id is gone was live before, and is another one
live_before : (s : State) (gone : ℕ) (id : ℤ) → IsSome (constraint_of (without gone s) id) → IsSome (constraint_of s id) × (gone ≢ id_of s.next id)
live_before s gone id live =
    let k = id_of s.next id in
    let found = found_before (eq_by_cmp nat_cmp k gone) (fin.get s.live k) (subst (λ o. IsSome o) (fin.get-remove nat_cmp_total s.live gone k) live) in
    (found.1, λ same. false≢true (sym found.0 ∙ key_itself k gone same))

-- and the other way round
live_after : (s : State) (gone : ℕ) (id : ℤ) → gone ≢ id_of s.next id → IsSome (constraint_of s id) → IsSome (constraint_of (without gone s) id)
live_after s gone id apart live =
    let k = id_of s.next id in
    let other : eq_by_cmp nat_cmp k gone ≡ false = other_key k gone (λ same. apart (sym same)) in
    subst (λ o. IsSome o) (sym (fin.get-remove nat_cmp_total s.live gone k)) (found_after (eq_by_cmp nat_cmp k gone) (fin.get s.live k) other live)

pub at_once : (s t : State) (ids : List ℤ) → LegalDel s ids t → AreDeletableAtOnce s ids
at_once s t [] legal = record {
  each = All-nil (λ id. IsSome (constraint_of s id));
  apart = λ i j d less below. absurd (omega (arith, below));
}
at_once s t (id ∷ ids) (here, rest) =
    let gone = id_of s.next id in
    let later = at_once (without gone s) t ids rest in
    let before = λ (x : ℤ) (live : IsSome (constraint_of (without gone s) x)). live_before s gone x live in
    record {
      each = All-cons (λ x. IsSome (constraint_of s x)) id ids here
          (All-weaker (λ x. IsSome (constraint_of (without gone s) x)) (λ x. IsSome (constraint_of s x)) (λ x live. (before x live).0) ids later.each);
      apart = AllPairs-cons (λ x y. id_of s.next x ≢ id_of s.next y) id ids
          (All-weaker (λ x. IsSome (constraint_of (without gone s) x)) (λ x. gone ≢ id_of s.next x) (λ x live. (before x live).1) ids later.each)
          later.apart;
    }

pub in_turn : (s : State) (ids : List ℤ) → AreDeletableAtOnce s ids → (t : State) × LegalDel s ids t
in_turn s [] h = (s, refl)
in_turn s (id ∷ ids) h =
    let gone = id_of s.next id in
    let others = pairs_head (λ x y. id_of s.next x ≢ id_of s.next y) id ids h.apart in
    let each = All-tail (λ x. IsSome (constraint_of s x)) id ids h.each in
    let rest = in_turn (without gone s) ids (record {
      each = λ k d below. live_after s gone (get_or ids k d) (others k d below) (each k d below);
      apart = pairs_tail (λ x y. id_of s.next x ≢ id_of s.next y) id ids h.apart;
    }) in
    (rest.0, (All-head (λ x. IsSome (constraint_of s x)) id ids h.each, rest.1))
