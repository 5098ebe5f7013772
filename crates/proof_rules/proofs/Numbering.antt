-- The ids of live constraints: those of a file are 1, 2, .., each new one is the next, and all stay above 0 and below it.
use Rattle.std.proofs.Common.{◌≡◌, ℕ, zero, suc, ◌+◌, ◌<◌, ◌≤◌, Bool, true, false, cond, ℤ, Option, Some, None, List, [], ◌∷◌, ◌++◌, length, refl, sym, ap, subst, ◌∙◌, arith}
use Rattle.std.specs.declared.cmp.Ordering.TheVariants.{Less, Equal, Greater}
use Rattle.std.specs.Ordering.{nat_cmp, eq_by_cmp, is_eq}
use Rattle.std.specs.Cmp.{nat_cmp_is}
use Rattle.std.specs.List.{slice_get}
use Rattle.std.specs.FinMap as fin
use Rattle.std.proofs.lemmas.Cmp.{nat_cmp_total}
use Rattle.std.proofs.lemmas.List.{length-append}
use Rattle.linear.specs.Limits.{IsWithin}
use Rattle.linear.specs.Opb.{Opb}
use Rattle.normal_form.specs.Normal.{NormalConstraint}
use Rattle.proof_steps.specs.declared.step.Step.{Step}
use Rattle.proof_steps.specs.declared.step.Step.TheVariants as steps
use Rattle.proof_rules.specs.Block.{new_block, with_block, with_goal, EndsOpen}
use Rattle.proof_rules.specs.Legal.{Legal, LegalDel, Adds, without}
use Rattle.proof_rules.specs.State.{State, Block, Live, AreNumbered, id_limit, IsStart, HasRoom, id_of, numbered, state_of, up_to, with_constraint}
use Rattle.proof_rules.proofs.FileForms.{all_count, few_ids}
use Rattle.proof_rules.proofs.LiveConstraints.{key_of, listed_within, within_up_to}

-- keys that are the same, and keys that are not
pub same_key : (k q : ℕ) → k ≡ q → eq_by_cmp nat_cmp k q ≡ true
same_key k q h = ap is_eq (sym (nat_cmp_is k q Equal h))

other_key : (k q : ℕ) → q < k → eq_by_cmp nat_cmp k q ≡ false
other_key k q h = ap is_eq (sym (nat_cmp_is k q Greater h))

lower_key : (k q : ℕ) → k < q → eq_by_cmp nat_cmp k q ≡ false
lower_key k q h = ap is_eq (sym (nat_cmp_is k q Less h))

-- an id below all is not found
none_below : (k id : ℕ) (ns : List NormalConstraint) → k < id → fin.find nat_cmp k (numbered id ns) ≡ None
none_below k id [] h = refl
none_below k id (n ∷ ns) h =
    ap (λ b. cond b (Some n) (fin.find nat_cmp k (numbered (id + 1) ns))) (lower_key k id h) ∙ none_below k (id + 1) ns (omega (arith, h))

-- the constraint of an id stands as far behind the first as the id is above the first
find_numbered : (id k q : ℕ) (ns : List NormalConstraint) → q ≡ id + k → fin.find nat_cmp q (numbered id ns) ≡ slice_get ns k
find_numbered id k q [] h = refl
find_numbered id zero q (n ∷ ns) h =
    ap (λ b. cond b (Some n) (fin.find nat_cmp q (numbered (id + 1) ns))) (same_key q id (omega (arith, h)))
find_numbered id (suc k) q (n ∷ ns) h =
    ap (λ b. cond b (Some n) (fin.find nat_cmp q (numbered (id + 1) ns))) (other_key q id (omega (arith, h)))
    ∙ find_numbered (id + 1) k q ns (omega (arith, h))

past_end : (ns : List NormalConstraint) (k : ℕ) → length ns ≤ k → slice_get ns k ≡ None
past_end [] k h = refl
past_end (n ∷ ns) zero h = absurd (omega (arith, h))
past_end (n ∷ ns) (suc k) h = past_end ns k (omega (arith, h))

-- one more constraint takes the next id
numbered_push : (id : ℕ) (ns : List NormalConstraint) (n : NormalConstraint) → numbered id (ns ++ n ∷ []) ≡ numbered id ns ++ (id + length ns, n) ∷ []
numbered_push id [] n = ap (λ k. (k, n) ∷ []) (omega arith)
numbered_push id (m ∷ ns) n = ap (λ rest. (id, m) ∷ rest) (numbered_push (id + 1) ns n ∙ ap (λ k. numbered (id + 1) ns ++ (k, n) ∷ []) (omega arith))

pub state_push : (ns : List NormalConstraint) (n : NormalConstraint) → state_of (ns ++ n ∷ []) ≡ with_constraint n (state_of ns)
state_push ns n =
    let key : 1 + length ns ≡ length ns + 1 = omega arith in
    let new : fin.find nat_cmp (1 + length ns) (numbered 1 ns) ≡ None = find_numbered 1 (length ns) (1 + length ns) ns refl ∙ past_end ns (length ns) (omega arith) in
    let live = ap (fin.from_entries {R = nat_cmp}) (numbered_push 1 ns n)
    ∙ fin.from_entries_push nat_cmp_total fin.nat_cmp-IsAntisymmetric (numbered 1 ns) (1 + length ns) n new
    ∙ ap (λ k. fin.insert (fin.from_entries {R = nat_cmp} (numbered 1 ns)) k n) key in
    let next : length (ns ++ n ∷ []) + 1 ≡ (length ns + 1) + 1 = omega (arith, length-append ns (n ∷ [])) in
    λ i. record { live = live i; next = next i; least = None; logged = []; block = None }

-- one more constraint
by_key : (live : Live) (next id : ℕ) (n m : NormalConstraint) (b : Bool) → AreNumbered live next → eq_by_cmp nat_cmp id next ≡ b
    → cond b (Some n) (fin.get live id) ≡ Some m → (0 < id) × (id < next + 1)
by_key live next id n m true h key is = let same : id ≡ next = key_of id next key in (omega (arith, h.first, same), omega (arith, same))
by_key live next id n m false h key is = let old = h.within id m is in (old.0, omega (arith, old.1))

pub numbered_more : (live : Live) (next : ℕ) (n : NormalConstraint) → AreNumbered live next → next < id_limit → AreNumbered (fin.insert live next n) (next + 1)
numbered_more live next n h room = record {
  first = omega arith;
  last = omega (arith, room);
  within = λ id m is. by_key live next id n m (eq_by_cmp nat_cmp id next) h refl (sym (fin.get-insert nat_cmp_total live next n id) ∙ is);
}

-- the next id is free, and so is every one behind it
pub next_free : (live : Live) (next id : ℕ) → AreNumbered live next → next ≤ id → fin.get live id ≡ None
next_free live next id h above = by (fin.get live id) refl
  where
    by : (o : Option NormalConstraint) → fin.get live id ≡ o → o ≡ None
    by None is = refl
    by (Some n) is = let low = (h.within id n is).1 in absurd (omega (arith, above, low))

-- fewer constraints
of_removed : (b : Bool) (rest : Option NormalConstraint) (m : NormalConstraint) → cond b None rest ≡ Some m → rest ≡ Some m
of_removed true rest m is = absurd (cc)
of_removed false rest m is = is

pub numbered_less : (live : Live) (next id : ℕ) → AreNumbered live next → AreNumbered (fin.remove live id) next
numbered_less live next id h = record {
  first = h.first;
  last = h.last;
  within = λ k m is. h.within k m (of_removed (eq_by_cmp nat_cmp k id) (fin.get live k) m (sym (fin.get-remove nat_cmp_total live id k) ∙ is));
}

pub numbered_up_to : (live : Live) (next end : ℕ) → AreNumbered live next → AreNumbered (up_to end live) next
numbered_up_to live next end h = record {
  first = h.first;
  last = h.last;
  within = λ k m is. h.within k m (within_up_to live end k m is).1;
}

-- no constraint, and those of a list
pub numbered_none : AreNumbered fin.empty 1
numbered_none = record {
  first = omega arith;
  last = omega arith;
  within = λ id n is. let none : None ≡ Some n = sym (fin.get-empty nat_cmp id) ∙ is in absurd (some_none n none);
}
  where
    some_none : (n : NormalConstraint) → ◌≡◌ {A = Option NormalConstraint} None (Some n) → ⊥
    some_none n e = cc

-- the constraints of a list
pub numbered_list : (ns : List NormalConstraint) → length ns < id_limit → AreNumbered (state_of ns).live (state_of ns).next
numbered_list ns few = record {
  first = omega arith;
  last = omega (arith, few);
  within = λ id n is. let h = listed_within ns id n is in (omega (arith, h.0), omega (arith, h.1));
}

-- the ids of a file
pub numbered_start : (p : Opb) (s : State) → IsWithin p → IsStart p s → AreNumbered s.live s.next
numbered_start p s within (ns, forms, is) =
    let few : length ns < id_limit = omega (arith, all_count p.constraints ns forms, few_ids p.constraints, within.count) in
    subst (λ t. AreNumbered t.live t.next) (sym is) (numbered_list ns few)

-- the ids after a step
added : (s t : State) (n : NormalConstraint) → AreNumbered s.live s.next → Adds n s t → AreNumbered t.live t.next
added s t n h (room, is) = subst (λ u. AreNumbered u.live u.next) (sym is) (numbered_more s.live s.next n h room)

deleted : (s t : State) (ids : List ℤ) → AreNumbered s.live s.next → LegalDel s ids t → AreNumbered t.live t.next
deleted s t [] h is = subst (λ u. AreNumbered u.live u.next) (sym is) h
deleted s t (id ∷ ids) h (live, legal) = deleted (without (id_of s.next id) s) t ids (numbered_less s.live s.next (id_of s.next id) h) legal

with_id : (s t : State) (n : NormalConstraint) (k : Block) → AreNumbered s.live s.next → HasRoom s → t ≡ with_block k n s → AreNumbered t.live t.next
with_id s t n k h room is = subst (λ u. AreNumbered u.live u.next) (sym is) (numbered_more s.live s.next n h room)

ended : (p : Opb) (s t : State) (k : Block) (o : Option ℕ) → AreNumbered s.live s.next → EndsOpen p s k o t → AreNumbered t.live t.next
ended p s t k (Some goal) h (shown, is) = subst (λ u. AreNumbered u.live u.next) (sym is) (numbered_up_to s.live s.next goal h)
ended p s t k None h ends =
    subst (λ u. AreNumbered u.live u.next) (sym ends.becomes)
    (numbered_more (up_to k.first s.live) s.next k.constraint (numbered_up_to s.live s.next k.first h) ends.room)

pub numbered_step : (p : Opb) (s : State) (step : Step) (t : State) → AreNumbered s.live s.next → Legal p s step t → AreNumbered t.live t.next
numbered_step p s (steps.Pol items) t h (n, value, adds) = added s t n h adds
numbered_step p s (steps.Rup c) t h (n, admitted, shown, adds) = added s t n h adds
numbered_step p s (steps.Red c images) t h (outside, (n, m, admitted, redundant, adds)) = added s t n h adds
numbered_step p s (steps.Sol assigned) t h (outside, (g, logs, is)) = subst (λ u. AreNumbered u.live u.next) (sym is) h
numbered_step p s (steps.Soli assigned) t h (outside, (objective, g, n, improves, is)) =
    subst (λ u. AreNumbered u.live u.next) (sym is) (numbered_more s.live s.next n h improves.room)
numbered_step p s (steps.Del ids) t h (outside, legal) = deleted s t ids h legal
numbered_step p s (steps.RedBegin c images) t h (outside, (n, m, admitted, negated, fits, room, is)) =
    with_id s t m (new_block n images s.next) h room is
numbered_step p s (steps.Goal name) t h (k, r, m, some, none, asks, negated, fits, room, is) = with_id s t m (with_goal s.next name k) h room is
numbered_step p s steps.End t h (k, some, ends) = ended p s t k k.goal h ends
