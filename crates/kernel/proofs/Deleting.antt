-- Deletions, one id after another: to judge each id with those before it gone is to ask that it is live now, and not among them.
use Rattle.std.proofs.Common.{◌≡◌, ℕ, zero, suc, ◌+◌, ◌<◌, ℤ, Bool, true, false, cond, ◌||◌, List, [], ◌∷◌, ◌++◌, IsSome, Option, None, length, get_or, take, drop, refl, sym, ap, subst, ◌∙◌, arith}
use Rattle.std.proofs.lemmas.Cmp.{nat_cmp_total}
use Rattle.std.proofs.lemmas.List.{take_more}
use Rattle.std.specs.FinMap as map
use Rattle.std.specs.FinSet as set
use Rattle.std.specs.Ordering.{nat_cmp, eq_by_cmp}
use Rattle.normal_form.specs.Normal.{NormalConstraint}
use Rattle.proof_rules.specs.declared.fault.StepFault.TheVariants.{DeadId}
use Rattle.proof_rules.specs.Fault.{IsDelFault}
use Rattle.proof_rules.specs.Legal.{LegalDel, without}
use Rattle.proof_rules.specs.State.{State, IsOutside, constraint_of, id_of}
use Rattle.proof_rules.proofs.NotLegal.{first_ids, one_deletion}
use Rattle.kernel.specs.Deletion.{IsWithout}

either_gone : (a b : Bool) (o : Option NormalConstraint) → cond a None (cond b None o) ≡ cond (a || b) None o
either_gone true b o = refl
either_gone false b o = refl

pub none_gone : (s : State) → IsWithout set.empty s s
none_gone s = record {
  live = λ id. sym (ap (λ b. cond b None (map.get s.live id)) (set.contains-empty nat_cmp id));
  next = refl;
}

pub one_gone : (gone : set.FinSet nat_cmp) (s t : State) (id : ℕ) → IsWithout gone s t → IsWithout (set.insert gone id) s (without id t)
one_gone gone s t id h = record {
  live = λ k.
      map.get-remove nat_cmp_total t.live id k
      ∙ ap (λ o. cond (eq_by_cmp nat_cmp k id) None o) (h.live k)
      ∙ either_gone (eq_by_cmp nat_cmp k id) (set.contains gone k) (map.get s.live k)
      ∙ sym (ap (λ b. cond b None (map.get s.live k)) (set.contains-insert nat_cmp_total gone id k));
  next = h.next;
}

-- a deletion opens no block
pub del_outside : (s t : State) (ids : List ℤ) → LegalDel s ids t → IsOutside s → IsOutside t
del_outside s t [] is outside = subst IsOutside (sym is) outside
del_outside s t (id ∷ ids) (live, rest) outside = del_outside (without (id_of s.next id) s) t ids rest outside

-- one more id
del_more : (s t : State) (ids : List ℤ) (id : ℤ) → LegalDel s ids t → IsSome (constraint_of t id) → LegalDel s (ids ++ id ∷ []) (without (id_of t.next id) t)
del_more s t [] id is live = (subst (λ (x : State). IsSome (constraint_of x id)) is live, ap (λ (x : State). without (id_of x.next id) x) is)
del_more s t (x ∷ xs) id (here, rest) live = (here, del_more (without (id_of s.next x) s) t xs id rest live)

pub del_take : (s t : State) (all : List ℤ) (i : ℕ) (id d : ℤ) → i < length all → id ≡ get_or all i d → LegalDel s (take i all) t → IsSome (constraint_of t id)
    → LegalDel s (take (i + 1) all) (without (id_of t.next id) t)
del_take s t all i id d below is legal live =
    let ids : take i all ++ id ∷ [] ≡ take (i + 1) all = ap (λ x. take i all ++ x ∷ []) is ∙ sym (take_more all i d below) in
    subst (λ xs. LegalDel s xs (without (id_of t.next id) t)) ids (del_more s t (take i all) id legal live)

split_at : (all : List ℤ) (i : ℕ) (d : ℤ) → i < length all → all ≡ take i all ++ get_or all i d ∷ drop (i + 1) all
split_at [] i d h = absurd (omega (arith, h))
split_at (x ∷ xs) zero d h = refl
split_at (x ∷ xs) (suc i) d h =
    let next : suc (i + 1) ≡ suc i + 1 = omega arith in
    ap (λ rest. x ∷ rest) (split_at xs i d (omega (arith, h))) ∙ ap (λ k. x ∷ take i xs ++ get_or xs i d ∷ drop k (x ∷ xs)) next

split_with : (all : List ℤ) (i : ℕ) (id d : ℤ) → i < length all → id ≡ get_or all i d → all ≡ take i all ++ id ∷ drop (i + 1) all
split_with all i id d below is = split_at all i d below ∙ ap (λ x. take i all ++ x ∷ drop (i + 1) all) (sym is)

-- an id that is dead behind those before it is the fault of all
pub del_stops : (s t : State) (all : List ℤ) (i : ℕ) (id d : ℤ) → i < length all → id ≡ get_or all i d → LegalDel s (take i all) t
    → constraint_of t id ≡ None → IsDelFault s all DeadId
del_stops s t all i id d below is legal dead = (take i all, id, drop (i + 1) all, t, split_with all i id d below is, legal, dead)

-- where all are to be deleted, the next one is live behind those before it
pub del_next : (s t u : State) (all : List ℤ) (i : ℕ) (id d : ℤ) → i < length all → id ≡ get_or all i d → LegalDel s all u → LegalDel s (take i all) t
    → IsSome (constraint_of t id)
del_next s t u all i id d below is whole legal =
    let r = first_ids s u (take i all) (id ∷ drop (i + 1) all) (subst (λ xs. LegalDel s xs u) (split_with all i id d below is) whole) in
    subst (λ (x : State). IsSome (constraint_of x id)) (one_deletion s r.0 t (take i all) r.1 legal) r.2.0
