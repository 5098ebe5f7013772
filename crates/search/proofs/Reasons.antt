-- The ids in whose constraints literals of a trail are forced, gathered.
use Rattle.std.proofs.Common.{◌≡◌, ℕ, ◌+◌, ◌<◌, List, [], ◌∷◌, Option, None, Some, All, IfSome, take, get_or, length, subst, sym}
use Rattle.std.proofs.lemmas.List.{take_more}
use Rattle.std.proofs.lemmas.List.Elements.{All-append, All-cons, All-nil}
use Rattle.std.specs.FinSet as set
use Rattle.propagate.specs.Ids.{IdSet, HasId}
use Rattle.propagate.proofs.Gathered.{inserted_here, inserted_keeps}
use Rattle.analysis.specs.declared.entry.Entry.{Entry}

abbrev pub AreReasonsIn : IdSet → List Entry → Type 0
AreReasonsIn ids es = All (λ e. IfSome e.reason (HasId ids)) es

still : (a b : IdSet) → ((k : ℕ) → HasId a k → HasId b k) → (o : Option ℕ) → IfSome o (HasId a) → IfSome o (HasId b)
still a b keeps None h = h
still a b keeps (Some k) h = keeps k h

one_more : (ids new : IdSet) (es : List Entry) (i : ℕ) (d : Entry) → i < length es → AreReasonsIn ids (take i es) → ((k : ℕ) → HasId ids k → HasId new k) → IfSome (get_or es i d).reason (HasId new) → AreReasonsIn new (take (i + 1) es)
one_more ids new es i d h all keeps has =
    subst (AreReasonsIn new) (sym (take_more es i d h))
    (All-append (λ e. IfSome e.reason (HasId new)) (take i es) (get_or es i d ∷ []) (λ j x l. still ids new keeps (get_or (take i es) j x).reason (all j x l))
    (All-cons (λ e. IfSome e.reason (HasId new)) (get_or es i d) [] has (All-nil (λ e. IfSome e.reason (HasId new)))))

-- the entry has no reason
pub same_ids : (ids : IdSet) (es : List Entry) (i : ℕ) (d : Entry) → i < length es → AreReasonsIn ids (take i es) → (get_or es i d).reason ≡ None → AreReasonsIn ids (take (i + 1) es)
same_ids ids es i d h all none = one_more ids ids es i d h all (λ k has. has) (subst (λ o. IfSome o (HasId ids)) (sym none) tt)

-- its reason is put in
pub one_id_more : (ids new : IdSet) (es : List Entry) (i : ℕ) (d : Entry) (id : ℕ) → i < length es → AreReasonsIn ids (take i es) → (get_or es i d).reason ≡ Some id → new ≡ set.insert ids id → AreReasonsIn new (take (i + 1) es)
one_id_more ids new es i d id h all is put =
    subst (λ s. AreReasonsIn s (take (i + 1) es)) (sym put)
    (one_more ids (set.insert ids id) es i d h all (inserted_keeps ids id) (subst (λ o. IfSome o (HasId (set.insert ids id))) (sym is) (inserted_here ids id)))
