-- More literals that stand: those that contradict nothing come behind the others, unless they stand already.
use Rattle.std.proofs.Common.{◌≡◌, ℕ, ◌+◌, ◌<◌, Bool, true, false, not, List, [], ◌∷◌, ◌++◌, length, get_or, map, take, refl, sym, ap, subst, ◌∙◌, append-nil, append_assoc}
use Rattle.std.proofs.lemmas.List.{map-append, take_more}
use Rattle.linear.specs.declared.term.Lit.{Lit}
use Rattle.linear.specs.Literal.{opposite}
use Rattle.propagate.specs.Literals.{IsConsistent, SameLiterals, among, lists}
use Rattle.propagate.proofs.Assignments.{among_head, among_left, among_right}
use Rattle.propagate.proofs.SameAssignments.{same_pushed}
use Rattle.propagate.proofs.WalkEnds.{listed_already, same_consistent}
use Rattle.search.specs.Standing.{Assigned, HasMore}

pub consistent_left : (xs ys : List Lit) → IsConsistent (xs ++ ys) → IsConsistent xs
consistent_left xs ys h (l, here, there) = h (l, among_left xs ys (l.var.0) l.negated here, among_left xs ys (l.var.0) (not l.negated) there)

by_sign : (xs : List Lit) (v : ℕ) (b s : Bool) → among xs v b ≡ false → among xs v (not b) ≡ false → among xs v s ≡ false
by_sign xs v true true h k = h
by_sign xs v true false h k = k
by_sign xs v false true h k = k
by_sign xs v false false h k = h

-- a literal whose variable stands, and that contradicts nothing, stands itself
pub stands_already : (xs : List Lit) (l : Lit) → (((s : Bool) → among xs (l.var.0) s ≡ false) → ⊥) → IsConsistent (xs ++ l ∷ []) → SameLiterals xs (xs ++ l ∷ [])
stands_already xs l some consistent = listed_already xs l (by (lists xs l) (lists xs (opposite l)) refl refl)
  where
    by : (b d : Bool) → lists xs l ≡ b → lists xs (opposite l) ≡ d → lists xs l ≡ true
    by true d e f = e
    by false true e f = absurd (consistent (l, among_right xs (l ∷ []) (l.var.0) l.negated (among_head l []), among_left xs (l ∷ []) (l.var.0) (not l.negated) f))
    by false false e f = absurd (some (λ s. by_sign xs (l.var.0) l.negated s e f))

-- none more
pub none_more : (s : Assigned) → HasMore s s []
none_more s _ v negated = ap (λ (xs : List Lit). among xs v negated) (sym (append-nil s.literals))

-- some more, and then others
pub and_more : (old now new : Assigned) (ms ns : List Lit) → HasMore old now ms → HasMore now new ns → HasMore old new (ms ++ ns)
and_more old now new ms ns first then consistent =
    let xs : List Lit = old.literals in
    let all : IsConsistent ((xs ++ ms) ++ ns) = subst IsConsistent (sym (append_assoc xs ms ns)) consistent in
    let more = same_pushed now.literals (xs ++ ms) ns (first (consistent_left (xs ++ ms) ns all)) in
    let last = then (same_consistent (now.literals ++ ns) ((xs ++ ms) ++ ns) more all) in
    λ v s. last v s ∙ more v s ∙ ap (λ (ys : List Lit). among ys v s) (append_assoc xs ms ns)

-- one more of those that are told
pub one_more : {B : Type 0} (old now new : Assigned) (ps : List (Lit × B)) (i : ℕ) (d : Lit × B) (l : Lit) → i < length ps → (get_or ps i d).0 ≡ l → HasMore old now (map (λ p. p.0) (take i ps)) → HasMore now new (l ∷ [])
    → HasMore old new (map (λ p. p.0) (take (i + 1) ps))
one_more old now new ps i d l low is first then =
    let told : map (λ p. p.0) (take i ps) ++ l ∷ [] ≡ map (λ p. p.0) (take (i + 1) ps) =
    ap (λ (m : Lit). map (λ p. p.0) (take i ps) ++ m ∷ []) (sym is) ∙ sym (map-append (λ p. p.0) (take i ps) (get_or ps i d ∷ [])) ∙ ap (map (λ p. p.0)) (sym (take_more ps i d low)) in
    subst (HasMore old new) told (and_more old now new (map (λ p. p.0) (take i ps)) (l ∷ []) first then)
