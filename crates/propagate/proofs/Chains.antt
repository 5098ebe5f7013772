-- Chains: what they share, and what an assignment makes of them.
use Rattle.std.proofs.Common.{◌≡◌, ℕ, Bool, true, false, not, List, [], ◌∷◌, ◌++◌, Any, Contains, All, refl, sym, ap, subst, inl, inr, ◌⊎◌, append_assoc, arith}
use Rattle.std.proofs.lemmas.Int.{ints}
use Rattle.std.proofs.lemmas.List.{append-nil}
use Rattle.std.proofs.lemmas.List.Elements.{All-contains, All-nil, All-cons}
use Rattle.linear.specs.declared.term.Lit.{Lit}
use Rattle.linear.specs.Valuation.{Valuation, literal_true}
use Rattle.normal_form.specs.Normal.{NormalConstraint, Holds}
use Rattle.linear.specs.Literal.{opposite}
use Rattle.propagate.specs.Literals.{among, lists, MakesTrue}
use Rattle.propagate.specs.Slack.{not_false, IsFalsified, IsForced}
use Rattle.propagate.specs.Chain.{IsChain, LeadsToConflict, IsFixpoint}
use Rattle.normal_form.proofs.SetSums.{Within, sum_within, sum_apart}
use Rattle.propagate.proofs.Assignments.{among_pushed, fewer_not_false, true_not_false}

-- one constraint that has something has it of another that the same one has
pub another : (P Q : NormalConstraint → Type 0) (ns : List NormalConstraint) (a : Any P ns) → (P a.1 → Q a.1) → Any Q ns
another P Q ns a f = (a.0, a.1, a.2, a.3, f a.4)

pub more_constraints : (P : NormalConstraint → Type 0) (ns ms : List NormalConstraint) → ((n : NormalConstraint) → Contains ns n → Contains ms n) → Any P ns → Any P ms
more_constraints P ns ms h a = let c = h a.1 (a.0, a.2, a.3) in (c.0, a.1, c.1, c.2, a.4)

-- negative slack stays negative
pub falsified_more : (n : NormalConstraint) (xs ys : List Lit) → Within (among xs) (among ys) → IsFalsified xs n → IsFalsified ys n
falsified_more n xs ys h b = omega (arith, ints, b, sum_within (not_false ys) (not_false xs) (fewer_not_false xs ys h) n.terms)

kept : (n : NormalConstraint) (xs ys : List Lit) (l : Lit) → Within (among xs) (among ys) → IsForced xs l n → (b d : Bool) → lists ys l ≡ b → lists ys (opposite l) ≡ d → (lists ys l ≡ true) ⊎ (IsForced ys l n ⊎ IsFalsified ys n)
kept n xs ys l h f true d e k = inl e
kept n xs ys l h f false false e k =
    inr (inl (record {
      unset = e;
      opposite_unset = k;
      occurs = f.occurs;
      above = omega (arith, ints, f.above, sum_within (not_false ys) (not_false xs) (fewer_not_false xs ys h) n.terms);
    }))
kept n xs ys l h f false true e k =
    inr (inr (omega (arith, ints, f.above, sum_apart (not_false ys) (not_false xs) (l.var.0) l.negated (fewer_not_false xs ys h) (ap not k) (ap not f.opposite_unset) n.terms)))

-- what is forced under an assignment is in a longer one, or still forced, or the constraint is falsified there
pub forced_more : (n : NormalConstraint) (xs ys : List Lit) (l : Lit) → Within (among xs) (among ys) → IsForced xs l n → (lists ys l ≡ true) ⊎ (IsForced ys l n ⊎ IsFalsified ys n)
forced_more n xs ys l h f = kept n xs ys l h f (lists ys l) (lists ys (opposite l)) refl refl

-- the same assignment, written in two ways
pub along : (xs ys : List Lit) → xs ≡ ys → (set : ℕ → Bool → Bool) → Within (among xs) set → Within (among ys) set
along xs ys e set h = subst (λ (zs : List Lit). Within (among zs) set) e h

-- no chain leaves a fixpoint
pub chain_stays : (ns : List NormalConstraint) (ms : List Lit) → IsFixpoint ns ms → (given chain : List Lit) → Within (among given) (among ms) → IsChain ns given chain → Within (among (given ++ chain)) (among ms)
chain_stays ns ms q given [] h c = along given (given ++ []) (sym (append-nil given)) (among ms) h
chain_stays ns ms q given (l ∷ ls) h c =
    let a = c.0 in
    let here : lists ms l ≡ true = elim (forced_more a.1 given ms l h a.4) [
      | inl m ↦ m
      | inr (inl f) ↦ absurd (q.nothing_forced l (another (IsForced given l) (IsForced ms l) ns a (λ _. f)))
      | inr (inr b) ↦ absurd (q.no_conflict (another (IsForced given l) (IsFalsified ms) ns a (λ _. b)))
    ] in
    along ((given ++ l ∷ []) ++ ls) (given ++ l ∷ ls) (append_assoc given (l ∷ []) ls) (among ms)
    (chain_stays ns ms q (given ++ l ∷ []) ls (among_pushed (among ms) given l h here) c.1)

-- nor does one that begins within it lead to a conflict
pub no_conflict_from : (ns : List NormalConstraint) (given ms : List Lit) → IsFixpoint ns ms → Within (among given) (among ms) → LeadsToConflict ns given → ⊥
no_conflict_from ns given ms q h r =
    q.no_conflict (another (IsFalsified (given ++ r.0)) (IsFalsified ms) ns r.2 (falsified_more r.2.1 (given ++ r.0) ms (chain_stays ns ms q given r.0 h r.1)))

-- a chain of fewer constraints is one of more
pub chain_of_more : (ns ms : List NormalConstraint) → ((n : NormalConstraint) → Contains ns n → Contains ms n) → (given chain : List Lit) → IsChain ns given chain → IsChain ms given chain
chain_of_more ns ms h given [] c = tt
chain_of_more ns ms h given (l ∷ ls) c = (more_constraints (IsForced given l) ns ms h c.0, chain_of_more ns ms h (given ++ l ∷ []) ls c.1)

pub conflict_of_more : (ns ms : List NormalConstraint) → ((n : NormalConstraint) → Contains ns n → Contains ms n) → (given : List Lit) → LeadsToConflict ns given → LeadsToConflict ms given
conflict_of_more ns ms h given r = (r.0, chain_of_more ns ms h given r.0 r.1, more_constraints (IsFalsified (given ++ r.0)) ns ms h r.2)

-- an assignment that meets a constraint and makes an assignment true makes true what is forced
held_true : (a : Valuation) (n : NormalConstraint) (given : List Lit) (l : Lit) → Holds a n → Within (among given) (literal_true a) → IsForced given l n → (b : Bool) → literal_true a (l.var.0) l.negated ≡ b → literal_true a (l.var.0) l.negated ≡ true
held_true a n given l holds h f true e = e
held_true a n given l holds h f false e =
    absurd (omega (arith, ints, holds, f.above, sum_apart (literal_true a) (not_false given) (l.var.0) l.negated (true_not_false a given h) e (ap not f.opposite_unset) n.terms))

pub forced_true : (a : Valuation) (n : NormalConstraint) (given : List Lit) (l : Lit) → Holds a n → Within (among given) (literal_true a) → IsForced given l n → MakesTrue a l
forced_true a n given l holds h f = held_true a n given l holds h f (literal_true a (l.var.0) l.negated) refl

-- and breaks no constraint
pub never_falsified : (a : Valuation) (n : NormalConstraint) (given : List Lit) → Holds a n → Within (among given) (literal_true a) → IsFalsified given n → ⊥
never_falsified a n given holds h b = omega (arith, ints, holds, b, sum_within (literal_true a) (not_false given) (true_not_false a given h) n.terms)

one_holds : (a : Valuation) (ns : List NormalConstraint) (P : NormalConstraint → Type 0) → All (Holds a) ns → (s : Any P ns) → Holds a s.1
one_holds a ns P holds s = All-contains (Holds a) ns s.1 holds (s.0, s.2, s.3)

pub chain_true : (a : Valuation) (ns : List NormalConstraint) → All (Holds a) ns → (given chain : List Lit) → Within (among given) (literal_true a) → IsChain ns given chain → Within (among (given ++ chain)) (literal_true a)
chain_true a ns holds given [] h c = along given (given ++ []) (sym (append-nil given)) (literal_true a) h
chain_true a ns holds given (l ∷ ls) h c =
    let here = forced_true a c.0.1 given l (one_holds a ns (IsForced given l) holds c.0) h c.0.4 in
    along ((given ++ l ∷ []) ++ ls) (given ++ l ∷ ls) (append_assoc given (l ∷ []) ls) (literal_true a)
    (chain_true a ns holds (given ++ l ∷ []) ls (among_pushed (literal_true a) given l h here) c.1)

pub chain_all_true : (a : Valuation) (ns : List NormalConstraint) → All (Holds a) ns → (given chain : List Lit) → Within (among given) (literal_true a) → IsChain ns given chain → All (MakesTrue a) chain
chain_all_true a ns holds given [] h c = All-nil (MakesTrue a)
chain_all_true a ns holds given (l ∷ ls) h c =
    let here = forced_true a c.0.1 given l (one_holds a ns (IsForced given l) holds c.0) h c.0.4 in
    All-cons (MakesTrue a) l ls here (chain_all_true a ns holds (given ++ l ∷ []) ls (among_pushed (literal_true a) given l h here) c.1)

pub no_conflict_true : (a : Valuation) (ns : List NormalConstraint) → All (Holds a) ns → (given : List Lit) → Within (among given) (literal_true a) → LeadsToConflict ns given → ⊥
no_conflict_true a ns holds given h r =
    never_falsified a r.2.1 (given ++ r.0) (one_holds a ns (IsFalsified (given ++ r.0)) holds r.2) (chain_true a ns holds given r.0 h r.1) r.2.4
