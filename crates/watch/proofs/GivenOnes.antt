-- Given literals, one after another, and where a walk over them ends.
use Rattle.std.proofs.Common.{◌≡◌, ℕ, ◌+◌, ◌<◌, inl, inr, Bool, true, false, Option, None, Some, is_some, MatchOption, not, List, [], ◌∷◌, ◌++◌, length, get_or, map, take, refl, ap, sym, subst, ◌∙◌, append-nil, append_assoc, length-append, arith}
use Rattle.std.proofs.lemmas.Bool.{false≢true}
use Rattle.std.proofs.lemmas.List.{take_more}
use Rattle.std.proofs.Math.Seq.{take-append_seam}
use Rattle.linear.specs.declared.term.Lit.{Lit}
use Rattle.normal_form.specs.Normal.{NormalConstraint}
use Rattle.normal_form.proofs.SetSums.{Within}
use Rattle.propagate.specs.Chain.{IsChain, IsClosure, IsImpossible, IsRefuted, IsFixpoint}
use Rattle.linear.specs.Literal.{opposite}
use Rattle.propagate.specs.Literals.{among, lists, IsConsistent, IsOnce}
use Rattle.propagate.specs.Walk.{IsFalsifiedAt}
use Rattle.propagate.proofs.ChainEnds.{by_set}
use Rattle.propagate.proofs.Chains.{no_conflict_from}
use Rattle.propagate.proofs.Closure.{more_literals}
use Rattle.propagate.proofs.Consistency.{only_here}
use Rattle.propagate.proofs.Assignments.{among_cases, among_left}
use Rattle.propagate.proofs.ReasonedChains.{conflict_at}
use Rattle.propagate.proofs.SearchEnds.{one_end_or_conflict}
use Rattle.watch.specs.Givens.{HasAll, IsGiven, IsWholeEnd, Overlies}
use Rattle.ledger.specs.Ledgers.{State, shown}
use Rattle.watch.specs.Looking.{GoesOn, IsContinued}
use Rattle.watch.proofs.KeptWalk.{all_within, closure_kept, conflict_kept}

-- nothing is added, or one literal
pub given_none : (s : State) (given : List Lit) → IsGiven s s given
given_none s given = record {
  slots = refl;
  variables = refl;
  added = [];
  assigned = sym (append-nil s.assigned);
  reasons = ([], sym (append-nil s.reasons), refl);
  within = λ v s e. absurd (false≢true e);
}

pub given_one : (s t : State) (l : Lit) (r : Option ℕ) → t.slots ≡ s.slots → t.variables ≡ s.variables → t.assigned ≡ s.assigned ++ l ∷ [] → t.reasons ≡ s.reasons ++ r ∷ [] → IsGiven s t (l ∷ [])
given_one s t l r a b c d = record { slots = a; variables = b; added = l ∷ []; assigned = c; reasons = (r ∷ [], d, refl); within = λ v s e. e }

-- one after another
pub given_both : (a b c : State) (xs ys zs : List Lit) → IsGiven a b xs → IsGiven b c ys → Within (among xs) (among zs) → Within (among ys) (among zs) → IsGiven a c zs
given_both a b c xs ys zs g h left right = record {
  slots = h.slots ∙ g.slots;
  variables = h.variables ∙ g.variables;
  added = g.added ++ h.added;
  assigned = h.assigned ∙ ap (λ (ls : List Lit). ls ++ h.added) g.assigned ∙ append_assoc a.assigned g.added h.added;
  reasons = (
    g.reasons.0 ++ h.reasons.0,
    h.reasons.1 ∙ ap (λ (rs : List (Option ℕ)). rs ++ h.reasons.0) g.reasons.1 ∙ append_assoc a.reasons g.reasons.0 h.reasons.0,
    omega (arith, length-append g.reasons.0 h.reasons.0, length-append g.added h.added, g.reasons.2, h.reasons.2),
  );
  within = λ v s e. elim (among_cases g.added h.added v s e) [
    | inl x ↦ left v s (g.within v s x)
    | inr x ↦ right v s (h.within v s x)
  ];
}

pub one_within : (xs : List Lit) (l : Lit) → lists xs l ≡ true → Within (among (l ∷ [])) (among xs)
one_within xs l h v s e = let here = only_here l v s e in cc

-- what is given so far is there
pub more_given : (given : List Lit) (k : ℕ) (d : Lit) (old new : State) (l : Lit) → k < length given → l ≡ get_or given k d → IsGiven old new (l ∷ []) → HasAll (take k given) old.assigned → lists new.assigned l ≡ true → HasAll (take (k + 1) given) new.assigned
more_given given k d old new l low is g all here m e =
    let next : take (k + 1) given ≡ take k given ++ l ∷ [] = take_more given k d low ∙ ap (λ (x : Lit). take k given ++ x ∷ []) (sym is) in
    let split : among (take k given ++ l ∷ []) (m.var.0) m.negated ≡ true = ap (λ (xs : List Lit). among xs (m.var.0) m.negated) (sym next) ∙ e in
    elim (among_cases (take k given) (l ∷ []) (m.var.0) m.negated split) [
      | inl x ↦ ap (λ (xs : List Lit). lists xs m) g.assigned ∙ among_left old.assigned g.added (m.var.0) m.negated (all m x)
      | inr x ↦ one_within new.assigned l here (m.var.0) m.negated x
    ]

-- no chain has the opposite of what is given
twice : (b : Bool) → not (not b) ≡ b
twice true = refl
twice false = refl

pub never_against : (ns : List NormalConstraint) (given chain : List Lit) (l : Lit) → IsChain ns given chain → lists given l ≡ true → lists chain (opposite l) ≡ true → ⊥
never_against ns given [] l c h e = false≢true e
never_against ns given (m ∷ ms) l c h e = elim (among_cases (m ∷ []) ms (l.var.0) (opposite l).negated e) [
  | inl here ↦
      let same = only_here m (l.var.0) (opposite l).negated here in
      let turned : (opposite m).negated ≡ l.negated = ap not (sym same.1) ∙ twice l.negated in
      let listed : lists given (opposite m) ≡ true = ap (λ (v : ℕ). among given v (opposite m).negated) (sym same.0) ∙ ap (λ (b : Bool). among given (l.var.0) b) turned ∙ h in
      false≢true (sym c.0.4.opposite_unset ∙ listed)
  | inr later ↦ never_against ns (given ++ m ∷ []) ms l c.1 (among_left given (m ∷ []) (l.var.0) l.negated h) later
]

-- a given literal whose opposite is there cannot be
pub clashed : (ns : List NormalConstraint) (given root added : List Lit) (l : Lit) → IsContinued ns [] root → Within (among added) (among given) → lists given l ≡ true → lists (root ++ added) (opposite l) ≡ true → IsImpossible ns given
clashed ns given root added l r a h e = elim (one_end_or_conflict ns given) [
  | inl c ↦ inr c
  | inr end ↦
      let given_in : Within (among given) (among end.0) = by_set given end.0 (λ m k. (end.2 m).1 (inl k)) in
      let inside : lists end.0 (opposite l) ≡ true = all_within ns given root added (root ++ added) end.0 end.1 given_in r a ([], tt, sym (append-nil (root ++ added))) (l.var.0) (opposite l).negated e in
      elim ((end.2 (opposite l)).0 inside) [
        | inl both ↦ inl (l, h, both)
        | inr chain ↦ absurd (never_against ns given chain.0 l chain.1 h chain.2)
      ]
]

-- where the walk over what is given ends in a falsified constraint, and where it ends well
pub ends_impossible : (ns : List NormalConstraint) (given root added assigned : List Lit) (place : ℕ) → IsContinued ns [] root → Within (among added) (among given) → IsContinued ns (root ++ added) assigned → IsFalsifiedAt ns assigned place → IsImpossible ns given
ends_impossible ns given root added assigned place r a g b = inr (conflict_kept ns given root added assigned r a g (conflict_at ns assigned place b))

pub ends_well : (ns : List NormalConstraint) (given root added assigned : List Lit) → IsContinued ns [] root → Within (among added) (among given) → IsContinued ns (root ++ added) assigned → IsFixpoint ns assigned → HasAll given (root ++ added) → IsWholeEnd ns given assigned
ends_well ns given root added assigned r a g q h =
    let has : HasAll given assigned = λ l e. ap (λ (xs : List Lit). lists xs l) g.2 ∙ among_left (root ++ added) g.0 (l.var.0) l.negated (h l e) in
    record { fixpoint = q; has_given = has; closure = closure_kept ns given root added assigned r a g q (by_set given assigned has) }

-- all of it lies over what was there
pub overlies : (old new : State) (given : List Lit) (as_many : length old.reasons ≡ length old.assigned) → IsGiven old new given → Overlies old new
overlies old new given as_many g = record {
  slots = g.slots;
  literals = ap (λ (xs : List Lit). take (length old.assigned) xs) g.assigned ∙ take-append_seam old.assigned g.added;
  long = omega (arith, ap (length {A = Lit}) g.assigned, length-append old.assigned g.added);
  reasons = ap (λ (rs : List (Option ℕ)). take (length old.assigned) rs) g.reasons.1 ∙ ap (λ (n : ℕ). take n (old.reasons ++ g.reasons.0)) (sym as_many) ∙ take-append_seam old.reasons g.reasons.0;
}

pub overlies_walked : (old mid new : State) (given : List Lit) (as_many : length old.reasons ≡ length old.assigned) → IsGiven old mid given → GoesOn mid new → Overlies old new
overlies_walked old mid new given as_many g h =
    let assigned : new.assigned ≡ old.assigned ++ (g.added ++ h.assigned.0) = h.assigned.2 ∙ ap (λ (xs : List Lit). xs ++ h.assigned.0) g.assigned ∙ append_assoc old.assigned g.added h.assigned.0 in
    let more : List (Option ℕ) = map Some h.reasons.0 in
    let reasons : new.reasons ≡ old.reasons ++ (g.reasons.0 ++ more) = h.reasons.1 ∙ ap (λ (rs : List (Option ℕ)). rs ++ more) g.reasons.1 ∙ append_assoc old.reasons g.reasons.0 more in
    record {
      slots = h.slots ∙ g.slots;
      literals = ap (λ (xs : List Lit). take (length old.assigned) xs) assigned ∙ take-append_seam old.assigned (g.added ++ h.assigned.0);
      long = omega (arith, ap (length {A = Lit}) assigned, length-append old.assigned (g.added ++ h.assigned.0));
      reasons = ap (λ (rs : List (Option ℕ)). take (length old.assigned) rs) reasons ∙ ap (λ (n : ℕ). take n (old.reasons ++ (g.reasons.0 ++ more))) (sym as_many) ∙ take-append_seam old.reasons (g.reasons.0 ++ more);
    }

yes_is : (b : Bool) → false ≡ not b → b ≡ true
yes_is true h = refl
yes_is false h = h

no_is : (b : Bool) → true ≡ not b → b ≡ true → ⊥
no_is true h e = false≢true (sym h)
no_is false h e = false≢true e

-- whether there is such an assignment, by where the walk over what is given ends
ended : (ns : List NormalConstraint) (given root added assigned : List Lit) (waiting : List ℕ) (r : Option ℕ) (b : Bool) → is_some r ≡ not b → IsContinued ns [] root → Within (among added) (among given) → IsContinued ns (root ++ added) assigned
    → MatchOption r ((waiting ≡ []) × IsFixpoint ns assigned) (IsFalsifiedAt ns assigned) → HasAll given (root ++ added)
    → (b ≡ true → IsWholeEnd ns given assigned) × ((b ≡ true → ⊥) → IsImpossible ns given)
ended ns given root added assigned waiting None b e r a g end h = (λ _. ends_well ns given root added assigned r a g end.1 h, λ none. absurd (none (yes_is b e)))
ended ns given root added assigned waiting (Some place) b e r a g end h = (λ yes'. absurd (no_is b e yes'), λ _. ends_impossible ns given root added assigned place r a g end)

pub through : (old mid new : State) (given : List Lit) (waiting : List ℕ) (r : Option ℕ) (b : Bool) → is_some r ≡ not b → IsContinued (shown old.slots) [] old.assigned → IsGiven old mid given → GoesOn mid new
    → MatchOption r ((waiting ≡ []) × IsFixpoint (shown mid.slots) new.assigned) (IsFalsifiedAt (shown mid.slots) new.assigned) → HasAll given mid.assigned
    → (b ≡ true → IsWholeEnd (shown old.slots) given new.assigned) × ((b ≡ true → ⊥) → IsImpossible (shown old.slots) given)
through old mid new given waiting r b e root g h end has =
    let ns : List NormalConstraint = shown old.slots in
    let goes : IsContinued ns (old.assigned ++ g.added) new.assigned = subst (λ (xs : List Lit). IsContinued ns xs new.assigned) g.assigned (subst (λ (os : List (Option NormalConstraint)). IsContinued (shown os) mid.assigned new.assigned) g.slots h.assigned) in
    let there : MatchOption r ((waiting ≡ []) × IsFixpoint ns new.assigned) (IsFalsifiedAt ns new.assigned) = subst (λ (os : List (Option NormalConstraint)). MatchOption r ((waiting ≡ []) × IsFixpoint (shown os) new.assigned) (IsFalsifiedAt (shown os) new.assigned)) g.slots end in
    ended ns given old.assigned g.added new.assigned waiting r b e root g.within goes there (subst (λ (xs : List Lit). HasAll given xs) g.assigned has)

pub all_given : (given assigned : List Lit) (r : Option Lit) (b : Bool) → b ≡ is_some r → b ≡ false → MatchOption r (HasAll given assigned) (λ l. (lists given l ≡ true) × (lists assigned (opposite l) ≡ true)) → HasAll given assigned
all_given given assigned None b e f end = end
all_given given assigned (Some l) b e f end = absurd (false≢true (sym f ∙ e))

pub one_clashes : (old mid : State) (given : List Lit) (r : Option Lit) (b : Bool) → b ≡ is_some r → b ≡ true → MatchOption r (HasAll given mid.assigned) (λ l. (lists given l ≡ true) × (lists mid.assigned (opposite l) ≡ true)) → IsContinued (shown old.slots) [] old.assigned → IsGiven old mid given → IsImpossible (shown old.slots) given
one_clashes old mid given None b e f end root g = absurd (false≢true (sym e ∙ f))
one_clashes old mid given (Some l) b e f end root g =
    clashed (shown old.slots) given old.assigned g.added l root g.within end.0 (ap (λ (xs : List Lit). lists xs (opposite l)) (sym g.assigned) ∙ end.1)

-- what is answered then
pub reach_of : (ns : List NormalConstraint) (given assigned closed : List Lit) → closed ≡ assigned → IsWholeEnd ns given assigned → IsOnce assigned → IsConsistent assigned → (IsImpossible ns given → ⊥) × IsClosure ns given closed × IsOnce closed
reach_of ns given assigned closed e w once consistent =
    let possible : IsImpossible ns given → ⊥ = λ i. elim i [
      | inl both ↦ consistent (both.0, w.has_given both.0 both.1, w.has_given (opposite both.0) both.2)
      | inr r ↦ no_conflict_from ns given assigned w.fixpoint (by_set given assigned w.has_given) r
    ] in
    rw e (possible, w.closure, once)

-- constraints that are refuted leave no assignment to be had
pub refuted_impossible : (slots same : List (Option NormalConstraint)) (given : List Lit) → slots ≡ same → IsRefuted (shown slots) → IsImpossible (shown same) given
refuted_impossible slots same given e r = inr (more_literals (shown same) [] given (λ l h. absurd (false≢true h)) (subst (λ (os : List (Option NormalConstraint)). IsRefuted (shown os)) e r))
