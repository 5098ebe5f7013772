-- Assignments with the same literals extend to the same, and a walk from a trail tells what it extends to.
use Rattle.std.proofs.Common.{◌≡◌, ℕ, zero, suc, ◌+◌, ◌<◌, Bool, true, false, not, ◌||◌, List, [], ◌∷◌, ◌++◌, Option, None, Some, MatchOption, IfSome, IfOk, Result, Ok, Err, map, length, get_or, take, arith, refl, sym, ap, subst, ◌∙◌, inl, inr}
use Rattle.std.proofs.lemmas.Bool.{false≢true}
use Rattle.std.proofs.lemmas.List.{take_more}
use Rattle.std.specs.Option.{option_map}
use Rattle.linear.specs.declared.term.Lit.{Lit}
use Rattle.normal_form.specs.Normal.{NormalConstraint, only}
use Rattle.propagate.specs.declared.reach.Reach.{Reach}
use Rattle.propagate.specs.declared.reach.Reach.TheVariants.{Conflict, Closed}
use Rattle.propagate.specs.declared.trace.Trace.{Trace}
use Rattle.propagate.specs.TraceByPlaces.{named, IsTraceByPlaces}
use Rattle.propagate.specs.Reach.{IsReach}
use Rattle.propagate.specs.declared.forced.Forced.{Forced}
use Rattle.linear.specs.Literal.{opposite}
use Rattle.propagate.specs.Literals.{among, lists, Contradicts, IsConsistent, IsOnce, SameLiterals}
use Rattle.propagate.specs.Chain.{IsConflict, LeadsToConflict, IsFixpoint, IsReached, IsClosure, IsImpossible}
use Rattle.propagate.specs.Walk.{IsFalsifiedAt, IsReasonedChain, literals_of}
use Rattle.normal_form.proofs.SetSums.{Within}
use Rattle.propagate.proofs.Assignments.{among_append, among_right, among_head, among_tail, or_cases}
use Rattle.propagate.proofs.Consistency.{only_here, at_literal, push_consistent}
use Rattle.propagate.proofs.Chains.{chain_stays, no_conflict_from}
use Rattle.propagate.proofs.ChainEnds.{given_within}
use Rattle.propagate.proofs.SearchIsRight.{closure_by}
use Rattle.propagate.proofs.SearchEnds.{one_end_or_conflict}
use Rattle.propagate.proofs.Closure.{more_literals}
use Rattle.propagate.proofs.ReasonedChains.{chain_of, conflict_at}

pub same_conflict : (ns : List NormalConstraint) (xs ys : List Lit) → SameLiterals xs ys → LeadsToConflict ns xs → LeadsToConflict ns ys
same_conflict ns xs ys same r = more_literals ns xs ys (λ l h. sym (same (l.var.0) l.negated) ∙ h) r

pub same_contradicts : (xs ys : List Lit) → SameLiterals xs ys → Contradicts xs → Contradicts ys
same_contradicts xs ys same c = (c.0, sym (same (c.0.var.0) c.0.negated) ∙ c.1, sym (same (c.0.var.0) (not c.0.negated)) ∙ c.2)

turned : (xs ys : List Lit) → SameLiterals xs ys → SameLiterals ys xs
turned xs ys same v s = sym (same v s)

pub same_impossible : (ns : List NormalConstraint) (xs ys : List Lit) → SameLiterals xs ys → IsImpossible ns xs → IsImpossible ns ys
same_impossible ns xs ys same (inl c) = inl (same_contradicts xs ys same c)
same_impossible ns xs ys same (inr r) = inr (same_conflict ns xs ys same r)

-- what chains from the one reach, chains from the other do
also_reached : (ns : List NormalConstraint) (xs ys : List Lit) → SameLiterals xs ys → (LeadsToConflict ns ys → ⊥) → (l : Lit) → IsReached ns xs l → IsReached ns ys l
also_reached ns xs ys same none l r = elim (one_end_or_conflict ns ys) [
  | inl conflict ↦ absurd (none conflict)
  | inr e ↦
      let inside : Within (among ys) (among e.0) = λ v s h. (e.2 (record { var = record { 0 = v }; negated = s })).1 (inl h) in
      elim r [
        | inl given ↦ inl (sym (same (l.var.0) l.negated) ∙ given)
        | inr chain ↦
            let stays = chain_stays ns e.0 e.1 xs chain.0 (λ v s h. inside v s (sym (same v s) ∙ h)) chain.1 (l.var.0) l.negated (among_right xs chain.0 (l.var.0) l.negated chain.2) in
            (e.2 l).0 stays
      ]
]

pub same_closure : (ns : List NormalConstraint) (xs ys closed : List Lit) → SameLiterals xs ys → (LeadsToConflict ns ys → ⊥) → IsClosure ns xs closed → IsClosure ns ys closed
same_closure ns xs ys closed same none f l = (
  λ h. also_reached ns xs ys same none l ((f l).0 h),
  λ r. (f l).1 (also_reached ns ys xs (turned xs ys same) (λ c. none (same_conflict ns xs ys same c)) l r),
)

-- a walk that ends in a falsified constraint
pub walk_conflict : (ns : List NormalConstraint) (given assigned : List Lit) (steps : List Forced) (place : ℕ) → IsReasonedChain ns given steps → assigned ≡ given ++ literals_of steps → IsFalsifiedAt ns assigned place → LeadsToConflict ns given
walk_conflict ns given assigned steps place c e b =
    (literals_of steps, chain_of ns given steps c, subst (λ (ls : List Lit). IsConflict ns ls) e (conflict_at ns assigned place b))

-- and one that ends quietly
pub walk_closure : (ns : List NormalConstraint) (given assigned : List Lit) (steps : List Forced) → IsReasonedChain ns given steps → assigned ≡ given ++ literals_of steps → IsFixpoint ns assigned → IsClosure ns given assigned
walk_closure ns given assigned steps c e q = closure_by ns given assigned (literals_of steps) (chain_of ns given steps c, e, q)

pub walk_free : (ns : List NormalConstraint) (given assigned : List Lit) (steps : List Forced) → IsConsistent given → assigned ≡ given ++ literals_of steps → IsFixpoint ns assigned → IsImpossible ns given → ⊥
walk_free ns given assigned steps h e q (inl c) = h c
walk_free ns given assigned steps h e q (inr r) =
    no_conflict_from ns given assigned q (λ v s k. subst (λ (ls : List Lit). among ls v s ≡ true) (sym e) (given_within given (literals_of steps) v s k)) r

or_listed : (b d : Bool) → (d ≡ true → b ≡ true) → b ≡ (b || d)
or_listed true d h = refl
or_listed false true h = h refl
or_listed false false h = refl

only_one : (xs : List Lit) (l : Lit) (v : ℕ) (s : Bool) → lists xs l ≡ true → among (l ∷ []) v s ≡ true → among xs v s ≡ true
only_one xs l v s h e = let at = only_here l v s e in at_literal xs (l.var.0) v l.negated s (sym at.0) (sym at.1) h

-- a literal that is listed adds nothing
pub listed_already : (xs : List Lit) (l : Lit) → lists xs l ≡ true → SameLiterals xs (xs ++ l ∷ [])
listed_already xs l h v s = or_listed (among xs v s) (among (l ∷ []) v s) (only_one xs l v s h) ∙ sym (among_append xs (l ∷ []) v s)

among_take : (xs : List Lit) (i : ℕ) (v : ℕ) (s : Bool) → among (take i xs) v s ≡ true → among xs v s ≡ true
among_take [] zero v s h = h
among_take [] (suc i) v s h = h
among_take (x ∷ xs) zero v s h = absurd (false≢true h)
among_take (x ∷ xs) (suc i) v s h = elim (or_cases (only (x.var.0) x.negated v s) (among (take i xs) v s) h) [
  | inl o ↦ rw o refl
  | inr o ↦ among_tail x xs v s (among_take xs i v s o)
]

among_at : (xs : List Lit) (i : ℕ) (d : Lit) → i < length xs → lists xs (get_or xs i d) ≡ true
among_at [] i d h = absurd (omega (arith, h))
among_at (x ∷ xs) zero d h = among_head x xs
among_at (x ∷ xs) (suc i) d h = among_tail x xs ((get_or xs i d).var.0) (get_or xs i d).negated (among_at xs i d (omega (arith, h)))

-- the opposite of a listed literal is among those before it
pub contradicts_at : (assigned xs : List Lit) (i : ℕ) (d : Lit) → SameLiterals xs (take i assigned) → i < length assigned → lists xs (opposite (get_or assigned i d)) ≡ true → Contradicts assigned
contradicts_at assigned xs i d same h e =
    let l = get_or assigned i d in
    (l, among_at assigned i d h, among_take assigned i (l.var.0) (not l.negated) (sym (same (l.var.0) (not l.negated)) ∙ e))

-- one literal more is admitted
pub same_more : (assigned old new : List Lit) (i : ℕ) (d : Lit) → i < length assigned → SameLiterals old (take i assigned) → SameLiterals new (old ++ get_or assigned i d ∷ []) → SameLiterals new (take (i + 1) assigned)
same_more assigned old new i d h same pushed v s =
    let l = get_or assigned i d in
    pushed v s ∙ among_append old (l ∷ []) v s ∙ ap (λ (b : Bool). b || among (l ∷ []) v s) (same v s)
    ∙ sym (among_append (take i assigned) (l ∷ []) v s) ∙ ap (λ (xs : List Lit). among xs v s) (sym (take_more assigned i d h))

pub consistent_more : (assigned old : List Lit) (i : ℕ) (d : Lit) → i < length assigned → SameLiterals old (take i assigned) → lists old (opposite (get_or assigned i d)) ≡ false → IsConsistent (take i assigned) → IsConsistent (take (i + 1) assigned)
consistent_more assigned old i d h same free consistent =
    let l = get_or assigned i d in
    subst (λ (xs : List Lit). IsConsistent xs) (sym (take_more assigned i d h))
    (push_consistent (take i assigned) l consistent (sym (same (l.var.0) (not l.negated)) ∙ free))

pub same_consistent : (xs ys : List Lit) → SameLiterals xs ys → IsConsistent ys → IsConsistent xs
same_consistent xs ys same h c = h (same_contradicts xs ys same c)

-- what a walk's end tells
pub ends_falsified : (ns : List NormalConstraint) (given assigned : List Lit) (steps : List Forced) (falsified : Option ℕ) (place : ℕ) → IsReasonedChain ns given steps → assigned ≡ given ++ literals_of steps → MatchOption falsified (IsFixpoint ns assigned) (IsFalsifiedAt ns assigned) → falsified ≡ Some place → IsImpossible ns given
ends_falsified ns given assigned steps falsified place c e end is =
    inr (walk_conflict ns given assigned steps place c e (subst (λ (o : Option ℕ). MatchOption o (IsFixpoint ns assigned) (IsFalsifiedAt ns assigned)) is end))

pub ends_quiet : (ns : List NormalConstraint) (given assigned closed : List Lit) (steps : List Forced) (falsified : Option ℕ) → IsConsistent given → IsReasonedChain ns given steps → assigned ≡ given ++ literals_of steps → MatchOption falsified (IsFixpoint ns assigned) (IsFalsifiedAt ns assigned) → falsified ≡ None → closed ≡ assigned → IsOnce closed → (IsImpossible ns given → ⊥) × IsClosure ns given closed × IsOnce closed
ends_quiet ns given assigned closed steps falsified h c e end is same once =
    let q : IsFixpoint ns assigned = subst (λ (o : Option ℕ). MatchOption o (IsFixpoint ns assigned) (IsFalsifiedAt ns assigned)) is end in
    (walk_free ns given assigned steps h e q, subst (λ (ls : List Lit). IsClosure ns given ls) (sym same) (walk_closure ns given assigned steps c e q), once)

pub same_reach : (ns : List NormalConstraint) (xs ys : List Lit) → SameLiterals xs ys → (r : Reach) → IsReach ns xs r → IsReach ns ys r
same_reach ns xs ys same Conflict h = same_impossible ns xs ys same h
same_reach ns xs ys same (Closed closed) h = (
  λ i. h.0 (same_impossible ns ys xs (turned xs ys same) i),
  same_closure ns xs ys closed same (λ c. h.0 (inr (same_conflict ns ys xs (turned xs ys same) c))) h.1,
  h.2,
)

pub start_same : (made : Option (List Lit × ℕ)) (start : List Lit × ℕ) (ys : List Lit) → IfSome made (λ t. SameLiterals t.0 ys) → made ≡ Some start → SameLiterals start.0 ys
start_same made start ys h e = subst (λ (o : Option (List Lit × ℕ)). IfSome o (λ t. SameLiterals t.0 ys)) e h

-- a walk from an assignment with the literals of what is given makes a trace
pub trace_made : {E : Type 0} (ns : List NormalConstraint) (ids : List ℕ) (given start assigned : List Lit) (steps : List Forced) (falsified : Option ℕ) (result : Result Trace E)
    → SameLiterals start given → IsReasonedChain ns start steps → assigned ≡ start ++ literals_of steps → MatchOption falsified (IsFixpoint ns assigned) (IsFalsifiedAt ns assigned)
    → IfOk result (λ t. t.forced ≡ map (named ids) steps) → IfOk result (λ t. t.conflict ≡ option_map (λ place. get_or ids place 0) falsified)
    → IfOk result (IsTraceByPlaces ns ids given)
trace_made ns ids given start assigned steps falsified (Err e) same c is end forced conflict = tt
trace_made ns ids given start assigned steps falsified (Ok t) same c is end forced conflict = record {
  start = start;
  same = same;
  steps = steps;
  falsified = falsified;
  chain = c;
  end = subst (λ (ls : List Lit). MatchOption falsified (IsFixpoint ns ls) (IsFalsifiedAt ns ls)) is end;
  forced = forced;
  conflict = conflict;
}
