-- Which literals of a trail have no reason, and given literals looked up.
use Rattle.std.proofs.Common.{◌≡◌, ℕ, zero, suc, ◌-◌, ◌<◌, inl, inr, Bool, true, false, Option, None, Some, is_some, MatchOption, List, [], ◌∷◌, ◌++◌, length, get_or, map, take, refl, ap, sym, subst, ◌∙◌, length-append, arith}
use Rattle.std.proofs.lemmas.Bool.{false≢true, cases_lt}
use Rattle.std.proofs.lemmas.List.{get_or_append_left}
use Rattle.std.proofs.Math.Seq.{get_or-append_right}
use Rattle.linear.specs.declared.term.Lit.{Lit}
use Rattle.normal_form.specs.Normal.{NormalConstraint}
use Rattle.normal_form.proofs.SetSums.{Within}
use Rattle.propagate.specs.Chain.{IsFixpoint}
use Rattle.linear.specs.Literal.{opposite}
use Rattle.propagate.specs.Literals.{among, lists, IsConsistent, SameLiterals}
use Rattle.propagate.specs.Walk.{IsFalsifiedAt}
use Rattle.propagate.proofs.Assignments.{among_cases, among_head, among_left, among_right, among_tail}
use Rattle.watch.specs.Givens.{HasAll, IsGiven}
use Rattle.ledger.specs.Ledgers.{State, shown}
use Rattle.watch.specs.Looking.{GoesOn}
use Rattle.watch.specs.Roots.{AllForced}
use Rattle.watch.specs.Steps.{AreGiven, Clashes}
use Rattle.watch.proofs.Deciding.{reason_at}
use Rattle.watch.proofs.GivenOnes.{one_within}
use Rattle.propagate.proofs.Positions.{listed_at}
use Rattle.watch.proofs.ToldTrail.{HasEnd}

some_is_not_none : (p : ℕ) (o : Option ℕ) → o ≡ Some p → o ≡ None → ⊥
some_is_not_none p o e f = cc

-- all have reasons
pub given_root : (xs : List Lit) (rs : List (Option ℕ)) (given : List Lit) → length rs ≡ length xs → AllForced rs → AreGiven xs rs given
given_root xs rs given many f k d low none = absurd (some_is_not_none (get_or f.0 k 0) (get_or rs k None) (reason_at f.0 rs k f.1 (omega (arith, low, many))) none)

pub given_added : (xs ys : List Lit) (rs ss : List (Option ℕ)) (given : List Lit) → length rs ≡ length xs → AreGiven xs rs given → Within (among ys) (among given) → AreGiven (xs ++ ys) (rs ++ ss) given
given_added xs ys rs ss given many a h k d low none = elim (cases_lt k (length xs)) [
  | inl first ↦
      ap (λ (l : Lit). lists given l) (get_or_append_left xs ys d k first)
      ∙ a k d first (sym (get_or_append_left rs ss None k (omega (arith, first, many))) ∙ none)
  | inr later ↦
      let l : Lit = get_or ys (k - length xs) d in
      ap (λ (m : Lit). lists given m) (get_or-append_right xs ys k d later)
      ∙ h (l.var.0) l.negated (listed_at ys (k - length xs) d (omega (arith, low, later, length-append xs ys)))
]

pub given_walked : (xs ys : List Lit) (rs : List (Option ℕ)) (places : List ℕ) (given : List Lit) → length rs ≡ length xs → length (rs ++ map Some places) ≡ length (xs ++ ys) → AreGiven xs rs given → AreGiven (xs ++ ys) (rs ++ map Some places) given
given_walked xs ys rs places given many all a k d low none = elim (cases_lt k (length xs)) [
  | inl first ↦
      ap (λ (l : Lit). lists given l) (get_or_append_left xs ys d k first)
      ∙ a k d first (sym (get_or_append_left rs (map Some places) None k (omega (arith, first, many))) ∙ none)
  | inr later ↦
      let more : List (Option ℕ) = map Some places in
      let there : get_or (rs ++ more) k None ≡ get_or more (k - length rs) None = get_or-append_right rs more k None (omega (arith, later, many)) in
      absurd (some_is_not_none (get_or places (k - length rs) 0) (get_or (rs ++ more) k None)
      (there ∙ reason_at places more (k - length rs) refl (omega (arith, low, later, many, all, length-append rs more))) none)
]

pub given_after : (old mid : State) (given : List Lit) → length old.reasons ≡ length old.assigned → AllForced old.reasons → IsGiven old mid given → AreGiven mid.assigned mid.reasons given
given_after old mid given many f g =
    rw (g.assigned, g.reasons.1) (given_added old.assigned g.added old.reasons g.reasons.0 given many (given_root old.assigned old.reasons given many f) g.within)

pub given_walk : (old mid new : State) (given : List Lit) → length old.reasons ≡ length old.assigned → AllForced old.reasons → IsGiven old mid given → GoesOn mid new → length new.reasons ≡ length new.assigned → AreGiven new.assigned new.reasons given
given_walk old mid new given many f g h all =
    let before : length mid.reasons ≡ length mid.assigned = omega (arith, many, ap (length {A = Lit}) g.assigned, ap (length {A = Option ℕ}) g.reasons.1, length-append old.assigned g.added, length-append old.reasons g.reasons.0, g.reasons.2) in
    let lengths : length (mid.reasons ++ map Some h.reasons.0) ≡ length (mid.assigned ++ h.assigned.0) = ap (length {A = Option ℕ}) (sym h.reasons.1) ∙ all ∙ ap (length {A = Lit}) h.assigned.2 in
    rw (h.assigned.2, h.reasons.1) (given_walked mid.assigned h.assigned.0 mid.reasons h.reasons.0 given before lengths (given_after old mid given many f g))

-- the end of the walk over what is given
pub walk_ends : (old mid new : State) (given : List Lit) (w : List ℕ) (r : Option ℕ) → IsGiven old mid given → GoesOn mid new → HasAll given mid.assigned → MatchOption r ((w ≡ []) × IsFixpoint (shown mid.slots) new.assigned) (IsFalsifiedAt (shown mid.slots) new.assigned) → HasEnd (shown old.slots) given new.assigned r
walk_ends old mid new given w None g h has end =
    inr (
      λ l e. ap (λ (xs : List Lit). lists xs l) h.assigned.2 ∙ among_left mid.assigned h.assigned.0 (l.var.0) l.negated (has l e),
      subst (λ (os : List (Option NormalConstraint)). IsFixpoint (shown os) new.assigned) g.slots end.1,
    )
walk_ends old mid new given w (Some place) g h has end = subst (λ (os : List (Option NormalConstraint)). IsFalsifiedAt (shown os) new.assigned place) g.slots end

pub clash_end : (given assigned : List Lit) (r : Option Lit) (b : Bool) → b ≡ is_some r → b ≡ true → MatchOption r (HasAll given assigned) (λ l. (lists given l ≡ true) × (lists assigned (opposite l) ≡ true)) → Clashes given assigned
clash_end given assigned None b e f end = absurd (false≢true (sym e ∙ f))
clash_end given assigned (Some l) b e f end = (l, end.0, end.1)

-- given literals that are looked up
pub take_within : (xs : List Lit) (k : ℕ) → Within (among (take k xs)) (among xs)
take_within [] zero v s h = h
take_within [] (suc k) v s h = h
take_within (x ∷ xs) zero v s h = absurd (false≢true h)
take_within (x ∷ xs) (suc k) v s h = elim (among_cases (x ∷ []) (take k xs) v s h) [
  | inl a ↦ among_left (x ∷ []) xs v s a
  | inr a ↦ among_tail x xs v s (take_within xs k v s a)
]

pub marks_consistent : (marks given : List Lit) (k : ℕ) (d : Lit) → k < length given → SameLiterals marks (take k given) → IsConsistent given → IsConsistent (marks ++ get_or given k d ∷ [])
marks_consistent marks given k d low same h =
    let l : Lit = get_or given k d in
    let inside : Within (among (marks ++ l ∷ [])) (among given) = λ v s e. elim (among_cases marks (l ∷ []) v s e) [
      | inl a ↦ take_within given k v s (sym (same v s) ∙ a)
      | inr a ↦ one_within given l (listed_at given k d low) v s a
    ] in
    λ both. h (both.0, inside (both.0.var.0) both.0.negated both.1, inside (both.0.var.0) (opposite both.0).negated both.2)

not_listed : (xs : List Lit) (l : Lit) (b : Bool) → lists xs l ≡ b → (lists xs l ≡ true → ⊥) → lists xs l ≡ false
not_listed xs l true e h = absurd (h e)
not_listed xs l false e h = e

pub opposite_free : (marks : List Lit) (l : Lit) → IsConsistent (marks ++ l ∷ []) → lists marks (opposite l) ≡ false
opposite_free marks l h = not_listed marks (opposite l) (lists marks (opposite l)) refl (λ e. h (
  l,
  among_right marks (l ∷ []) (l.var.0) l.negated (among_head l []),
  among_left marks (l ∷ []) (l.var.0) (opposite l).negated e,
))

pub given_by_marks : (xs : List Lit) (rs : List (Option ℕ)) (marks given : List Lit) → SameLiterals marks given → AreGiven xs rs given → AreGiven xs rs marks
given_by_marks xs rs marks given same a k d low none = same ((get_or xs k d).var.0) (get_or xs k d).negated ∙ a k d low none

-- where the constraints themselves are falsified in the end
pub root_ends : (old new : State) (given : List Lit) (w : List ℕ) (r : Option ℕ) (b : Bool) → b ≡ is_some r → b ≡ true → GoesOn old new → MatchOption r ((w ≡ []) × IsFixpoint (shown old.slots) new.assigned) (IsFalsifiedAt (shown old.slots) new.assigned) → HasEnd (shown old.slots) given new.assigned r
root_ends old new given w None b e f g end = absurd (false≢true (sym e ∙ f))
root_ends old new given w (Some place) b e f g end = end
