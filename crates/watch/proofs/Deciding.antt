-- From where a walk ends to whether the constraints are refuted, and what more constraints change.
use Rattle.std.proofs.Common.{◌≡◌, ◌↔◌, ℕ, zero, suc, ◌+◌, ◌-◌, ◌<◌, ◌≤◌, inl, inr, Bool, true, false, Contains, Option, None, Some, is_some, IsSome, MatchOption, List, [], ◌∷◌, ◌++◌, length, get_or, map, take, refl, ap, sym, subst, ◌∙◌, length-append, arith, rules}
use Rattle.std.proofs.lemmas.Bool.{false≢true, cases_eq}
use Rattle.std.proofs.lemmas.List.{get_or_append_left, get_or_default, length-map, map-append, take_more}
use Rattle.std.proofs.lemmas.List.Elements.{Contains-append_left}
use Rattle.std.proofs.Math.Seq.{take-append_seam, take-length}
use Rattle.linear.specs.declared.term.Lit.{Lit}
use Rattle.normal_form.specs.Normal.{NormalConstraint}
use Rattle.propagate.specs.Chain.{IsChain, IsForcedByOne, IsRefuted, IsFixpoint}
use Rattle.propagate.specs.Walk.{IsFalsifiedAt, IsQuiet}
use Rattle.propagate.proofs.Chains.{chain_of_more, conflict_of_more}
use Rattle.propagate.proofs.JoinedChains.{chain_push}
use Rattle.propagate.proofs.ReasonedChains.{conflict_at, not_refuted}
use Rattle.ledger.specs.Ledgers.{State, AreReasons, IsReason, constraint_at, constraint_in, nothing, shown}
use Rattle.watch.specs.Looking.{AreLookedAt, GoesOn, IsContinued}
use Rattle.watch.specs.Roots.{AllForced, IsRoot}
use Rattle.ledger.proofs.Attaching.{shown_more}
use Rattle.watch.proofs.Walking.{forced_there, goes_on_further}

-- a chain from nothing that ends in a falsified constraint refutes; one in a fixpoint shows that nothing does
pub decided : (ns : List NormalConstraint) (assigned new : List Lit) (waiting : List ℕ) (r : Option ℕ) (b : Bool) → b ≡ is_some r → IsContinued ns [] assigned → IsContinued ns assigned new → MatchOption r ((waiting ≡ []) × IsFixpoint ns new) (IsFalsifiedAt ns new) → (b ≡ true) ↔ IsRefuted ns
decided ns assigned new waiting None b e g h end = (λ t. absurd (false≢true (sym e ∙ t)), λ r. absurd (not_refuted ns new end.1 r))
decided ns assigned new waiting (Some place) b e g h end =
    let all : IsContinued ns [] new = goes_on_further ns [] assigned new g h in
    (λ _. (all.0, all.1, conflict_at ns ([] ++ all.0) place (subst (λ (xs : List Lit). IsFalsifiedAt ns xs place) all.2 end)), λ _. e)

-- more constraints chain the same
pub goes_on_of_more : (ns extras : List NormalConstraint) (given assigned : List Lit) → IsContinued ns given assigned → IsContinued (ns ++ extras) given assigned
goes_on_of_more ns extras given assigned g = (g.0, chain_of_more ns (ns ++ extras) (λ n h. Contains-append_left ns extras n h) given g.0 g.1, g.2)

-- where all is propagated, nothing has to wait
pub quiet_when_fixpoint : (ns : List NormalConstraint) (assigned : List Lit) (k : ℕ) → IsFixpoint ns assigned → k < length ns → IsQuiet assigned (constraint_at ns k)
quiet_when_fixpoint ns assigned k s low =
    let n : NormalConstraint = constraint_at ns k in
    (λ b. s.no_conflict (k, n, low, get_or_default ns k n nothing low, b), λ l f. s.nothing_forced l (k, n, low, get_or_default ns k n nothing low, f))

pub looked_when_fixpoint : (ns : List NormalConstraint) (assigned : List Lit) (w : List ℕ) → IsFixpoint ns assigned → AreLookedAt ns assigned w
looked_when_fixpoint ns assigned w s k low = inl (quiet_when_fixpoint ns assigned k s low)

-- one constraint more, which waits
looked_with_one : (ns : List NormalConstraint) (n : NormalConstraint) (assigned : List Lit) (w w' : List ℕ) → AreLookedAt ns assigned w → ((k : ℕ) → Contains w k → Contains w' k) → Contains w' (length ns) → AreLookedAt (ns ++ n ∷ []) assigned w'
looked_with_one ns n assigned w w' all kept here k low = elim (cases_eq k (length ns)) [
  | inl e ↦ inr (subst (λ (j : ℕ). Contains w' j) (sym e) here)
  | inr other ↦
      let below : k < length ns = omega (arith, low, other, length-append ns (n ∷ [])) in
      elim (all k below) [
        | inl quiet ↦ inl (subst (λ (m : NormalConstraint). IsQuiet assigned m) (sym (get_or_append_left ns (n ∷ []) nothing k below)) quiet)
        | inr waits ↦ inr (kept k waits)
      ]
]

pub looked_with_slot : (slots new : List (Option NormalConstraint)) (s : Option NormalConstraint) (assigned later : List Lit) (w w' : List ℕ) (place : ℕ) → new ≡ slots ++ s ∷ [] → later ≡ assigned → place ≡ length slots
    → AreLookedAt (shown slots) assigned w → ((k : ℕ) → Contains w k → Contains w' k) → Contains w' place → AreLookedAt (shown new) later w'
looked_with_slot slots new s assigned later w w' place e f h all kept here =
    let same : shown new ≡ shown slots ++ constraint_in s ∷ [] = ap shown e ∙ shown_more slots s in
    let last : Contains w' (length (shown slots)) = subst (λ (j : ℕ). Contains w' j) (h ∙ sym (length-map slots constraint_in)) here in
    rw (same, f) (looked_with_one (shown slots) (constraint_in s) assigned w w' all kept last)

-- all constraints more
shown_some : (ns : List NormalConstraint) → shown (map Some ns) ≡ ns
shown_some [] = refl
shown_some (n ∷ ns) = ap (λ (ms : List NormalConstraint). n ∷ ms) (shown_some ns)

pub shown_all : (slots new : List (Option NormalConstraint)) (ns : List NormalConstraint) → new ≡ slots ++ map Some ns → shown new ≡ shown slots ++ ns
shown_all slots new ns e = ap shown e ∙ map-append constraint_in slots (map Some ns) ∙ ap (λ (ms : List NormalConstraint). shown slots ++ ms) (shown_some ns)

-- literals that all have reasons are a chain from nothing
first_forced : (cs : List NormalConstraint) (xs : List Lit) (l : Lit) (r : Option ℕ) (place : ℕ) → r ≡ Some place → IsReason cs xs l r → IsForcedByOne cs xs l
first_forced cs xs l r place e f = let it : IsReason cs xs l (Some place) = subst (λ (o : Option ℕ). IsReason cs xs l o) e f in forced_there cs xs l place it.0 it.1

no_literal : Lit
no_literal = record { var = record { 0 = 0 }; negated = false }

some_of : (places : List ℕ) (k : ℕ) → k < length places → get_or (map Some places) k None ≡ Some (get_or places k 0)
some_of [] k h = absurd (omega (arith, h))
some_of (p ∷ ps) zero h = refl
some_of (p ∷ ps) (suc k) h = some_of ps k (omega (arith, h))

one_more : (k : ℕ) → suc k ≡ k + 1
one_more k = omega arith

pub reason_at : (places : List ℕ) (rs : List (Option ℕ)) (k : ℕ) → rs ≡ map Some places → k < length rs → get_or rs k None ≡ Some (get_or places k 0)
reason_at places rs k e h =
    let wrap : ℕ → Option ℕ = λ n. Some n in
    let many : length (map wrap places) ≡ length places = length-map places wrap in
    ap (λ (os : List (Option ℕ)). get_or os k None) e ∙ some_of places k (omega (arith, h, ap (length {A = Option ℕ}) e, many))

chain_to : (cs : List NormalConstraint) (xs : List Lit) (rs : List (Option ℕ)) (places : List ℕ) → AreReasons cs xs rs → rs ≡ map Some places → (k : ℕ) → k ≤ length xs → IsChain cs [] (take k xs)
chain_to cs xs rs places a e zero h = tt
chain_to cs xs rs places a e (suc k) h =
    let low : k < length xs = omega (arith, h) in
    let d : Lit = no_literal in
    let here : IsForcedByOne cs (take k xs) (get_or xs k d) = first_forced cs (take k xs) (get_or xs k d) (get_or rs k None) (get_or places k 0) (reason_at places rs k e (omega (arith, low, a.as_many))) (a.forced k d low) in
    let next : take (suc k) xs ≡ take k xs ++ get_or xs k d ∷ [] = ap (λ (j : ℕ). take j xs) (one_more k) ∙ take_more xs k d low in
    subst (λ (ys : List Lit). IsChain cs [] ys) (sym next) (chain_push cs [] (take k xs) (get_or xs k d) (chain_to cs xs rs places a e k (omega (arith, low))) here)

pub reached : (cs : List NormalConstraint) (xs : List Lit) (rs : List (Option ℕ)) (places : List ℕ) → AreReasons cs xs rs → rs ≡ map Some places → IsContinued cs [] xs
reached cs xs rs places a e = (xs, subst (λ (ys : List Lit). IsChain cs [] ys) (take-length xs) (chain_to cs xs rs places a e (length xs) (omega arith)), refl)

-- what a walk began with comes first
pub first_literals : (ns : List NormalConstraint) (xs ys : List Lit) → IsContinued ns xs ys → take (length xs) ys ≡ xs
first_literals ns xs ys g = ap (λ (zs : List Lit). take (length xs) zs) g.2 ∙ take-append_seam xs g.0

pub first_reasons : (xs ys : List (Option ℕ)) (places : List ℕ) → ys ≡ xs ++ map Some places → take (length xs) ys ≡ xs
first_reasons xs ys places e = ap (λ (zs : List (Option ℕ)). take (length xs) zs) e ∙ take-append_seam xs (map Some places)

-- reasons name places that are there
reason_below : (cs : List NormalConstraint) (xs : List Lit) (l : Lit) (r : Option ℕ) (place : ℕ) → r ≡ Some place → IsReason cs xs l r → place < length cs
reason_below cs xs l r place e f = let it : IsReason cs xs l (Some place) = subst (λ (o : Option ℕ). IsReason cs xs l o) e f in it.0

pub reasons_below : (slots : List (Option NormalConstraint)) (xs : List Lit) (rs : List (Option ℕ)) → AreReasons (shown slots) xs rs → (k place : ℕ) → k < length xs → get_or rs k None ≡ Some place → place < length slots
reasons_below slots xs rs a k place h e =
    omega (arith, reason_below (shown slots) (take k xs) (get_or xs k no_literal) (get_or rs k None) place e (a.forced k no_literal h), length-map slots constraint_in)

-- a list of places without the last one
pub without_last : (slots : List (Option NormalConstraint)) (o : Option NormalConstraint) → take (length (slots ++ o ∷ []) - 1) (slots ++ o ∷ []) ≡ slots
without_last slots o = ap (λ (n : ℕ). take n (slots ++ o ∷ [])) (omega (arith, length-append slots (o ∷ []))) ∙ take-append_seam slots (o ∷ [])

-- a walk from the root comes to a root
pub root_after : (old new : State) (w w' : List ℕ) (count count' : ℕ) → IsRoot old w count → GoesOn old new → count' ≡ count → AreLookedAt (shown old.slots) new.propagated w' → IsRoot new w' count'
root_after old new w w' count count' r g e looked = record {
  places = e ∙ r.places ∙ ap (length {A = Option NormalConstraint}) (sym g.slots);
  looked_at = subst (λ (os : List (Option NormalConstraint)). AreLookedAt (shown os) new.propagated w') (sym g.slots) looked;
  forced = (
    r.forced.0 ++ g.reasons.0,
    g.reasons.1 ∙ ap (λ (rs : List (Option ℕ)). rs ++ map Some g.reasons.0) r.forced.1 ∙ sym (map-append Some r.forced.0 g.reasons.0),
  );
}

pub fixpoint_after : (old new : State) (w : List ℕ) (r : Option ℕ) (b : Bool) → b ≡ is_some r → GoesOn old new → MatchOption r ((w ≡ []) × IsFixpoint (shown old.slots) new.assigned) (IsFalsifiedAt (shown old.slots) new.assigned) → (b ≡ true → ⊥) → IsFixpoint (shown new.slots) new.assigned
fixpoint_after old new w None b e g end no_conflict = subst (λ (os : List (Option NormalConstraint)). IsFixpoint (shown os) new.assigned) (sym g.slots) end.1
fixpoint_after old new w (Some place) b e g end no_conflict = absurd (no_conflict e)

-- places that came later have constraints
live_among : (added : List NormalConstraint) (k : ℕ) → k < length (map Some added) → IsSome (get_or (map Some added) k None)
live_among [] k h = absurd (omega (arith, h))
live_among (n ∷ ns) zero h = search rules
live_among (n ∷ ns) (suc k) h = live_among ns k (omega (arith, h))

live_behind : (slots : List (Option NormalConstraint)) (added : List NormalConstraint) (k : ℕ) → length slots ≤ k → k < length (slots ++ map Some added) → IsSome (get_or (slots ++ map Some added) k None)
live_behind [] added k low h = live_among added k h
live_behind (o ∷ os) added zero low h = absurd (omega (arith, low))
live_behind (o ∷ os) added (suc k) low h = live_behind os added k (omega (arith, low)) (omega (arith, h))

pub live_after : (slots new : List (Option NormalConstraint)) (added : List NormalConstraint) (k : ℕ) → new ≡ slots ++ map Some added → length slots ≤ k → k < length new → IsSome (get_or new k None)
live_after slots new added k e low h = rw e (live_behind slots added k low (omega (arith, h, ap (length {A = Option NormalConstraint}) e)))

-- what stood before stands again
pub root_again : (old new : State) (w : List ℕ) (count : ℕ) → new.slots ≡ old.slots → new.propagated ≡ old.assigned → new.reasons ≡ old.reasons → count ≡ length old.slots → IsFixpoint (shown old.slots) old.assigned → AllForced old.reasons → IsRoot new w count
root_again old new w count a b c e fixpoint forced =
    let looked : AreLookedAt (shown new.slots) new.propagated w = rw (a, b) (looked_when_fixpoint (shown old.slots) old.assigned w fixpoint) in
    record { places = e ∙ ap (length {A = Option NormalConstraint}) (sym a); looked_at = looked; forced = (forced.0, c ∙ forced.1) }

-- refuted constraints are refuted beside others
pub refuted_beside : (slots same : List (Option NormalConstraint)) (extras : List NormalConstraint) → slots ≡ same → IsRefuted (shown slots) → IsRefuted (shown same ++ extras)
refuted_beside slots same extras e r = conflict_of_more (shown same) (shown same ++ extras) (λ n h. Contains-append_left (shown same) extras n h) [] (subst (λ (os : List (Option NormalConstraint)). IsRefuted (shown os)) e r)
