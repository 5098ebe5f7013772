-- Literals that are propagated, and what is quiet then.
use Rattle.std.proofs.Common.{◌≡◌, ◌⊎◌, inl, inr, ℕ, zero, suc, ◌≤◌, Contains, Result, Ok, Err, IfOk, false, is_some, Option, None, Some, List, [], ◌∷◌, length, length-append, take, drop, refl, ap, sym, subst, ◌∙◌, arith}
use Rattle.std.proofs.lemmas.Bool.{false≢true}
use Rattle.std.proofs.lemmas.List.{take-append-drop, take-take}
use Rattle.std.proofs.Math.Seq.{take-append_seam, take-length}
use Rattle.linear.specs.declared.term.Lit.{Lit}
use Rattle.linear.specs.Literal.{opposite}
use Rattle.normal_form.specs.Normal.{NormalConstraint}
use Rattle.propagate.specs.Literals.{coefficient_of}
use Rattle.propagate.specs.Walk.{IsQuiet}
use Rattle.ledger.specs.Ledgers.{IsPropagatedOn, IsPropagation, State, constraint_at, shown}
use Rattle.ledger.proofs.Opening.{still_quiet}
use Rattle.watch.specs.Looking.{AreLookedAt, GoesOn, PropagatesOn}
use Rattle.watch.proofs.Walking.{none_or_some}

-- all but the literals that were propagated is the same
abbrev pub IsSameBut : State → State → Type 0
IsSameBut old new = new ≡ record old { propagated = new.propagated }

pub propagates_nowhere : (s : State) (w : List ℕ) → PropagatesOn s s w w
propagates_nowhere s w = record { same = refl; first = take-length s.propagated; looked_at = λ k q. inl q; kept = λ k h. h }

-- nothing was propagated, and more may wait
pub propagates_not : (old new : State) (w w' : List ℕ) → IsSameBut old new → new.propagated ≡ old.propagated → ((k : ℕ) → Contains w k → Contains w' k) → PropagatesOn old new w w'
propagates_not old new w w' same e kept = record {
  same = same;
  first = ap (take (length old.propagated)) e ∙ take-length old.propagated;
  looked_at = λ k q. inl (subst (λ (xs : List Lit). IsQuiet xs (constraint_at (shown old.slots) k)) (sym e) q);
  kept = kept;
}

-- one literal was
pub propagates_one : (old new : State) (w w' : List ℕ) → IsSameBut old new → ((k : ℕ) → Contains w k → Contains w' k) → IsPropagatedOn (shown old.slots) old.propagated new.propagated w' → PropagatesOn old new w w'
propagates_one old new w w' same kept on = record {
  same = same;
  first = ap (take (length old.propagated)) on.longer ∙ take-append_seam old.propagated (on.literal ∷ []);
  looked_at = λ k q.
      let n : NormalConstraint = constraint_at (shown old.slots) k in
      elim (none_or_some (coefficient_of n (opposite on.literal))) [
        | inl none ↦ inl (subst (λ (xs : List Lit). IsQuiet xs n) (sym on.longer) (still_quiet old.propagated on.literal n on.unset none q))
        | inr some ↦ on.queued k some
      ];
  kept = kept;
}

pub one_on : (old new : State) (w : List ℕ) (falsified : Option ℕ) → is_some falsified ≡ false → IsPropagation old new w falsified → IsPropagatedOn (shown old.slots) old.propagated new.propagated w
one_on old new w None e p = p
one_on old new w (Some k) e p = absurd (false≢true (sym e))

-- a beginning is no longer
pub prefix_short : (n : ℕ) (xs ys : List Lit) → take n ys ≡ xs → length xs ≤ length ys
prefix_short n xs ys e = omega (arith, ap (length {A = Lit}) e, ap (length {A = Lit}) (take-append-drop n ys), length-append (take n ys) (drop n ys))

pub prefix_both : (xs ys zs : List Lit) → take (length xs) ys ≡ xs → take (length ys) zs ≡ ys → take (length xs) zs ≡ xs
prefix_both xs ys zs e f = sym (take-take (length xs) (length ys) zs (prefix_short (length xs) xs ys e)) ∙ ap (take (length xs)) f ∙ e

-- one after another
pub propagates_both : (a b c : State) (u v w : List ℕ) → PropagatesOn a b u v → PropagatesOn b c v w → PropagatesOn a c u w
propagates_both a b c u v w g h =
    let slots : b.slots ≡ a.slots = ap (λ (s : State). s.slots) g.same in
    record {
      same = h.same ∙ ap (λ (s : State). record s { propagated = c.propagated }) g.same;
      first = prefix_both a.propagated b.propagated c.propagated g.first h.first;
      looked_at = λ k q. elim (g.looked_at k q) [
        | inl quiet ↦ subst (λ (os : List (Option NormalConstraint)). IsQuiet b.propagated (constraint_at (shown os) k) → IsQuiet c.propagated (constraint_at (shown os) k) ⊎ Contains w k) slots (h.looked_at k) quiet
        | inr waits ↦ inr (h.kept k waits)
      ];
      kept = λ k h'. h.kept k (g.kept k h');
    }

-- what does not wait is looked at then, also beside a place that was taken
waits_beside : (place : ℕ) (q q' : List ℕ) → ((k : ℕ) → Contains q k → Contains q' k) → (k : ℕ) → Contains (place ∷ q) k → Contains (place ∷ q') k
waits_beside place q q' kept k (zero, low, e) = (zero, omega arith, e)
waits_beside place q q' kept k (suc i, low, e) = let r = kept k (i, omega (arith, low), e) in (suc r.0, omega (arith, r.1), r.2)

waits_later : (place : ℕ) (q : List ℕ) (k : ℕ) → Contains q k → Contains (place ∷ q) k
waits_later place q k r = (suc r.0, omega (arith, r.1), r.2)

pub looked_on : (ns : List NormalConstraint) (old new : State) (w w' : List ℕ) → shown old.slots ≡ ns → PropagatesOn old new w w' → AreLookedAt ns old.propagated w → AreLookedAt ns new.propagated w'
looked_on ns old new w w' e g looked k low = elim (looked k low) [
  | inl quiet ↦ subst (λ (ms : List NormalConstraint). IsQuiet old.propagated (constraint_at ms k) → IsQuiet new.propagated (constraint_at ms k) ⊎ Contains w' k) e (g.looked_at k) quiet
  | inr waits ↦ inr (g.kept k waits)
]

pub looked_beside : (ns : List NormalConstraint) (old new : State) (place : ℕ) (w w' : List ℕ) → shown old.slots ≡ ns → PropagatesOn old new w w' → AreLookedAt ns old.propagated (place ∷ w) → AreLookedAt ns new.propagated (place ∷ w')
looked_beside ns old new place w w' e g looked k low = elim (looked k low) [
  | inl quiet ↦ elim (subst (λ (ms : List NormalConstraint). IsQuiet old.propagated (constraint_at ms k) → IsQuiet new.propagated (constraint_at ms k) ⊎ Contains w' k) e (g.looked_at k) quiet) [
    | inl still ↦ inl still
    | inr waits ↦ inr (waits_later place w' k waits)
  ]
  | inr waits ↦ inr (waits_beside place w w' g.kept k waits)
]

no_more_waits : (ns : List NormalConstraint) (assigned : List Lit) (place : ℕ) (q : List ℕ) → IsQuiet assigned (constraint_at ns place) → (k : ℕ) → Contains (place ∷ q) k → IsQuiet assigned (constraint_at ns k) ⊎ Contains q k
no_more_waits ns assigned place q quiet k (zero, low, e) = inl (subst (λ (j : ℕ). IsQuiet assigned (constraint_at ns j)) e quiet)
no_more_waits ns assigned place q quiet k (suc i, low, e) = inr (i, omega (arith, low), e)

-- a place whose constraint is quiet waits no more
pub visited : (ns : List NormalConstraint) (assigned : List Lit) (place : ℕ) (q : List ℕ) → AreLookedAt ns assigned (place ∷ q) → IsQuiet assigned (constraint_at ns place) → AreLookedAt ns assigned q
visited ns assigned place q looked quiet k low = elim (looked k low) [
  | inl done ↦ inl done
  | inr waits ↦ no_more_waits ns assigned place q quiet k waits
]

-- a walk goes on, and what it added is propagated
pub goes_on_same : (old mid new : State) → IsSameBut mid new → GoesOn old mid → GoesOn old new
goes_on_same old mid new same g =
    let goes : GoesOn old (record mid { propagated = new.propagated }) = record { slots = g.slots; variables = g.variables; assigned = g.assigned; reasons = g.reasons } in
    subst (GoesOn old) (sym same) goes

pub if_ok : {E : Type 0} (A B : Option ℕ → Type 0) (r : Result (Option ℕ) E) → ((o : Option ℕ) → A o → B o) → IfOk r A → IfOk r B
if_ok A B (Ok o) f a = f o a
if_ok A B (Err x) f a = a
