-- What assuming given literals comes to, against chains from what is given alone.
use Rattle.std.proofs.Common.{◌≡◌, ℕ, zero, suc, ◌+◌, ◌<◌, ◌≤◌, inl, inr, true, false, Option, None, Some, List, [], ◌∷◌, ◌++◌, length, get_or, take, refl, ap, sym, subst, ◌∙◌, arith}
use Rattle.std.proofs.lemmas.Bool.{false≢true}
use Rattle.std.proofs.lemmas.List.{get_or_default, take_more}
use Rattle.std.proofs.Math.Seq.{take-length}
use Rattle.linear.specs.declared.term.Lit.{Lit}
use Rattle.normal_form.specs.Normal.{NormalConstraint}
use Rattle.normal_form.proofs.SetSums.{Within}
use Rattle.propagate.specs.Chain.{IsClosure, IsImpossible, IsFixpoint, LeadsToConflict}
use Rattle.linear.specs.Literal.{opposite}
use Rattle.propagate.specs.Literals.{among, lists}
use Rattle.propagate.specs.Slack.{IsFalsified}
use Rattle.propagate.specs.Walk.{IsFalsifiedAt}
use Rattle.propagate.proofs.ChainEnds.{by_set, fixpoint_stays}
use Rattle.propagate.proofs.Chains.{another, falsified_more, chain_stays, no_conflict_from}
use Rattle.propagate.proofs.Assignments.{among_cases}
use Rattle.propagate.proofs.ReasonedChains.{conflict_at}
use Rattle.propagate.proofs.SearchEnds.{one_end_or_conflict}
use Rattle.watch.specs.declared.assumed.Assumed.{Assumed}
use Rattle.watch.specs.declared.assumed.Assumed.TheVariants as outcomes
use Rattle.watch.specs.Givens.{IsWholeEnd}
use Rattle.watch.specs.Keeping.{IsAssumed, falsified_place}
use Rattle.ledger.specs.Ledgers.{AreReasons, IsReason, constraint_at, nothing}
use Rattle.watch.specs.Steps.{AreGiven, Clashes}
use Rattle.watch.proofs.GivenOnes.{never_against, one_within}
use Rattle.watch.proofs.ToldTrail.{HasEnd}

any : Lit
any = record { var = record { 0 = 0 }; negated = false }

-- a literal with its reason, where those before it are within a fixpoint
one_more : (ns : List NormalConstraint) (before given ms : List Lit) (l : Lit) (reason : Option ℕ) → IsFixpoint ns ms → Within (among given) (among ms) → Within (among before) (among ms) → (reason ≡ None → lists given l ≡ true) → IsReason ns before l reason → Within (among (before ++ l ∷ [])) (among ms)
one_more ns before given ms l None q g h none r v s e = elim (among_cases before (l ∷ []) v s e) [
  | inl a ↦ h v s a
  | inr a ↦ g v s (one_within given l (none refl) v s a)
]
one_more ns before given ms l (Some place) q g h none r v s e =
    let n : NormalConstraint = constraint_at ns place in
    chain_stays ns ms q before (l ∷ []) h ((place, n, r.0, get_or_default ns place n nothing r.0, r.1), tt) v s e

within_to : (ns : List NormalConstraint) (assigned : List Lit) (reasons : List (Option ℕ)) (given ms : List Lit) → AreReasons ns assigned reasons → AreGiven assigned reasons given → IsFixpoint ns ms → Within (among given) (among ms) → (k : ℕ) → k ≤ length assigned → Within (among (take k assigned)) (among ms)
within_to ns assigned reasons given ms r a q g zero h = λ v s e. absurd (false≢true e)
within_to ns assigned reasons given ms r a q g (suc k) h =
    let low : k < length assigned = omega (arith, h) in
    let one : suc k ≡ k + 1 = omega arith in
    let next : take (suc k) assigned ≡ take k assigned ++ get_or assigned k any ∷ [] = ap (λ (j : ℕ). take j assigned) one ∙ take_more assigned k any low in
    subst (λ (xs : List Lit). Within (among xs) (among ms)) (sym next)
    (one_more ns (take k assigned) given ms (get_or assigned k any) (get_or reasons k None) q g
    (within_to ns assigned reasons given ms r a q g k (omega (arith, low))) (a k any low) (r.forced k any low))

-- what is given, and what is forced then, is within each fixpoint assignment that has what is given
trail_within : (ns : List NormalConstraint) (assigned : List Lit) (reasons : List (Option ℕ)) (given ms : List Lit) → AreReasons ns assigned reasons → AreGiven assigned reasons given → IsFixpoint ns ms → Within (among given) (among ms) → Within (among assigned) (among ms)
trail_within ns assigned reasons given ms r a q g =
    subst (λ (xs : List Lit). Within (among xs) (among ms)) (take-length assigned) (within_to ns assigned reasons given ms r a q g (length assigned) (omega arith))

falsified_impossible : (ns : List NormalConstraint) (assigned : List Lit) (reasons : List (Option ℕ)) (given : List Lit) (place : ℕ) → AreReasons ns assigned reasons → AreGiven assigned reasons given → IsFalsifiedAt ns assigned place → LeadsToConflict ns given
falsified_impossible ns assigned reasons given place r a b = elim (one_end_or_conflict ns given) [
  | inl c ↦ c
  | inr e ↦
      let given_in : Within (among given) (among e.0) = by_set given e.0 (λ l h. (e.2 l).1 (inl h)) in
      let c = conflict_at ns assigned place b in
      absurd (e.1.no_conflict (another (IsFalsified assigned) (IsFalsified e.0) ns c (falsified_more c.1 assigned e.0 (trail_within ns assigned reasons given e.0 r a e.1 given_in))))
]

clash_impossible : (ns : List NormalConstraint) (assigned : List Lit) (reasons : List (Option ℕ)) (given : List Lit) → AreReasons ns assigned reasons → AreGiven assigned reasons given → Clashes given assigned → IsImpossible ns given
clash_impossible ns assigned reasons given r a c = elim (one_end_or_conflict ns given) [
  | inl conflict ↦ inr conflict
  | inr end ↦
      let given_in : Within (among given) (among end.0) = by_set given end.0 (λ m k. (end.2 m).1 (inl k)) in
      let inside : lists end.0 (opposite c.0) ≡ true = trail_within ns assigned reasons given end.0 r a end.1 given_in (c.0.var.0) (opposite c.0).negated c.2 in
      elim ((end.2 (opposite c.0)).0 inside) [
        | inl both ↦ inl (c.0, c.1, both)
        | inr chain ↦ absurd (never_against ns given chain.0 c.0 chain.1 c.1 chain.2)
      ]
]

pub whole_end : (ns : List NormalConstraint) (assigned : List Lit) (reasons : List (Option ℕ)) (given : List Lit) → AreReasons ns assigned reasons → AreGiven assigned reasons given → IsAssumed ns given assigned outcomes.Whole → IsWholeEnd ns given assigned
whole_end ns assigned reasons given r a w =
    let h : Within (among given) (among assigned) = by_set given assigned w.0 in
    let closure : IsClosure ns given assigned = elim (one_end_or_conflict ns given) [
      | inl c ↦ absurd (no_conflict_from ns given assigned w.1 h c)
      | inr e ↦ λ l. (
        λ m. (e.2 l).0 (trail_within ns assigned reasons given e.0 r a e.1 (by_set given e.0 (λ k f. (e.2 k).1 (inl f))) (l.var.0) l.negated m),
        λ reached. elim reached [
          | inl m ↦ w.0 l m
          | inr c ↦ fixpoint_stays ns assigned given c.0 w.1 w.0 c.1 l c.2
        ],
      )
    ] in
    record { fixpoint = w.1; has_given = w.0; closure = closure }

pub no_way : (ns : List NormalConstraint) (assigned : List Lit) (reasons : List (Option ℕ)) (given : List Lit) (a : Assumed) → AreReasons ns assigned reasons → AreGiven assigned reasons given → (a ≡ outcomes.Whole → ⊥) → IsAssumed ns given assigned a → IsImpossible ns given
no_way ns assigned reasons given outcomes.Whole r g other h = absurd (other refl)
no_way ns assigned reasons given (outcomes.Falsified place) r g other h = inr (falsified_impossible ns assigned reasons given place r g h)
no_way ns assigned reasons given outcomes.Clash r g other h = clash_impossible ns assigned reasons given r g h

-- the end of a chain that is told
pub told_end : (ns : List NormalConstraint) (given assigned : List Lit) (a : Assumed) → IsAssumed ns given assigned a → HasEnd ns given assigned (falsified_place a)
told_end ns given assigned outcomes.Whole h = inr h
told_end ns given assigned (outcomes.Falsified place) h = h
told_end ns given assigned outcomes.Clash h = inl h

-- what is given at first, and what more
pub other_end : (ns : List NormalConstraint) (given more assigned : List Lit) (a : Assumed) → (a ≡ outcomes.Whole → ⊥) → ((l : Lit) → lists given l ≡ true → lists more l ≡ true) → IsAssumed ns given assigned a → IsAssumed ns more assigned a
other_end ns given more assigned outcomes.Whole other h e = absurd (other refl)
other_end ns given more assigned (outcomes.Falsified place) other h e = e
other_end ns given more assigned outcomes.Clash other h e = (e.0, h e.0 e.1, e.2)
