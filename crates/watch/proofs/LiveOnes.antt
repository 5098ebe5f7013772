-- Constraints among which some say nothing, beside the others alone: what chains lead to is the same.
use Rattle.std.proofs.Common.{◌≡◌, ◌↔◌, ◌⊎◌, inl, inr, Any, Contains, List, [], ◌∷◌, ◌++◌, subst}
use Rattle.std.proofs.lemmas.List.Elements.{Contains-append_left, Contains-append_right, Contains-append_cases}
use Rattle.linear.specs.declared.term.Lit.{Lit}
use Rattle.normal_form.specs.Normal.{NormalConstraint}
use Rattle.propagate.specs.Chain.{IsChain, IsClosure, IsImpossible, IsReached, IsRefuted, IsFixpoint, LeadsToConflict}
use Rattle.propagate.specs.Reach.{IsReach}
use Rattle.propagate.specs.declared.reach.Reach.{Reach}
use Rattle.propagate.specs.declared.reach.Reach.TheVariants as reaches
use Rattle.propagate.specs.Slack.{IsFalsified, IsForced}
use Rattle.propagate.proofs.Chains.{more_constraints}
use Rattle.ledger.specs.Ledgers.{nothing}
use Rattle.ledger.proofs.Standing.{quiet_nothing}

-- the one has all of the other, and beside it what says nothing
pub record AddsNothing (ns ms : List NormalConstraint) : Type 0 where
  pub has : (n : NormalConstraint) → Contains ms n → Contains ns n
  pub rest : (n : NormalConstraint) → Contains ns n → (n ≡ nothing) ⊎ Contains ms n

any_live : (P : NormalConstraint → Type 0) (ns ms : List NormalConstraint) → AddsNothing ns ms → (P nothing → ⊥) → Any P ns → Any P ms
any_live P ns ms s none a = elim (s.rest a.1 (a.0, a.2, a.3)) [
  | inl e ↦ absurd (none (subst P e a.4))
  | inr c ↦ (c.0, a.1, c.1, c.2, a.4)
]

chain_live : (ns ms : List NormalConstraint) → AddsNothing ns ms → (given chain : List Lit) → IsChain ns given chain → IsChain ms given chain
chain_live ns ms s given [] c = tt
chain_live ns ms s given (l ∷ ls) c = (any_live (IsForced given l) ns ms s ((quiet_nothing given).1 l) c.0, chain_live ns ms s (given ++ l ∷ []) ls c.1)

chain_back : (ns ms : List NormalConstraint) → AddsNothing ns ms → (given chain : List Lit) → IsChain ms given chain → IsChain ns given chain
chain_back ns ms s given [] c = tt
chain_back ns ms s given (l ∷ ls) c = (more_constraints (IsForced given l) ms ns s.has c.0, chain_back ns ms s (given ++ l ∷ []) ls c.1)

pub live_conflicts : (ns ms : List NormalConstraint) → AddsNothing ns ms → (given : List Lit) → LeadsToConflict ns given ↔ LeadsToConflict ms given
live_conflicts ns ms s given = (
  λ r. (r.0, chain_live ns ms s given r.0 r.1, any_live (IsFalsified (given ++ r.0)) ns ms s (quiet_nothing (given ++ r.0)).0 r.2),
  λ r. (r.0, chain_back ns ms s given r.0 r.1, more_constraints (IsFalsified (given ++ r.0)) ms ns s.has r.2),
)

reached_live : (ns ms : List NormalConstraint) → AddsNothing ns ms → (given : List Lit) (l : Lit) → IsReached ns given l → IsReached ms given l
reached_live ns ms s given l (inl m) = inl m
reached_live ns ms s given l (inr r) = inr (r.0, chain_live ns ms s given r.0 r.1, r.2)

reached_again : (ns ms : List NormalConstraint) → AddsNothing ns ms → (given : List Lit) (l : Lit) → IsReached ms given l → IsReached ns given l
reached_again ns ms s given l (inl m) = inl m
reached_again ns ms s given l (inr r) = inr (r.0, chain_back ns ms s given r.0 r.1, r.2)

impossible_live : (ns ms : List NormalConstraint) → AddsNothing ns ms → (given : List Lit) → IsImpossible ns given → IsImpossible ms given
impossible_live ns ms s given (inl both) = inl both
impossible_live ns ms s given (inr r) = inr ((live_conflicts ns ms s given).0 r)

impossible_back : (ns ms : List NormalConstraint) → AddsNothing ns ms → (given : List Lit) → IsImpossible ms given → IsImpossible ns given
impossible_back ns ms s given (inl both) = inl both
impossible_back ns ms s given (inr r) = inr ((live_conflicts ns ms s given).1 r)

-- beside extra constraints too
pub beside : (ns ms extras : List NormalConstraint) → AddsNothing ns ms → AddsNothing (ns ++ extras) (ms ++ extras)
beside ns ms extras s = record {
  has = λ n c. elim (Contains-append_cases ms extras n c) [
    | inl a ↦ Contains-append_left ns extras n (s.has n a)
    | inr a ↦ Contains-append_right ns extras n a
  ];
  rest = λ n c. elim (Contains-append_cases ns extras n c) [
    | inl a ↦ elim (s.rest n a) [
      | inl e ↦ inl e
      | inr m ↦ inr (Contains-append_left ms extras n m)
    ]
    | inr a ↦ inr (Contains-append_right ms extras n a)
  ];
}

pub live_refuted : (ns ms extras : List NormalConstraint) → AddsNothing ns ms → IsRefuted (ns ++ extras) ↔ IsRefuted (ms ++ extras)
live_refuted ns ms extras s = live_conflicts (ns ++ extras) (ms ++ extras) (beside ns ms extras s) []

pub live_closure : (ns ms : List NormalConstraint) → AddsNothing ns ms → (given closed : List Lit) → IsClosure ns given closed → IsClosure ms given closed
live_closure ns ms s given closed f l = (λ e. reached_live ns ms s given l ((f l).0 e), λ r. (f l).1 (reached_again ns ms s given l r))

pub live_reach : (ns ms : List NormalConstraint) → AddsNothing ns ms → (given : List Lit) (r : Reach) → IsReach ns given r → IsReach ms given r
live_reach ns ms s given reaches.Conflict h = impossible_live ns ms s given h
live_reach ns ms s given (reaches.Closed closed) h = (λ i. h.0 (impossible_back ns ms s given i), live_closure ns ms s given closed h.1, h.2)

pub live_fixpoint : (ns ms : List NormalConstraint) → AddsNothing ns ms → (assigned : List Lit) → IsFixpoint ns assigned → IsFixpoint ms assigned
live_fixpoint ns ms s assigned q = record {
  nothing_forced = λ l f. q.nothing_forced l (more_constraints (IsForced assigned l) ms ns s.has f);
  no_conflict = λ b. q.no_conflict (more_constraints (IsFalsified assigned) ms ns s.has b);
}
