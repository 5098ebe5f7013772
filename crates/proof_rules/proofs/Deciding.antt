-- Deciding: a statement or its refutation; a state or a fault.
use Rattle.std.proofs.Common.{◌≡◌, ℕ, ◌<◌, ◌≤◌, ◌⊎◌, inl, inr, ℤ, ◌<ℤ◌, ◌≤ℤ◌, int_le, Bool, true, false, List, [], ◌∷◌, Option, None, Some, All, Any, Contains, IfSome, get_or, refl, subst, arith}
use Rattle.std.proofs.lemmas.Bool.{cases_lt, cases_eq}
use Rattle.std.proofs.lemmas.Bool.Decides.{nat_tests}
use Rattle.std.proofs.lemmas.Int.{ints}
use Rattle.std.proofs.lemmas.List.Elements.{All-nil, All-cons, All-head, All-tail}
use Rattle.propagate.proofs.AnyOf.{any_here, any_there, any_split, any_none}
use Rattle.proof_rules.specs.declared.fault.StepFault.{StepFault}
use Rattle.proof_rules.specs.State.{State}

abbrev pub Decided : Type 0 → Type 0
Decided P = P ⊎ (P → ⊥)

-- a step leads to some state, or has some fault
abbrev pub Judged : (State → Type 0) → (StepFault → Type 0) → Type 0
Judged Leads IsFault = ((t : State) × Leads t) ⊎ ((f : StepFault) × IsFault f)

pub both_decided : (P Q : Type 0) → Decided P → Decided Q → Decided (P × Q)
both_decided P Q (inl p) (inl q) = inl (p, q)
both_decided P Q (inl p) (inr fails) = inr (λ h. fails h.1)
both_decided P Q (inr fails) d = inr (λ h. fails h.0)

pub either_decided : (P Q : Type 0) → Decided P → Decided Q → Decided (P ⊎ Q)
either_decided P Q (inl p) d = inl (inl p)
either_decided P Q (inr fails) (inl q) = inl (inr q)
either_decided P Q (inr fails) (inr none) = inr (λ h. elim h as (λ _. ⊥) [ inl p ↦ fails p | inr q ↦ none q ])

-- by another statement that stands and falls with it
pub decided_as : (P Q : Type 0) → (P → Q) → (Q → P) → Decided P → Decided Q
decided_as P Q f g (inl p) = inl (f p)
decided_as P Q f g (inr fails) = inr (λ q. fails (g q))

pub le_decided : (x y : ℕ) → Decided (x ≤ y)
le_decided x y = elim (cases_lt y x) as (λ _. Decided (x ≤ y)) [ inl h ↦ inr (λ k. omega (arith, h, k)) | inr h ↦ inl h ]

pub lt_decided : (x y : ℕ) → Decided (x < y)
lt_decided x y = elim (cases_lt x y) as (λ _. Decided (x < y)) [ inl h ↦ inl h | inr h ↦ inr (λ k. omega (arith, h, k)) ]

pub less_or_not : (x y : ℤ) → (x <ℤ y) ⊎ (y ≤ℤ x)
less_or_not x y = by (int_le y x) refl
  where
    by : (b : Bool) → int_le y x ≡ b → (x <ℤ y) ⊎ (y ≤ℤ x)
    by true h = inr (grind (arith, ints, nat_tests))
    by false h = inl (grind (arith, ints, nat_tests))

pub int_le_decided : (x y : ℤ) → Decided (x ≤ℤ y)
int_le_decided x y = elim (less_or_not y x) as (λ _. Decided (x ≤ℤ y)) [ inl h ↦ inr (λ k. omega (arith, ints, h, k)) | inr h ↦ inl h ]

both_ways : (x y : ℤ) → Decided (x ≤ℤ y) → Decided (y ≤ℤ x) → Decided (x ≡ y)
both_ways x y (inl h) (inl k) = inl (omega (arith, ints, h, k))
both_ways x y (inl h) (inr fails) = inr (λ e. fails (omega (arith, ints, e)))
both_ways x y (inr fails) d = inr (λ e. fails (omega (arith, ints, e)))

pub int_eq_decided : (x y : ℤ) → Decided (x ≡ y)
int_eq_decided x y = both_ways x y (int_le_decided x y) (int_le_decided y x)

more_any : {X : Type 0} (P : X → Type 0) (x : X) (xs : List X) → Decided (P x) → Decided (Any P xs) → Decided (Any P (x ∷ xs))
more_any P x xs (inl p) d = inl (any_here P x xs p)
more_any P x xs (inr fails) (inl a) = inl (any_there P x xs a)
more_any P x xs (inr fails) (inr none) = inr (λ a. elim (any_split P x xs a) as (λ _. ⊥) [ inl p ↦ fails p | inr b ↦ none b ])

pub any_decided : {X : Type 0} (P : X → Type 0) → ((x : X) → Decided (P x)) → (xs : List X) → Decided (Any P xs)
any_decided P d [] = inr (any_none P)
any_decided P d (x ∷ xs) = more_any P x xs (d x) (any_decided P d xs)

more_all : {X : Type 0} (P : X → Type 0) (x : X) (xs : List X) → Decided (P x) → Decided (All P xs) → Decided (All P (x ∷ xs))
more_all P x xs (inl p) (inl all) = inl (All-cons P x xs p all)
more_all P x xs (inl p) (inr not) = inr (λ all. not (All-tail P x xs all))
more_all P x xs (inr fails) d = inr (λ all. fails (All-head P x xs all))

pub all_decided : {X : Type 0} (P : X → Type 0) → ((x : X) → Decided (P x)) → (xs : List X) → Decided (All P xs)
all_decided P d [] = inl (All-nil P)
all_decided P d (x ∷ xs) = more_all P x xs (d x) (all_decided P d xs)

pub contains_decided : (xs : List ℕ) (x : ℕ) → Decided (Contains xs x)
contains_decided xs x =
    decided_as (Any (λ y. y ≡ x) xs) (Contains xs x) (λ (k, y, below, is, same). (k, below, subst (λ z. get_or xs k z ≡ z) same is)) (λ (k, below, is). (k, x, below, is, refl))
    (any_decided (λ y. y ≡ x) (λ y. cases_eq y x) xs)

pub if_some_decided : {X : Type 0} (P : X → Type 0) → ((x : X) → Decided (P x)) → (o : Option X) → Decided (IfSome o P)
if_some_decided P d None = inl tt
if_some_decided P d (Some x) = d x
