-- Where chains end: two that cannot go on have the same literals, or both are in conflict.
use Rattle.std.proofs.Common.{◌≡◌, ℕ, ◌<◌, Bool, true, false, List, ◌++◌, refl, sym, inl, inr, ◌⊎◌, arith}
use Rattle.std.specs.List.{list_any}
use Rattle.std.proofs.lemmas.Bool.{ltb-true}
use Rattle.std.proofs.lemmas.Bool.Decides.{nat_tests}
use Rattle.std.proofs.lemmas.Int.{ints}
use Rattle.linear.specs.declared.term.Lit.{Lit}
use Rattle.normal_form.specs.Normal.{NormalConstraint, sum_over}
use Rattle.propagate.specs.Literals.{among, lists}
use Rattle.propagate.specs.Slack.{not_false, IsFalsified}
use Rattle.propagate.specs.Chain.{IsConflict, IsChain, LeadsToConflict, IsWholeChain, IsFixpoint}
use Rattle.propagate.specs.Passes.{is_falsified}
use Rattle.normal_form.proofs.SetSums.{Within}
use Rattle.propagate.proofs.Assignments.{among_left, among_right}
use Rattle.propagate.proofs.AnyOf.{any_from_test, none_from_test}
use Rattle.propagate.proofs.Chains.{chain_stays, no_conflict_from}

pub falsified_test : (assigned : List Lit) (n : NormalConstraint) → is_falsified assigned n ≡ true → IsFalsified assigned n
falsified_test assigned n h = let less = ltb-true _ _ h in omega (arith, ints, less)

pub falsified_tested : (assigned : List Lit) (n : NormalConstraint) → IsFalsified assigned n → is_falsified assigned n ≡ true
falsified_tested assigned n h = let less : sum_over (not_false assigned) n.terms < n.degree = omega (arith, ints, h) in grind (arith, nat_tests)

pub conflict_from : (ns : List NormalConstraint) (assigned : List Lit) → list_any (is_falsified assigned) ns ≡ true → IsConflict ns assigned
conflict_from ns assigned h = any_from_test (IsFalsified assigned) (is_falsified assigned) (falsified_test assigned) ns h

pub no_conflict_from_test : (ns : List NormalConstraint) (assigned : List Lit) → list_any (is_falsified assigned) ns ≡ false → IsConflict ns assigned → ⊥
no_conflict_from_test ns assigned h = none_from_test (IsFalsified assigned) (is_falsified assigned) (falsified_tested assigned) ns h

tested : (ns : List NormalConstraint) (assigned : List Lit) (b : Bool) → list_any (is_falsified assigned) ns ≡ b → IsConflict ns assigned ⊎ (IsConflict ns assigned → ⊥)
tested ns assigned true h = inl (conflict_from ns assigned h)
tested ns assigned false h = inr (no_conflict_from_test ns assigned h)

pub conflict_or_none : (ns : List NormalConstraint) (assigned : List Lit) → IsConflict ns assigned ⊎ (IsConflict ns assigned → ⊥)
conflict_or_none ns assigned = tested ns assigned (list_any (is_falsified assigned) ns) refl

-- a chain that cannot go on and is in no conflict ends in a fixpoint
pub fixpoint_by : (ns : List NormalConstraint) (given chain : List Lit) → IsWholeChain ns given chain → (IsConflict ns (given ++ chain) → ⊥) → IsFixpoint ns (given ++ chain)
fixpoint_by ns given chain w none = record { nothing_forced = w.ends; no_conflict = none }

pub given_within : (given chain : List Lit) → Within (among given) (among (given ++ chain))
given_within given chain v s h = among_left given chain v s h

same_bool : (b d : Bool) → (b ≡ true → d ≡ true) → (d ≡ true → b ≡ true) → b ≡ d
same_bool true d f g = sym (f refl)
same_bool false true f g = g refl
same_bool false false f g = refl

pub one_end : (ns : List NormalConstraint) (given xs ys : List Lit) → IsWholeChain ns given xs → IsWholeChain ns given ys → (IsConflict ns (given ++ xs) × IsConflict ns (given ++ ys)) ⊎ ((l : Lit) → lists (given ++ xs) l ≡ lists (given ++ ys) l)
one_end ns given xs ys p q = elim (conflict_or_none ns (given ++ xs)) [
  | inl x ↦ elim (conflict_or_none ns (given ++ ys)) [
    | inl y ↦ inl (x, y)
    | inr none ↦ absurd (no_conflict_from ns given (given ++ ys) (fixpoint_by ns given ys q none) (given_within given ys) (xs, p.chain_is, x))
  ]
  | inr none ↦
      let left = fixpoint_by ns given xs p none in
      let free : IsConflict ns (given ++ ys) → ⊥ = λ y. no_conflict_from ns given (given ++ xs) left (given_within given xs) (ys, q.chain_is, y) in
      let right = fixpoint_by ns given ys q free in
      inr (λ l. same_bool (lists (given ++ xs) l) (lists (given ++ ys) l)
      (chain_stays ns (given ++ ys) right given xs (given_within given ys) p.chain_is (l.var.0) l.negated)
      (chain_stays ns (given ++ xs) left given ys (given_within given xs) q.chain_is (l.var.0) l.negated))
]

literal : ℕ → Bool → Lit
literal v s = record { var = record { 0 = v }; negated = s }

-- literal by literal, as laws state it
pub by_set : (xs ys : List Lit) → ((l : Lit) → lists xs l ≡ true → lists ys l ≡ true) → Within (among xs) (among ys)
unfolding literal
by_set xs ys h v s e = h (literal v s) e

pub fixpoint_stays : (ns : List NormalConstraint) (ms given chain : List Lit) → IsFixpoint ns ms → ((l : Lit) → lists given l ≡ true → lists ms l ≡ true) → IsChain ns given chain → (l : Lit) → lists chain l ≡ true → lists ms l ≡ true
fixpoint_stays ns ms given chain q h c l e = chain_stays ns ms q given chain (by_set given ms h) c (l.var.0) l.negated (among_right given chain (l.var.0) l.negated e)

pub fixpoint_free : (ns : List NormalConstraint) (ms given : List Lit) → IsFixpoint ns ms → ((l : Lit) → lists given l ≡ true → lists ms l ≡ true) → LeadsToConflict ns given → ⊥
fixpoint_free ns ms given q h r = no_conflict_from ns given ms q (by_set given ms h) r
