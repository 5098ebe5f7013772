-- Deciding on small states what an assignment is completed to, that it is at fault, and what is shown.
use Rattle.std.proofs.Common.{◌≡◌, ℕ, zero, suc, ◌-◌, ◌<◌, ◌≤◌, ℤ, pos, ◌<ℤ◌, ◌≤ℤ◌, IfSome, IsSome, Option, Some, None, cond, inl, inr, Bool, true, false, List, [], ◌∷◌, map, refl, sym, ap, subst, ◌∙◌, arith}
use Rattle.std.specs.List.{list_any}
use Rattle.std.specs.Ordering.{nat_cmp, eq_by_cmp}
use Rattle.std.specs.FinMap as fin
use Rattle.std.proofs.lemmas.Bool.{false≢true}
use Rattle.std.proofs.lemmas.Cmp.{nat_cmp_total}
use Rattle.std.proofs.lemmas.Int.{ints}
use Rattle.std.proofs.lemmas.List.Elements.{All-nil, All-cons, All-head}
use Rattle.linear.specs.declared.term.Lit.{Lit}
use Rattle.linear.specs.Opb.{Opb, Satisfies}
use Rattle.linear.specs.Sum.{Meets}
use Rattle.linear.specs.Valuation.{valuation_of}
use Rattle.normal_form.specs.Cases.{plain, negated, normal}
use Rattle.normal_form.specs.Normal.{NormalConstraint, largest_sum}
use Rattle.normal_form.specs.NormalOf.{at_least_zero}
use Rattle.normal_form.proofs.FromBalance.{raised}
use Rattle.normal_form.proofs.NormalForm.{is_form}
use Rattle.proof_steps.specs.declared.conclusion.Lower.TheVariants as lowers
use Rattle.propagate.specs.Cases.{x, not_x, unit, unit_not}
use Rattle.propagate.specs.Chain.{LeadsToConflict, IsReached}
use Rattle.linear.specs.Literal.{opposite}
use Rattle.propagate.specs.Literals.{lists, IsConsistent}
use Rattle.propagate.specs.Passes.{Fixpoint, outcome}
use Rattle.propagate.proofs.AnyOf.{any_here}
use Rattle.propagate.proofs.Consistency.{push_consistent}
use Rattle.propagate.proofs.SmallContent.{Entries, placed, entries_placed}
use Rattle.propagate.proofs.SearchIsRight.{closure_met, conflict_met, no_conflict_met}
use Rattle.substitution.specs.Covering.{Covers}
use Rattle.substitution.proofs.Covered.{covers_itself}
use Rattle.proof_rules.specs.Cases.{cover, cover_written, cover_file, least_cover, min_both, both, second_alone, cover_state, not_second_alone, derived_state, contradicting_state, full_state}
use Rattle.proof_rules.specs.Legal.{Logs, without, worth_of}
use Rattle.proof_rules.specs.Justified.{EntitlesLower, IsBest, IsExhausted}
use Rattle.proof_rules.specs.Shown.{IsShown, absurdity}
use Rattle.proof_rules.specs.Solution.{literal_for, NamesAll, value_at, Completes, at_least}
use Rattle.proof_rules.specs.State.{State, constraints, constraint_of, numbered, state_of, HasRoom}
use Rattle.proof_rules.specs.Fault.{IsSolFault, IsBoundFault}
use Rattle.proof_rules.specs.declared.fault.StepFault.TheVariants.{SolutionFalse, LowerNotShown}
use Rattle.proof_rules.proofs.Completing.{one_completion}
use Rattle.proof_rules.proofs.ShownHolds.{zero_shown}
use Rattle.proof_rules.proofs.ShownBySearch.{covering, shown_by_search, not_shown}

-- the live constraints of a small state, computed
pub live_of : (ns : List NormalConstraint) → constraints (state_of ns) ≡ map (λ e. e.1) (placed (numbered 1 ns))
live_of ns = ap (λ (es : Entries). map (λ e. e.1) es) (entries_placed (numbered 1 ns))

pub none_consistent : IsConsistent []
none_consistent m = false≢true m.1

pub one_consistent : (l : Lit) → IsConsistent (l ∷ [])
one_consistent l = push_consistent [] l none_consistent refl

pub two_consistent : (l m : Lit) → lists (l ∷ []) (opposite m) ≡ false → IsConsistent (l ∷ m ∷ [])
two_consistent l m apart = push_consistent (l ∷ []) m (one_consistent l) apart

-- what holds of the first two variables
pub of_two : (P : ℕ → Type 0) → P 0 → P 1 → (v : ℕ) → v < 2 → P v
of_two P first second zero below = first
of_two P first second (suc zero) below = second
of_two P first second (suc (suc v)) below = absurd (omega (arith, below))

-- an assignment that names both of two variables
pub both_named : (live : List NormalConstraint) (assigned : List Lit) (b d : Bool) → IsConsistent assigned → lists assigned (literal_for 0 b) ≡ true → lists assigned (literal_for 1 d) ≡ true
    → Completes live 2 assigned (b ∷ d ∷ [])
both_named live assigned b d consistent first second = record {
  consistent = consistent;
  long = refl;
  completed = inl (
    of_two (λ v. (value : Bool) × (lists assigned (literal_for v value) ≡ true)) (b, first) (d, second),
    of_two (λ v. lists assigned (literal_for v (value_at (b ∷ d ∷ []) v)) ≡ true) first second,
  );
}

-- an assignment that leaves a variable unnamed, whose chains the slow search finds to end with both of two variables
pub both_reached : (steps : ℕ) (live : List NormalConstraint) (assigned closed : List Lit) (b d : Bool) → IsConsistent assigned → (NamesAll 2 assigned → ⊥)
    → outcome steps live assigned ≡ Fixpoint closed → lists closed (literal_for 0 b) ≡ true → lists closed (literal_for 1 d) ≡ true → Completes live 2 assigned (b ∷ d ∷ [])
both_reached steps live assigned closed b d consistent unnamed fixpoint first second =
    let closure = closure_met steps live assigned closed fixpoint in
    record {
      consistent = consistent;
      long = refl;
      completed = inr (
        unnamed,
        no_conflict_met steps live assigned closed fixpoint,
        of_two (λ v. IsReached live assigned (literal_for v (value_at (b ∷ d ∷ []) v))) ((closure (literal_for 0 b)).0 first) ((closure (literal_for 1 d)).0 second),
      );
    }

-- an assignment that does not name a variable, and of two variables one that does not name x1
pub unnamed : (count v : ℕ) (assigned : List Lit) → v < count → ((b : Bool) → lists assigned (literal_for v b) ≡ false) → NamesAll count assigned → ⊥
unnamed count v assigned below none all = let h = all v below in false≢true (sym (none h.0) ∙ h.1)

pub second_unnamed : (assigned : List Lit) → ((b : Bool) → lists assigned (literal_for 1 b) ≡ false) → NamesAll 2 assigned → ⊥
second_unnamed assigned none = unnamed 2 1 assigned (omega arith) none

-- on the file `1 x0 1 x1 >= 1` the assignment `~x0` is completed by x1, and satisfies it
pub second_satisfies : Satisfies (valuation_of second_alone) cover_file
second_satisfies = All-cons (Meets (valuation_of second_alone)) cover_written [] (omega (arith, ints)) (All-nil (Meets (valuation_of second_alone)))

pub second_completes : Completes (constraints (state_of (cover ∷ []))) 2 (not_x 0 ∷ []) second_alone
second_completes =
    subst (λ live. Completes live 2 (not_x 0 ∷ []) second_alone) (sym (live_of (cover ∷ [])))
    (both_reached 4 (cover ∷ []) (not_x 0 ∷ []) (not_x 0 ∷ x 1 ∷ []) false true (one_consistent (not_x 0)) (second_unnamed (not_x 0 ∷ []) (λ b. refl)) refl refl refl)

-- the assignment `~x0 ~x1` names both variables, and does not satisfy it
abbrev neither : List Bool
neither = false ∷ false ∷ []

neither_completes : Completes (constraints (state_of (cover ∷ []))) 2 (not_x 0 ∷ not_x 1 ∷ []) neither
neither_completes = both_named (constraints (state_of (cover ∷ []))) (not_x 0 ∷ not_x 1 ∷ []) false false (two_consistent (not_x 0) (not_x 1) refl) refl refl

neither_satisfies : Satisfies (valuation_of neither) cover_file → ⊥
neither_satisfies h = let meets : Meets (valuation_of neither) cover_written = All-head (Meets (valuation_of neither)) cover_written [] h in omega (arith, ints, meets)

pub neither_breaks : IsSolFault cover_file (state_of (cover ∷ [])) (not_x 0 ∷ not_x 1 ∷ []) SolutionFalse
neither_breaks = (
  (neither, neither_completes),
  λ g also satisfies.
      neither_satisfies (subst (λ h. Satisfies (valuation_of h) cover_file)
      (one_completion (constraints (state_of (cover ∷ []))) 2 (not_x 0 ∷ not_x 1 ∷ []) g neither also neither_completes) satisfies),
)

-- the solution of both satisfies that file, and the assignment `x0 x1` logs it, whatever is live
pub both_satisfies : Satisfies (valuation_of both) cover_file
both_satisfies = All-cons (Meets (valuation_of both)) cover_written [] (omega (arith, ints)) (All-nil (Meets (valuation_of both)))

pub both_logged : (s : State) → Logs least_cover s (x 0 ∷ x 1 ∷ []) both
both_logged s = record {
  completes = both_named (constraints s) (x 0 ∷ x 1 ∷ []) true true (two_consistent (x 0) (x 1) refl) refl refl;
  satisfies = both_satisfies;
}

-- a solution that is logged alone is the best
pub alone_is_best : (p : Opb) (g : List Bool) → IsBest p (g ∷ []) (Some g)
alone_is_best p g = ([], [], refl, All-nil (λ h. worth_of p g <ℤ worth_of p h), All-nil (λ h. worth_of p g ≤ℤ worth_of p h))

-- that file's constraint shows itself, and not `0 >= 1`
pub cover_shown : IsShown (constraints (state_of (cover ∷ []))) cover
cover_shown = subst (λ live. IsShown live cover) (sym (live_of (cover ∷ []))) (inl (any_here (λ e. Covers e cover) cover [] (covers_itself cover)))

pub absurdity_not_shown : IsShown (constraints (state_of (cover ∷ []))) absurdity → ⊥
absurdity_not_shown =
    subst (λ live. IsShown live absurdity → ⊥) (sym (live_of (cover ∷ [])))
    (not_shown 2 (cover ∷ []) absurdity (normal [] 0) [] (record { rises = tt; terms = refl; degree = refl }) refl refl)

-- that the objective `1 x0 1 x1` is at least 0 needs no constraint
pub zero_is_bound : (s : State) → IfSome s.least (λ least. pos 0 ≤ℤ least) → EntitlesLower s min_both (lowers.At (pos 0))
zero_is_bound s below = (
  normal (plain 1 0 ∷ plain 1 1 ∷ []) 0,
  record {
    below = below;
    form = is_form (at_least min_both (pos 0)) (normal (plain 1 0 ∷ plain 1 1 ∷ []) 0) (omega arith, omega arith, (omega arith, omega arith, tt)) (λ set. omega (arith, ints)) refl;
    fits = record { sum = omega arith; degree = omega arith };
    shown = zero_shown (constraints s) (normal (plain 1 0 ∷ plain 1 1 ∷ []) 0) (omega arith, omega arith, (omega arith, omega arith, tt)) refl;
  },
)

-- that it is at least 1 is that file's constraint
pub cover_is_bound : (least : Option ℤ) (logged : List (List Bool)) → IfSome least (λ z. pos 1 ≤ℤ z) → EntitlesLower (cover_state least logged) min_both (lowers.At (pos 1))
cover_is_bound least logged below = (
  cover,
  record {
    below = below;
    form = is_form (at_least min_both (pos 1)) cover (omega arith, omega arith, (omega arith, omega arith, tt)) (λ set. omega (arith, ints)) refl;
    fits = record { sum = omega arith; degree = omega arith };
    shown = cover_shown;
  },
)

-- that it is at least k is not shown, where that constraint does not cover it and the slow search finds no conflict beside the negation
abbrev pub at_least_both : ℕ → NormalConstraint
at_least_both k = normal (plain 1 0 ∷ plain 1 1 ∷ []) k

abbrev pub at_least_neither : ℕ → NormalConstraint
at_least_neither k = normal (negated 1 0 ∷ negated 1 1 ∷ []) k

pub bound_open : (k j : ℕ) (least : Option ℤ) (logged : List (List Bool)) → IfSome least (λ z. pos k ≤ℤ z) → k ≡ at_least_zero (raised (pos k) min_both (at_least_both k).terms)
    → k ≤ largest_sum → j ≡ 3 - k → outcome 2 (cover ∷ at_least_neither j ∷ []) [] ≡ Fixpoint [] → list_any (covering (at_least_both k)) (cover ∷ []) ≡ false
    → IsBoundFault (cover_state least logged) min_both (pos k) LowerNotShown
bound_open k j least logged below degree fits turned fixpoint uncovered = (
  below,
  (
    at_least_both k,
    is_form (at_least min_both (pos k)) (at_least_both k) (omega arith, omega arith, (omega arith, omega arith, tt)) (λ set. omega (arith, ints)) degree,
    record { sum = omega arith; degree = fits },
    subst (λ live. IsShown live (at_least_both k) → ⊥) (sym (live_of (cover ∷ [])))
        (not_shown 2 (cover ∷ []) (at_least_both k) (at_least_neither j) []
        (record { rises = (omega arith, omega arith, (omega arith, omega arith, tt)); terms = refl; degree = turned }) fixpoint uncovered),
  ),
)

-- that `1 x0 >= 1` and `1 ~x0 >= 1` show `0 >= 1`, where nothing is logged
pub exhausted : IsExhausted contradicting_state
exhausted = record {
  unlogged = refl;
  shown = subst (λ live. IsShown live absurdity) (sym (live_of (unit 0 ∷ unit_not 0 ∷ [])))
      (shown_by_search 4 (unit 0 ∷ unit_not 0 ∷ []) absurdity (normal [] 0) (record { rises = tt; terms = refl; degree = refl }) refl);
}

-- look-ups in a small state, and in one without an id
pub found_in : (ns : List NormalConstraint) (id : ℕ) → fin.get (state_of ns).live id ≡ fin.find nat_cmp id (numbered 1 ns)
found_in ns id = fin.get-from_entries nat_cmp_total (numbered 1 ns) id

pub found_without : (s : State) (gone id : ℕ) → fin.get (without gone s).live id ≡ cond (eq_by_cmp nat_cmp id gone) None (fin.get s.live id)
found_without s gone id = fin.get-remove nat_cmp_total s.live gone id

-- what is said of the constraints under ids below 1, of which there are none
pub none_below_one : (ns : List NormalConstraint) (P : NormalConstraint → Type 0) → fin.find nat_cmp 0 (numbered 1 ns) ≡ None
    → (k : ℕ) (n : NormalConstraint) → k < 1 → fin.get (state_of ns).live k ≡ Some n → P n
none_below_one ns P none zero n less is = let same : None ≡ Some n = sym none ∙ (sym (found_in ns 0) ∙ is) in absurd (cc)
none_below_one ns P none (suc k) n less is = absurd (omega (arith, less))

-- all ids are taken
pub none_left : (least : Option ℤ) → HasRoom (full_state least) → ⊥
none_left least room = omega (arith, room)

-- both constraints are live, that of the file and the derived one
pub first_live : IsSome (constraint_of derived_state (pos 1))
first_live = subst (λ o. IsSome o) (sym (found_in (cover ∷ not_second_alone ∷ []) 1)) refl

pub second_live : IsSome (constraint_of derived_state (pos 2))
second_live = subst (λ o. IsSome o) (sym (found_in (cover ∷ not_second_alone ∷ []) 2)) refl

-- and that of the file is, where the derived one is gone
pub first_left : IsSome (constraint_of (without 2 derived_state) (pos 1))
first_left = subst (λ o. IsSome o) (sym (found_without derived_state 2 1 ∙ found_in (cover ∷ not_second_alone ∷ []) 1)) refl

-- an id that was never given
pub never_given : constraint_of (without 1 derived_state) (pos 9) ≡ None
never_given = found_without derived_state 1 9 ∙ found_in (cover ∷ not_second_alone ∷ []) 9

pub derived_gone : fin.get (without 2 derived_state).live 2 ≡ None
derived_gone = found_without derived_state 2 2

-- an assignment whose chains the slow search finds to end without a variable
abbrev pub LeavesOpen : ℕ → List NormalConstraint → List Lit → Type 0
LeavesOpen count live assigned =
    IsConsistent assigned × (LeadsToConflict live assigned → ⊥) × ((v : ℕ) × (v < count) × ((value : Bool) → IsReached live assigned (literal_for v value) → ⊥))

pub leaves_open : (steps : ℕ) (live ns : List NormalConstraint) (assigned closed : List Lit) (count v : ℕ) → live ≡ ns → IsConsistent assigned → outcome steps ns assigned ≡ Fixpoint closed
    → v < count → ((b : Bool) → lists closed (literal_for v b) ≡ false) → LeavesOpen count live assigned
leaves_open steps live ns assigned closed count v is consistent fixpoint below none =
    subst (λ l. LeavesOpen count l assigned) (sym is) (
      consistent,
      no_conflict_met steps ns assigned closed fixpoint,
      (v, below, λ b reached. false≢true (sym (none b) ∙ (closure_met steps ns assigned closed fixpoint (literal_for v b)).1 reached)),
    )

-- on that file the assignment `x0` leaves x1 open, whatever is logged
pub first_leaves_open : LeavesOpen 2 (constraints (state_of (cover ∷ []))) (x 0 ∷ [])
first_leaves_open =
    leaves_open 4 (constraints (state_of (cover ∷ []))) (cover ∷ []) (x 0 ∷ []) (x 0 ∷ []) 2 1 (live_of (cover ∷ [])) (one_consistent (x 0)) refl (omega arith) (λ b. refl)

-- beside `1 x0 1 ~x1 >= 1` the assignment `~x0` leads to a conflict
pub derived_conflict : LeadsToConflict (constraints derived_state) (not_x 0 ∷ [])
derived_conflict =
    subst (λ live. LeadsToConflict live (not_x 0 ∷ [])) (sym (live_of (cover ∷ not_second_alone ∷ [])))
    (conflict_met 4 (cover ∷ not_second_alone ∷ []) (not_x 0 ∷ []) refl)
