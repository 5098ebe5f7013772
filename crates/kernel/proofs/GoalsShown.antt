-- The goals of a `red` step: what a constraint becomes is one, and beside a contradiction every goal is shown.
use Rattle.std.proofs.Common.{◌≡◌, ◌↔◌, inl, inr, ℕ, ◌<◌, ◌≤◌, Bool, IsTrue, Option, Some, None, List, [], ◌∷◌, ◌++◌, All, Contains, IfSome, IsSomeAnd, MatchOption, ap, slice_index_or, refl, sym, subst, ◌∙◌, arith}
use Rattle.std.proofs.lemmas.Bool.{cases_lt}
use Rattle.std.proofs.lemmas.List.Elements.{Contains-append_left, Contains-append_right}
use Rattle.std.specs.FinMap as map
use Rattle.std.specs.FinSet as set
use Rattle.std.specs.Ordering.{nat_cmp}
use Rattle.propagate.specs.Ids.{IdSet}
use Rattle.linear.specs.declared.term.Term.{Term}
use Rattle.linear.specs.Opb.{Opb}
use Rattle.normal_form.specs.Normal.{NormalConstraint, Rises}
use Rattle.normal_form.proofs.NormalForm.{form, form_is, one_form}
use Rattle.normal_form.proofs.Negations.{negation, negation_is}
use Rattle.propagate.proofs.DegreeZero.{zero_refuted}
use Rattle.substitution.specs.Beyond.{ShowsImage}
use Rattle.substitution.specs.Covering.{Covers}
use Rattle.substitution.specs.Images.{Images}
use Rattle.substitution.specs.Objective.{not_raised, IsObjectiveGoal}
use Rattle.substitution.specs.Under.{IsUnder, substituted}
use Rattle.proof_rules.specs.Redundant.{IsShownUnder, IsShownNotRaised, Redundant}
use Rattle.proof_rules.specs.Shown.{IsShown}
use Rattle.proof_rules.specs.Fault.{IsGoalFault}
use Rattle.proof_rules.specs.State.{Live, State, AreNumbered, constraints}
use Rattle.proof_rules.specs.declared.fault.StepFault.{StepFault}
use Rattle.proof_rules.specs.declared.fault.StepFault.TheVariants as faults
use Rattle.proof_rules.proofs.LiveConstraints.{All-from_get, Any-from_get}
use Rattle.proof_rules.proofs.ShownHolds.{zero_shown}
use Rattle.kernel.specs.Redundance.{AreAskedShown, IsAsked, IsOpenLive}
use Rattle.database.proofs.Showing.{any_left}

-- what a constraint becomes is shown or not
pub shown_under : (from : List NormalConstraint) (images : Images) (n r : NormalConstraint) (yes : Bool) → IsUnder n images r → IsTrue yes ↔ IsShown from r → IsTrue yes ↔ IsShownUnder from images n
shown_under from images n r found under shown =
    (λ t. (r, under, shown.0 t), λ h. shown.1 (subst (IsShown from) (one_form (substituted n images) h.0 r h.1 under) h.2))

-- a live constraint that covers what it becomes is shown
pub covered_under : (live : Live) (beside : List NormalConstraint) (images : Images) (id : ℕ) (n r : NormalConstraint) → map.get live id ≡ Some n → IsUnder n images r → Covers n r
    → IsShownUnder (map.values live ++ beside) images n
covered_under live beside images id n r is under covers =
    (r, under, inl (any_left (λ e. Covers e r) (map.values live) beside (Any-from_get (λ e. Covers e r) live id n is covers)))

-- so is one that shows what it becomes
pub itself_under : (live : Live) (beside : List NormalConstraint) (images : Images) (id : ℕ) (n : NormalConstraint) → map.get live id ≡ Some n → ShowsImage n images → IsShownUnder (map.values live ++ beside) images n
itself_under live beside images id n is (r, under, inl zero) = (r, under, zero_shown (map.values live ++ beside) r under.rises zero)
itself_under live beside images id n is (r, under, inr covers) = covered_under live beside images id n r is under covers

-- beside the negation of a constraint of degree 0 everything is shown
all_shown : (live : List NormalConstraint) (n r : NormalConstraint) → Rises 0 n.terms → Rises 0 r.terms → n.degree ≡ 0 → IsShown (live ++ negation n ∷ []) r
all_shown live n r rises other zero =
    let m = negation n in
    let here : Contains (live ++ m ∷ []) m = Contains-append_right live (m ∷ []) m (0, omega arith, refl) in
    inr (negation r, negation_is r other, zero_refuted n m rises zero (negation_is n rises) ((live ++ m ∷ []) ++ negation r ∷ []) (Contains-append_left (live ++ m ∷ []) (negation r ∷ []) m here))

under_shown : (live : List NormalConstraint) (images : Images) (n e : NormalConstraint) → Rises 0 n.terms → n.degree ≡ 0 → IsShownUnder (live ++ negation n ∷ []) images e
under_shown live images n e rises zero =
    let c = substituted e images in
    (form c, form_is c, all_shown live n (form c) rises (form_is c).rises zero)

each_shown : (live xs : List NormalConstraint) (images : Images) (n : NormalConstraint) → Rises 0 n.terms → n.degree ≡ 0 → All (IsShownUnder (live ++ negation n ∷ []) images) xs
each_shown live xs images n rises zero = λ k d inside. under_shown live images n (slice_index_or xs k d) rises zero

objective_shown : (live : List NormalConstraint) (images : Images) (n : NormalConstraint) (o : Option (List Term)) → Rises 0 n.terms → n.degree ≡ 0 → IfSome o (IsShownNotRaised (live ++ negation n ∷ []) images)
objective_shown live images n None rises zero = tt
objective_shown live images n (Some objective) rises zero =
    let c = not_raised objective images in
    (form c, form_is c, all_shown live n (form c) rises (form_is c).rises zero)

-- a constraint of degree 0 has every goal shown
pub zero_redundant : (p : Opb) (live : List NormalConstraint) (images : Images) (n : NormalConstraint) → Rises 0 n.terms → n.degree ≡ 0 → Redundant p live images n (negation n)
zero_redundant p live images n rises zero = record {
  negation = negation_is n rises;
  each_live = each_shown live live images n rises zero;
  itself = under_shown live images n n rises zero;
  objective = objective_shown live images n p.objective rises zero;
}

-- all live ids are above 0, and each is at most the last one looked at or above it
pub below_all : (P : NormalConstraint → Type 0) (live : Live) (id : ℕ) → ((k : ℕ) (n : NormalConstraint) → map.get live k ≡ Some n → 0 < k) → ((k : ℕ) → id < k → map.get live k ≡ None)
    → ((k : ℕ) (n : NormalConstraint) → 0 < k → k ≤ id → map.get live k ≡ Some n → P n) → All P (map.values live)
below_all P live id above none shown = All-from_get P live (λ k n is. elim (cases_lt id k) as (λ _. P n) [
  | inl beyond ↦ absurd (none_some n (sym (none k beyond) ∙ is))
  | inr below ↦ shown k n (above k n is) below is
])
  where
    none_some : (n : NormalConstraint) → ◌≡◌ {A = Option NormalConstraint} None (Some n) → ⊥
    none_some n e = cc

-- the first live constraint above some that are shown
pub first_open : (P : NormalConstraint → Type 0) (live : Live) (id next : ℕ) → ((k : ℕ) (n : NormalConstraint) → map.get live k ≡ Some n → 0 < k) → ((k : ℕ) → id < k → k < next → map.get live k ≡ None)
    → ((k : ℕ) (n : NormalConstraint) → 0 < k → k ≤ id → map.get live k ≡ Some n → P n) → (k : ℕ) (n : NormalConstraint) → k < next → map.get live k ≡ Some n → P n
first_open P live id next above none shown k n before is = elim (cases_lt id k) as (λ _. P n) [
  | inl beyond ↦ absurd (none_some n (sym (none k beyond before) ∙ is))
  | inr below ↦ shown k n (above k n is) below is
]
  where
    none_some : (n : NormalConstraint) → ◌≡◌ {A = Option NormalConstraint} None (Some n) → ⊥
    none_some n e = cc

-- an open goal of a live constraint is an open goal of the step
pub open_live : (p : Opb) (s : State) (end : ℕ) (opened : IdSet) (from : List NormalConstraint) (images : Images) (n : NormalConstraint) (f : StepFault)
    → ((k : ℕ) (d : NormalConstraint) → map.get s.live k ≡ Some d → IsAsked end opened k) → IsOpenLive s.live end opened from images f → IsGoalFault p s from images n f
open_live p s end opened from images n (faults.GoalOpen id) asked (e, here, is, not, before) = (e, is, not, λ k d less there. before k d less (asked k d there) there)
open_live p s end opened from images n _ asked h = absurd h

-- `red` asks its goals of all live constraints
pub asked_all : (live : Live) (next end : ℕ) (opened : IdSet) → AreNumbered live next → end ≡ next → opened ≡ set.empty
    → (k : ℕ) (d : NormalConstraint) → map.get live k ≡ Some d → IsAsked end opened k
asked_all live next end opened h same none k d is =
    (omega (arith, (h.within k d is).1, same), ap (λ (s : IdSet). set.contains s k) none ∙ set.contains-empty nat_cmp k)

pub all_asked_shown : (live : Live) (end : ℕ) (opened : IdSet) (from : List NormalConstraint) (images : Images) → ((k : ℕ) (d : NormalConstraint) → map.get live k ≡ Some d → IsAsked end opened k)
    → AreAskedShown live end opened from images → All (IsShownUnder from images) (map.values live)
all_asked_shown live end opened from images asked shown = All-from_get (IsShownUnder from images) live (λ k d is. shown k d (asked k d is) is)

-- what the code puts beside the live constraints
pub beside_negation : (before items : List NormalConstraint) (m : NormalConstraint) → before ≡ [] → items ≡ before ++ m ∷ [] → items ≡ m ∷ []
beside_negation before items m none put = put ∙ ap (λ xs. xs ++ m ∷ []) none

-- the objective's goal is shown or open
pub objective_judged : (o : Option (List Term)) (goal : Option NormalConstraint) (r : NormalConstraint) (images : Images) (from : List NormalConstraint)
    → MatchOption o (goal ≡ None) (λ objective. IsSomeAnd goal (IsObjectiveGoal objective images)) → goal ≡ Some r
    → (objective : List Term) × (o ≡ Some objective) × IsObjectiveGoal objective images r
objective_judged None goal r images from h some = absurd (by (sym h ∙ some))
  where
    by : ◌≡◌ {A = Option NormalConstraint} None (Some r) → ⊥
    by e = cc
objective_judged (Some objective) goal r images from h some = (objective, refl, subst (λ x. IsSomeAnd x (IsObjectiveGoal objective images)) some h)

-- the objective's goal is shown or not
pub shown_not_raised : (from : List NormalConstraint) (images : Images) (o : Option (List Term)) (objective : List Term) (r : NormalConstraint) (b : Bool) → o ≡ Some objective → IsObjectiveGoal objective images r
    → IsTrue b ↔ IsShown from r → IsTrue b ↔ IfSome o (IsShownNotRaised from images)
shown_not_raised from images o objective r b is goal shown =
    subst (λ x. IsTrue b ↔ IfSome x (IsShownNotRaised from images)) (sym is)
    (λ t. (r, goal, shown.0 t), λ h. shown.1 (subst (IsShown from) (one_form (not_raised objective images) h.0 r h.1 goal) h.2))

-- an objective that is not shown not to rise
pub may_rise : (o : Option (List Term)) (from : List NormalConstraint) (images : Images) → (IfSome o (IsShownNotRaised from images) → ⊥)
    → (objective : List Term) × (o ≡ Some objective) × (IsShownNotRaised from images objective → ⊥)
may_rise None from images not = absurd (not tt)
may_rise (Some objective) from images not = (objective, refl, not)
