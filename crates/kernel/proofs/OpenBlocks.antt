-- What the steps of a block do, in the words of the kernel's fields.
use Rattle.std.proofs.Common.{◌≡◌, ◌↔◌, ℕ, ℤ, Bool, IsTrue, true, false, List, Result, Ok, Err, OnOk, Option, Some, None, MatchOption, IfSome, IsSomeAnd, refl, sym, ap, subst, ◌∙◌, arith}
use Rattle.std.specs.Result.{is_err}
use Rattle.std.proofs.lemmas.Bool.{false≢true}
use Rattle.std.specs.FinMap as map
use Rattle.linear.specs.Opb.{Opb}
use Rattle.normal_form.specs.Normal.{NormalConstraint, Fits, total, largest_sum}
use Rattle.normal_form.specs.Negation.{IsNegation}
use Rattle.substitution.specs.Under.{IsUnder, substituted}
use Rattle.proof_steps.specs.declared.step.GoalName.{GoalName}
use Rattle.proof_steps.specs.declared.step.GoalName.TheVariants as names
use Rattle.linear.specs.declared.constraint.Signed.{Signed}
use Rattle.normal_form.specs.declared.fault.CutFault.{CutFault}
use Rattle.normal_form.specs.declared.fault.CutFault.TheVariants as cuts
use Rattle.linear.specs.declared.term.Term.{Term}
use Rattle.normal_form.proofs.NormalForm.{one_form}
use Rattle.substitution.specs.Objective.{IsObjectiveGoal, not_raised}
use Rattle.proof_rules.specs.declared.fault.StepFault.{StepFault}
use Rattle.proof_rules.specs.declared.fault.StepFault.TheVariants as faults
use Rattle.proof_rules.specs.Redundant.{IsShownUnder, IsShownNotRaised}
use Rattle.kernel.specs.Redundance.{IsOpenLive}
use Rattle.proof_rules.specs.Block.{IsUnopened}
use Rattle.proof_rules.specs.Fault.{OrMemory, IsInsideFault, IsProofGoalFault, IsRedBeginFault, IsUnopenedFault}
use Rattle.proof_rules.specs.RuleFault.{of_rule}
use Rattle.proof_rules.specs.Shown.{IsAdmitted, IsShown}
use Rattle.proof_rules.specs.State.{State, Block, Live, constraints, id_of}
use Rattle.proof_rules.proofs.NotLegal.{one_admitted}
use Rattle.kernel.specs.declared.open_block.Place.{Place}
use Rattle.kernel.specs.declared.open_block.Place.TheVariants as places
use Rattle.kernel.specs.Place.{IsPlace, IsAskedFor, IsAskedIn}

pub place_of : (s : State) (k : Block) (r : Place) → s.block ≡ Some k → (o : Option ℕ) → k.goal ≡ o → MatchOption o (r ≡ places.Block) (λ first. r ≡ places.Goal first) → IsPlace s r
place_of s k r some None none is = subst (IsPlace s) (sym is) (k, (some, none))
place_of s k r some (Some first) goal is = subst (IsPlace s) (sym is) (k, some, goal)

-- where a goal is open, and where none is
goal_found : (o : Option ℕ) (r : Place) (f : ℕ) → MatchOption o (r ≡ places.Block) (λ first. r ≡ places.Goal first) → r ≡ places.Goal f → o ≡ None → ⊥
goal_found None r f is goal none = let same : places.Block ≡ places.Goal f = sym is ∙ goal in absurd (cc)
goal_found (Some first) r f is goal none = absurd (cc)

pub goal_open : (k : Block) (r : Place) (f : ℕ) → MatchOption k.goal (r ≡ places.Block) (λ first. r ≡ places.Goal first) → r ≡ places.Goal f → k.goal ≡ None → ⊥
goal_open k r f is goal = goal_found k.goal r f is goal

none_found : (o : Option ℕ) (r : Place) → MatchOption o (r ≡ places.Block) (λ first. r ≡ places.Goal first) → ((f : ℕ) → r ≡ places.Goal f → ⊥) → o ≡ None
none_found None r is not = refl
none_found (Some first) r is not = absurd (not first is)

pub no_goal : (k : Block) (r : Place) → MatchOption k.goal (r ≡ places.Block) (λ first. r ≡ places.Goal first) → ((f : ℕ) → r ≡ places.Goal f → ⊥) → k.goal ≡ None
no_goal k r is not = none_found k.goal r is not

-- what a success says of the value afterwards
pub of_ok : {T E : Type 0} (P : Type 0) (r : Result T E) → false ≡ is_err r → OnOk r P → P
of_ok P (Ok x) h p = p
of_ok P (Err e) h p = absurd (false≢true h)

-- what a live constraint becomes is what its name asks for
asked_found : (p : Opb) (s : State) (k : Block) (number : ℤ) (goal : Option NormalConstraint) → IsUnopened k (id_of s.next number) → (o : Option NormalConstraint)
    → map.get s.live (id_of s.next number) ≡ o → MatchOption o (goal ≡ None) (λ e. IsSomeAnd goal (IsUnder e k.images)) → IsAskedIn p s k (names.Live number) goal
asked_found p s k number None unopened None is h = λ r asks. let same : None ≡ Some asks.1.0 = sym is ∙ asks.1.1 in absurd (cc)
asked_found p s k number (Some r) unopened None is h = let same : Some r ≡ None = h in absurd (cc)
asked_found p s k number None unopened (Some e) is h = absurd h
asked_found p s k number (Some r) unopened (Some e) is h = (unopened, (e, is, h))

pub asked_live : (p : Opb) (s : State) (k : Block) (number : ℤ) (goal : Option NormalConstraint) → IsUnopened k (id_of s.next number)
    → MatchOption (map.get s.live (id_of s.next number)) (goal ≡ None) (λ e. IsSomeAnd goal (IsUnder e k.images)) → IsAskedIn p s k (names.Live number) goal
asked_live p s k number goal unopened h = asked_found p s k number goal unopened (map.get s.live (id_of s.next number)) refl h

-- a negation that does not fit
pub negation_unfit : (n m : NormalConstraint) → n.degree ≡ 0 → total n.terms ≡ largest_sum → IsNegation n m → Fits m → ⊥
negation_unfit n m zero all negated fits = omega (arith, zero, all, negated.degree, fits.degree)

-- why a block, or a goal, has no negation within the limits
pub no_negation : (s : State) (c : Signed) (n : NormalConstraint) (f : CutFault) → IsAdmitted c n → (f ≡ cuts.TooLarge → (n.degree ≡ 0) × (total n.terms ≡ largest_sum)) → (f ≡ cuts.BadFactor → ⊥)
    → OrMemory (of_rule f) (IsRedBeginFault s c (of_rule f))
no_negation s c n cuts.TooLarge admitted large factor = λ k m admitted' negated fits.
    negation_unfit n m (large refl).0 (large refl).1 (subst (λ x. IsNegation x m) (one_admitted c k n admitted' admitted) negated) fits
no_negation s c n cuts.BadFactor admitted large factor = absurd (factor refl)
no_negation s c n cuts.OutOfMemory admitted large factor = tt

pub no_goal_negation : (p : Opb) (s : State) (name : GoalName) (r : NormalConstraint) (f : CutFault) → IsAskedFor p s name r → (f ≡ cuts.TooLarge → (r.degree ≡ 0) × (total r.terms ≡ largest_sum))
    → (f ≡ cuts.BadFactor → ⊥) → OrMemory (of_rule f) (IsInsideFault s (IsProofGoalFault p s name) (of_rule f))
no_goal_negation p s name r cuts.TooLarge (k, (some, none), asks) large factor =
    (k, some, (none, (r, asks, λ m negated fits. negation_unfit r m (large refl).0 (large refl).1 negated fits)))
no_goal_negation p s name r cuts.BadFactor asked large factor = absurd (factor refl)
no_goal_negation p s name r cuts.OutOfMemory asked large factor = tt

pub of_fault : (f g : CutFault) → f ≡ g → ◌≡◌ {A = Result NormalConstraint CutFault} (Err f) (Err g)
of_fault f g e = ap Err e

-- the goals of a block that were not opened, as the code asks for them

pub own_shown : (from : List NormalConstraint) (k : Block) (own : Option NormalConstraint) (b : Bool)
    → MatchOption own (k.itself ≡ true) (λ r. (k.itself ≡ false) × IsUnder k.constraint k.images r) → IsTrue b ↔ IfSome own (IsShown from)
    → IsTrue b ↔ (k.itself ≡ false → IsShownUnder from k.images k.constraint)
own_shown from k None b opened shown = (λ _ unopened. absurd (false≢true (sym unopened ∙ opened)), λ _. shown.1 tt)
own_shown from k (Some r) b (unopened, under) shown =
    (λ t _. (r, under, shown.0 t), λ h. let s = h unopened in shown.1 (subst (IsShown from) (one_form (substituted k.constraint k.images) s.0 r s.1 under) s.2))

abbrev ObjectiveAsked : Option (List Term) → Block → Option NormalConstraint → Type 0
ObjectiveAsked o k goal = MatchOption o (goal ≡ None) (λ terms. IsSomeAnd goal (IsObjectiveGoal terms k.images))

objective_there : (from : List NormalConstraint) (k : Block) (o : Option (List Term)) (goal : Option NormalConstraint) → ObjectiveAsked o k goal
    → IfSome goal (IsShown from) ↔ IfSome o (IsShownNotRaised from k.images)
objective_there from k None goal none = (λ _. tt, λ _. subst (λ x. IfSome x (IsShown from)) (sym none) tt)
objective_there from k (Some terms) None h = absurd h
objective_there from k (Some terms) (Some r) target =
    (λ shown. (r, target, shown), λ h. subst (IsShown from) (one_form (not_raised terms k.images) h.0 r h.1 target) h.2)

pub objective_shown : (from : List NormalConstraint) (k : Block) (o : Option (List Term)) (goal : Option NormalConstraint) (b opened : Bool) → k.objective ≡ opened → (k.objective ≡ true → goal ≡ None)
    → (k.objective ≡ false → ObjectiveAsked o k goal) → IsTrue b ↔ IfSome goal (IsShown from) → IsTrue b ↔ (k.objective ≡ false → IfSome o (IsShownNotRaised from k.images))
objective_shown from k o goal b true is none asked shown =
    (λ _ unopened. absurd (false≢true (sym unopened ∙ is)), λ _. shown.1 (subst (λ x. IfSome x (IsShown from)) (sym (none is)) tt))
objective_shown from k o goal b false is none asked shown =
    let there = objective_there from k o goal (asked is) in
    (λ t _. there.0 (shown.0 t), λ h. shown.1 (there.1 (h is)))

-- a goal that is asked and not shown
pub unshown : (asked : Bool) (Shown : Type 0) → ((asked ≡ false → Shown) → ⊥) → (asked ≡ false) × (Shown → ⊥)
unshown true Shown not = absurd (not (λ e. absurd (false≢true (sym e))))
unshown false Shown not = (refl, λ s. not (λ _. s))

-- an open goal of a live constraint is one of the block
pub unopened_live : (p : Opb) (s : State) (k : Block) (f : StepFault) → IsOpenLive s.live k.first k.opened (constraints s) k.images f → IsUnopenedFault p s k f
unopened_live p s k (faults.GoalOpen id) h = h
unopened_live p s k _ h = absurd h
