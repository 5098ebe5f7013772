-- Every step of a block is legal or has a fault.
use Rattle.std.proofs.Common.{◌≡◌, ℕ, ◌<◌, ◌⊎◌, inl, inr, Bool, true, false, List, Option, Some, None, IfSome, refl, sym, subst}
use Rattle.std.specs.FinMap as fin
use Rattle.std.specs.FinSet as set
use Rattle.linear.specs.declared.constraint.Signed.{Signed}
use Rattle.linear.specs.declared.term.Term.{Term}
use Rattle.linear.specs.Opb.{Opb}
use Rattle.normal_form.specs.Normal.{NormalConstraint, Fits}
use Rattle.normal_form.specs.Negation.{IsNegation}
use Rattle.normal_form.proofs.NormalForm.{form, form_is}
use Rattle.normal_form.proofs.Negations.{negation, negation_is, one_negation}
use Rattle.substitution.specs.Images.{Images}
use Rattle.substitution.specs.Under.{substituted}
use Rattle.substitution.specs.Objective.{not_raised}
use Rattle.proof_steps.specs.declared.step.GoalName.{GoalName}
use Rattle.proof_steps.specs.declared.step.GoalName.TheVariants as names
use Rattle.proof_rules.specs.declared.fault.StepFault.{StepFault}
use Rattle.proof_rules.specs.declared.fault.StepFault.TheVariants as faults
use Rattle.proof_rules.specs.Block.{new_block, with_block, with_goal, closed, finished, Asks, IsUnopened, AreLiveShown, IsItselfShown, EndsOpen, LegalRedBegin, LegalGoal, LegalEnd}
use Rattle.proof_rules.specs.Fault.{IsOutsideFault, IsInsideFault, IsRedBeginFault, IsProofGoalFault, IsUnopenedFault, IsBlockEndFault, IsEndFault}
use Rattle.proof_rules.specs.Redundant.{IsShownUnder, IsShownNotRaised}
use Rattle.proof_rules.specs.Shown.{IsShown, IsAdmitted, absurdity}
use Rattle.proof_rules.specs.State.{State, Block, constraints, id_of, HasRoom, IsOutside}
use Rattle.proof_rules.proofs.Deciding.{Decided, Judged, lt_decided, both_decided}
use Rattle.proof_rules.proofs.LiveConstraints.{First_open_or_all}
use Rattle.proof_rules.proofs.NotLegal.{one_admitted, rises_asked, none_some}
use Rattle.proof_rules.proofs.ShownOrNot.{shown_decided, under_decided, not_raised_decided, fits_decided, room_decided, admitted_decided}

-- what may stand outside blocks alone

none_or_some : {A : Type 0} (o : Option A) → (o ≡ None) ⊎ ((x : A) × (o ≡ Some x))
none_or_some None = inl refl
none_or_some (Some x) = inr (x, refl)

pub outside_fault : (s : State) (IsFault : StepFault → Type 0) (f : StepFault) → IsOutside s → (IsFault faults.BlockOpen → ⊥) → IsFault f → IsOutsideFault s IsFault f
outside_fault s IsFault faults.BlockOpen outside never h = absurd (never h)
outside_fault s IsFault _ outside never h = (outside, h)

-- it is so, or has a fault, where what it would be outside blocks is so or has one
pub outside_judged : (s : State) (Is : Type 0) (IsFault : StepFault → Type 0) → (IsFault faults.BlockOpen → ⊥) → Is ⊎ ((f : StepFault) × IsFault f)
    → (IsOutside s × Is) ⊎ ((f : StepFault) × IsOutsideFault s IsFault f)
outside_judged s Is IsFault never judged = by (none_or_some s.block) judged
  where
    by : (s.block ≡ None) ⊎ ((k : Block) × (s.block ≡ Some k)) → Is ⊎ ((f : StepFault) × IsFault f) → (IsOutside s × Is) ⊎ ((f : StepFault) × IsOutsideFault s IsFault f)
    by (inr (k, some)) judged = inr (faults.BlockOpen, λ none. none_some s.block k none some)
    by (inl outside) (inl is) = inl (outside, is)
    by (inl outside) (inr (f, h)) = inr (f, outside_fault s IsFault f outside never h)

pub outside_step : (s : State) (Leads : State → Type 0) (IsFault : StepFault → Type 0) → (IsFault faults.BlockOpen → ⊥) → Judged Leads IsFault
    → Judged (λ t. IsOutside s × Leads t) (IsOutsideFault s IsFault)
outside_step s Leads IsFault never judged =
    elim (outside_judged s ((t : State) × Leads t) IsFault never judged) as (λ _. Judged (λ t. IsOutside s × Leads t) (IsOutsideFault s IsFault)) [
      | inl (outside, (t, leads)) ↦ inl (t, (outside, leads))
      | inr fault ↦ inr fault
    ]

-- and what in a block alone

pub inside_fault : (s : State) (IsFault : Block → StepFault → Type 0) (k : Block) (f : StepFault) → s.block ≡ Some k → (IsFault k faults.NoBlock → ⊥) → IsFault k f → IsInsideFault s IsFault f
inside_fault s IsFault k faults.NoBlock some never h = absurd (never h)
inside_fault s IsFault k _ some never h = (k, some, h)

inside_step : (s : State) (Leads : State → Type 0) (IsFault : Block → StepFault → Type 0) → ((k : Block) → IsFault k faults.NoBlock → ⊥)
    → ((k : Block) → s.block ≡ Some k → Judged Leads (IsFault k)) → Judged Leads (IsInsideFault s IsFault)
inside_step s Leads IsFault never judged = by (none_or_some s.block)
  where
    from : (k : Block) → s.block ≡ Some k → Judged Leads (IsFault k) → Judged Leads (IsInsideFault s IsFault)
    from k some (inl legal) = inl legal
    from k some (inr (f, h)) = inr (f, inside_fault s IsFault k f some (never k) h)

    by : (s.block ≡ None) ⊎ ((k : Block) × (s.block ≡ Some k)) → Judged Leads (IsInsideFault s IsFault)
    by (inl none) = inr (faults.NoBlock, none)
    by (inr (k, some)) = from k some (judged k some)

-- red .. ; begin

begin_from : (s : State) (c : Signed) (images : Images) → Decided ((n : NormalConstraint) × IsAdmitted c n) → Decided (HasRoom s)
    → Judged (LegalRedBegin s c images) (IsRedBeginFault s c)
begin_from s c images (inr none) room = inr (faults.TooLarge, λ n m admitted negated fits. none (n, admitted))
begin_from s c images (inl (n, admitted)) room = by (fits_decided (negation n)) room
  where
    negated : IsNegation n (negation n)
    negated = negation_is n admitted.form.rises

    unfit : (Fits (negation n) → ⊥) → (k m : NormalConstraint) → IsAdmitted c k → IsNegation k m → Fits m → ⊥
    unfit not k m admitted' negated' fits =
        let same : k ≡ n = one_admitted c k n admitted' admitted in
        not (subst Fits (one_negation n m (negation n) admitted.form.rises (subst (λ x. IsNegation x m) same negated') negated) fits)

    by : Decided (Fits (negation n)) → Decided (HasRoom s) → Judged (LegalRedBegin s c images) (IsRedBeginFault s c)
    by (inr not) room = inr (faults.TooLarge, unfit not)
    by (inl fits) (inl room) = inl (with_block (new_block n images s.next) (negation n) s, (n, negation n, admitted, negated, fits, room, refl))
    by (inl fits) (inr full) = inr (faults.TooManyIds, ((n, negation n, admitted, negated, fits), full))

pub begin_judged : (s : State) (c : Signed) (images : Images) → Judged (λ t. IsOutside s × LegalRedBegin s c images t) (IsOutsideFault s (IsRedBeginFault s c))
begin_judged s c images =
    outside_step s (LegalRedBegin s c images) (IsRedBeginFault s c) (λ h. h) (begin_from s c images (admitted_decided c) (room_decided s))

-- proofgoal

true_or_false : (b : Bool) → Decided (b ≡ false)
true_or_false true = inr (λ h. absurd (cc))
true_or_false false = inl refl

unopened_decided : (k : Block) (id : ℕ) → Decided (IsUnopened k id)
unopened_decided k id = both_decided (id < k.first) (set.contains k.opened id ≡ false) (lt_decided id k.first) (true_or_false (set.contains k.opened id))

abbrev Asked : Opb → State → Block → GoalName → Type 0
Asked p s k name = (r : NormalConstraint) × Asks p s k name r

live_asked : (p : Opb) (s : State) (k : Block) (number : _) → Decided (IsUnopened k (id_of s.next number))
    → (fin.get s.live (id_of s.next number) ≡ None) ⊎ ((e : NormalConstraint) × (fin.get s.live (id_of s.next number) ≡ Some e)) → Decided (Asked p s k (names.Live number))
live_asked p s k number (inr opened) found = inr (λ (r, asks). opened asks.0)
live_asked p s k number (inl unopened) (inl none) = inr (λ (r, (also, (e, is, under))). none_some (fin.get s.live (id_of s.next number)) e none is)
live_asked p s k number (inl unopened) (inr (e, is)) = inl (form (substituted e k.images), (unopened, (e, is, form_is (substituted e k.images))))

own_asked : (p : Opb) (s : State) (k : Block) → Decided (k.itself ≡ false) → Decided (Asked p s k names.Itself)
own_asked p s k (inr opened) = inr (λ (r, asks). opened asks.0)
own_asked p s k (inl unopened) = inl (form (substituted k.constraint k.images), (unopened, form_is (substituted k.constraint k.images)))

objective_asked : (p : Opb) (s : State) (k : Block) → Decided (k.objective ≡ false) → (p.objective ≡ None) ⊎ ((terms : List Term) × (p.objective ≡ Some terms))
    → Decided (Asked p s k names.Objective)
objective_asked p s k (inr opened) found = inr (λ (r, asks). opened asks.0)
objective_asked p s k (inl unopened) (inl none) = inr (λ (r, (also, (terms, is, target))). none_some p.objective terms none is)
objective_asked p s k (inl unopened) (inr (terms, is)) = inl (form (not_raised terms k.images), (unopened, (terms, is, form_is (not_raised terms k.images))))

asked_decided : (p : Opb) (s : State) (k : Block) (name : GoalName) → Decided (Asked p s k name)
asked_decided p s k (names.Live number) = live_asked p s k number (unopened_decided k (id_of s.next number)) (none_or_some (fin.get s.live (id_of s.next number)))
asked_decided p s k names.Itself = own_asked p s k (true_or_false k.itself)
asked_decided p s k names.Objective = objective_asked p s k (true_or_false k.objective) (none_or_some p.objective)

abbrev GoalJudged : Opb → State → GoalName → Block → Type 0
GoalJudged p s name k = Judged (LegalGoal p s name) (IsProofGoalFault p s name k)

goal_from : (p : Opb) (s : State) (name : GoalName) (k : Block) → s.block ≡ Some k → k.goal ≡ None → (r : NormalConstraint) → Asks p s k name r
    → Decided (Fits (negation r)) → Decided (HasRoom s) → GoalJudged p s name k
goal_from p s name k some none r asks (inr not) room =
    let rises = rises_asked p s k name r asks in
    inr (faults.TooLarge, (none, (r, asks, λ m negated fits. not (subst Fits (one_negation r m (negation r) rises negated (negation_is r rises)) fits))))
goal_from p s name k some none r asks (inl fits) (inl room) =
    let negated = negation_is r (rises_asked p s k name r asks) in
    inl (with_block (with_goal s.next name k) (negation r) s, (k, r, negation r, some, none, asks, negated, fits, room, refl))
goal_from p s name k some none r asks (inl fits) (inr full) =
    let negated = negation_is r (rises_asked p s k name r asks) in
    inr (faults.TooManyIds, (none, (r, negation r, asks, negated, fits), full))

goal_in : (p : Opb) (s : State) (name : GoalName) (k : Block) → s.block ≡ Some k → (k.goal ≡ None) ⊎ ((g : ℕ) × (k.goal ≡ Some g)) → Decided (Asked p s k name) → GoalJudged p s name k
goal_in p s name k some (inr (g, opens)) asked = inr (faults.BlockOpen, λ none. none_some k.goal g none opens)
goal_in p s name k some (inl none) (inr unknown) = inr (faults.GoalUnknown, (none, λ r asks. unknown (r, asks)))
goal_in p s name k some (inl none) (inl (r, asks)) = goal_from p s name k some none r asks (fits_decided (negation r)) (room_decided s)

pub goal_judged : (p : Opb) (s : State) (name : GoalName) → Judged (LegalGoal p s name) (IsInsideFault s (IsProofGoalFault p s name))
goal_judged p s name =
    inside_step s (LegalGoal p s name) (IsProofGoalFault p s name) (λ k h. h) (λ k some. goal_in p s name k some (none_or_some k.goal) (asked_decided p s k name))

-- end

abbrev EndJudged : Opb → State → Block → Option ℕ → Type 0
EndJudged p s k o = ((t : State) × EndsOpen p s k o t) ⊎ ((f : StepFault) × IsEndFault p s k o f)

goal_end : (p : Opb) (s : State) (k : Block) (g : ℕ) → Decided (IsShown (constraints s) absurdity) → EndJudged p s k (Some g)
goal_end p s k g (inl shown) = inl (closed g k s, (shown, refl))
goal_end p s k g (inr not) = inr (faults.GoalNotClosed, not)

pub unopened_fault : (p : Opb) (s : State) (k : Block) (f : StepFault) → HasRoom s → IsUnopenedFault p s k f → IsBlockEndFault p s k f
unopened_fault p s k faults.TooManyIds room h = absurd h
unopened_fault p s k _ room h = (room, h)

objective_end : (p : Opb) (s : State) (k : Block) → HasRoom s → AreLiveShown s k → IsItselfShown s k → Decided (k.objective ≡ false)
    → (p.objective ≡ None) ⊎ ((terms : List Term) × (p.objective ≡ Some terms)) → EndJudged p s k None
objective_end p s k room live own (inr opened) found =
    inl (finished k s, record { room = room; each_live = live; itself = own; objective = λ unopened. absurd (opened unopened); becomes = refl })
objective_end p s k room live own (inl unopened) (inl none) =
    inl (
      finished k s,
      record {
        room = room;
        each_live = live;
        itself = own;
        objective = λ _. subst (λ o. IfSome o (IsShownNotRaised (constraints s) k.images)) (sym none) tt;
        becomes = refl;
      },
    )
objective_end p s k room live own (inl unopened) (inr (terms, is)) = by (not_raised_decided (constraints s) k.images terms)
  where
    by : Decided (IsShownNotRaised (constraints s) k.images terms) → EndJudged p s k None
    by (inl shown) =
        inl (
          finished k s,
          record {
            room = room;
            each_live = live;
            itself = own;
            objective = λ _. subst (λ o. IfSome o (IsShownNotRaised (constraints s) k.images)) (sym is) shown;
            becomes = refl;
          },
        )
    by (inr not) = inr (faults.GoalOpenObjective, (room, (live, own, unopened, (terms, is, not))))

own_end : (p : Opb) (s : State) (k : Block) → HasRoom s → AreLiveShown s k → Decided (k.itself ≡ false) → Decided (IsShownUnder (constraints s) k.images k.constraint) → EndJudged p s k None
own_end p s k room live (inr opened) d =
    objective_end p s k room live (λ unopened. absurd (opened unopened)) (true_or_false k.objective) (none_or_some p.objective)
own_end p s k room live (inl unopened) (inl shown) =
    objective_end p s k room live (λ _. shown) (true_or_false k.objective) (none_or_some p.objective)
own_end p s k room live (inl unopened) (inr not) = inr (faults.GoalOpenSelf, (room, (live, unopened, not)))

block_end : (p : Opb) (s : State) (k : Block) → Decided (HasRoom s) → EndJudged p s k None
block_end p s k (inr full) = inr (faults.TooManyIds, full)
block_end p s k (inl room) =
    elim (First_open_or_all (IsUnopened k) (IsShownUnder (constraints s) k.images) (unopened_decided k) (under_decided (constraints s) k.images) s.live) as (λ _. EndJudged p s k None) [
      | inl live ↦ own_end p s k room live (true_or_false k.itself) (under_decided (constraints s) k.images k.constraint)
      | inr (id, e, unopened, is, not, before) ↦ inr (faults.GoalOpen id, (room, (e, unopened, is, not, before)))
    ]

open_end : (p : Opb) (s : State) (k : Block) (o : Option ℕ) → EndJudged p s k o
open_end p s k (Some g) = goal_end p s k g (shown_decided (constraints s) absurdity tt)
open_end p s k None = block_end p s k (room_decided s)

end_in : (p : Opb) (s : State) (k : Block) → s.block ≡ Some k → EndJudged p s k k.goal → Judged (LegalEnd p s) (IsEndFault p s k k.goal)
end_in p s k some (inl (t, ends)) = inl (t, (k, some, ends))
end_in p s k some (inr fault) = inr fault

pub no_end_fault : (p : Opb) (s : State) (k : Block) (o : Option ℕ) → IsEndFault p s k o faults.NoBlock → ⊥
no_end_fault p s k (Some g) h = h
no_end_fault p s k None h = h.1

pub end_judged : (p : Opb) (s : State) → Judged (LegalEnd p s) (IsInsideFault s (λ k. IsEndFault p s k k.goal))
end_judged p s = inside_step s (LegalEnd p s) (λ k. IsEndFault p s k k.goal) (λ k. no_end_fault p s k k.goal) (λ k some. end_in p s k some (open_end p s k k.goal))
