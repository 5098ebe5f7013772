-- A step that has a fault is not legal, and a conclusion that has one is not justified.
use Rattle.std.proofs.Common.{◌≡◌, ◌≢◌, ℕ, ℤ, ◌<ℤ◌, ◌≤ℤ◌, ◌⊎◌, inl, inr, Bool, List, [], ◌∷◌, ◌++◌, Option, Some, None, All, IfSome, IsSome, length, refl, sym, subst, ◌∙◌, arith}
use Rattle.std.proofs.lemmas.Bool.{false≢true}
use Rattle.std.proofs.lemmas.Int.{ints}
use Rattle.linear.specs.declared.constraint.Signed.{Signed}
use Rattle.linear.specs.declared.term.Lit.{Lit}
use Rattle.linear.specs.declared.term.Term.{Term}
use Rattle.linear.specs.Opb.{Opb}
use Rattle.normal_form.specs.Normal.{NormalConstraint, Fits, Rises}
use Rattle.normal_form.specs.Negation.{IsNegation}
use Rattle.normal_form.proofs.NormalForm.{one_form}
use Rattle.normal_form.proofs.Negations.{one_negation}
use Rattle.substitution.specs.Images.{Images}
use Rattle.substitution.specs.Under.{substituted, IsUnder}
use Rattle.substitution.specs.Objective.{not_raised, IsObjectiveGoal}
use Rattle.proof_steps.specs.declared.conclusion.Conclusion.{Conclusion}
use Rattle.proof_steps.specs.declared.conclusion.Lower.{Lower}
use Rattle.proof_steps.specs.declared.conclusion.Upper.{Upper}
use Rattle.proof_steps.specs.declared.conclusion.Conclusion.TheVariants as conclusions
use Rattle.proof_steps.specs.declared.conclusion.Lower.TheVariants as lowers
use Rattle.proof_rules.specs.declared.fault.StepFault.{StepFault}
use Rattle.proof_rules.specs.declared.fault.StepFault.TheVariants as faults
use Rattle.proof_steps.specs.declared.step.GoalName.{GoalName}
use Rattle.proof_steps.specs.declared.step.GoalName.TheVariants as names
use Rattle.proof_steps.specs.declared.step.Item.{Item}
use Rattle.proof_steps.specs.declared.step.Step.{Step}
use Rattle.proof_steps.specs.declared.step.Step.TheVariants as steps
use Rattle.proof_rules.specs.Fault as judging
use Rattle.proof_rules.specs.Fault.{IsPolFault, IsAdmissionFault, IsRupFault, IsGoalFault, IsRedFault, IsSolFault, IsSoliFault, IsDelFault, IsStepFault, IsUnsatFault, IsBoundFault, IsLowerFault, IsUpperFault, IsBoundsFault, IsSatFault, IsHintFault, IsUnjustified, IsConclusionFault, IsOutsideFault, IsInsideFault, IsRedBeginFault, IsProofGoalFault, IsUnopenedFault, IsBlockEndFault, IsGoalEndFault, IsEndFault}
use Rattle.proof_rules.specs.Justified as justified
use Rattle.proof_rules.specs.Justified.{IsExhausted, IsLowerBound, EntitlesLower, TakesHint, IsEarned, IsJustified}
use Rattle.proof_rules.specs.Legal.{Legal, LegalPol, LegalRup, LegalRed, LegalSoli, LegalDel, Logs, worth_of, without}
use Rattle.proof_rules.specs.Redundant.{IsShownUnder, IsShownNotRaised}
use Rattle.proof_rules.specs.Block.{LegalRedBegin, Asks, EndsBlock, EndsOpen}
use Rattle.proof_rules.specs.Shown.{IsShown, IsAdmitted, absurdity}
use Rattle.proof_rules.specs.Solution.{at_least}
use Rattle.proof_rules.specs.State.{State, Block, constraints, constraint_of, id_of, HasRoom, IsOutside}
use Rattle.proof_rules.proofs.Completing.{gap_never}
use Rattle.proof_rules.proofs.Determined.{writing_never}
use Rattle.proof_rules.proofs.LiveConstraints.{All-get}

pol_never : (s t : State) (written : List Item) (f : StepFault) → IsPolFault s written f → LegalPol s written t → ⊥
pol_never s t written faults.TooManyIds (n, polish, full) (m, polish', adds) = full adds.0
pol_never s t written f h (n, polish, adds) = writing_never (constraint_of s) written n f h polish

pub admitted_never : (s : State) (c : Signed) (n : NormalConstraint) (f : StepFault) → IsAdmissionFault s c f → IsAdmitted c n → HasRoom s → ⊥
admitted_never s c n faults.TooLarge h admitted room = h n admitted
admitted_never s c n faults.TooManyIds (some, full) admitted room = full room
admitted_never s c n _ h admitted room = h

pub one_admitted : (c : Signed) (n m : NormalConstraint) → IsAdmitted c n → IsAdmitted c m → n ≡ m
one_admitted c n m a b = one_form c n m a.form b.form

rup_never : (s t : State) (c : Signed) (f : StepFault) → IsRupFault s c f → LegalRup s c t → ⊥
rup_never s t c faults.NotShown (n, admitted, room, not) (m, admitted', shown, adds) =
    not (subst (IsShown (constraints s)) (one_admitted c m n admitted' admitted) shown)
rup_never s t c f h (m, admitted, shown, adds) = admitted_never s c m f h admitted adds.0

goal_never : (p : Opb) (s : State) (from : List NormalConstraint) (images : Images) (n : NormalConstraint) (f : StepFault)
    → All (IsShownUnder from images) (constraints s) → IsShownUnder from images n → IfSome p.objective (IsShownNotRaised from images)
    → IsGoalFault p s from images n f → ⊥
goal_never p s from images n (faults.GoalOpen id) live itself objective (e, is, not, before) = not (All-get (IsShownUnder from images) s.live id e live is)
goal_never p s from images n faults.GoalOpenSelf live itself objective (all, not) = not itself
goal_never p s from images n faults.GoalOpenObjective live itself objective (all, self, (terms, is, not)) = not (subst (λ o. IfSome o (IsShownNotRaised from images)) is objective)
goal_never p s from images n _ live itself objective h = h

red_never : (p : Opb) (s t : State) (c : Signed) (images : Images) (f : StepFault) → IsRedFault p s c images f → LegalRed p s c images t → ⊥
red_never p s t c images f (inl h) (n, m, admitted, r, adds) = admitted_never s c n f h admitted adds.0
red_never p s t c images f (inr (n, m, admitted, room, negated, goal)) (k, j, admitted', r, adds) =
    let same : n ≡ k = one_admitted c n k admitted admitted' in
    let other : m ≡ j = one_negation k m j admitted'.form.rises (subst (λ z. IsNegation z m) same negated) r.negation in
    goal_never p s (constraints s ++ j ∷ []) images k f r.each_live r.itself r.objective
    (subst (λ z. IsGoalFault p s (constraints s ++ z ∷ []) images k f) other (subst (λ z. IsGoalFault p s (constraints s ++ m ∷ []) images z f) same goal))

pub sol_never : (p : Opb) (s : State) (assigned : List Lit) (g : List Bool) (f : StepFault) → IsSolFault p s assigned f → Logs p s assigned g → ⊥
sol_never p s assigned g faults.SolutionConflict (inl not) logs = not logs.completes.consistent
sol_never p s assigned g faults.SolutionConflict (inr (consistent, not_all, leads)) logs =
    elim (logs.completes.completed) as (λ _. ⊥) [ inl h ↦ not_all h.0 | inr h ↦ h.1 leads ]
sol_never p s assigned g faults.SolutionPartial (consistent, no_conflict, (v, below, none)) logs =
    gap_never (constraints s) (length p.names) assigned v below none g logs.completes
sol_never p s assigned g faults.SolutionFalse (some, breaks) logs = breaks g logs.completes logs.satisfies
sol_never p s assigned g _ h logs = h

pub less_never : (x y : ℤ) → x <ℤ y → y ≤ℤ x → ⊥
less_never x y h k = omega (arith, ints, h, k)

pub none_some : {A : Type 0} (o : Option A) (x : A) → o ≡ None → o ≡ Some x → ⊥
none_some o x h k = let same : None ≡ Some x = sym h ∙ k in absurd (cc)

soli_never : (p : Opb) (s t : State) (assigned : List Lit) (f : StepFault) → IsSoliFault p s assigned f → LegalSoli p s assigned t → ⊥
soli_never p s t assigned faults.NoObjective none (objective, g, n, better, is) = none_some p.objective objective none better.minimises
soli_never p s t assigned faults.NotImproving (some, log, not) (objective, g, n, better, is) =
    let worse = not g better.logs in
    less_never (worth_of p g) worse.0 (subst (λ o. IfSome o (λ least. worth_of p g <ℤ least)) worse.1 better.better) worse.2
soli_never p s t assigned faults.TooManyIds (some, log, full) (objective, g, n, better, is) = full better.room
soli_never p s t assigned f h (objective, g, n, better, is) = sol_never p s assigned g f h.1 better.logs

pub is_some_never : {A : Type 0} (o : Option A) → o ≡ None → IsSome o → ⊥
is_some_never o h k = subst (λ x. IsSome x → ⊥) (sym h) (λ n. false≢true n) k

pub one_deletion : (s t u : State) (ids : List ℤ) → LegalDel s ids t → LegalDel s ids u → t ≡ u
one_deletion s t u [] x y = x ∙ sym y
one_deletion s t u (id ∷ ids) (d, x) (e, y) = one_deletion (without (id_of s.next id) s) t u ids x y

pub first_ids : (s t : State) (xs ys : List ℤ) → LegalDel s (xs ++ ys) t → (u : State) × LegalDel s xs u × LegalDel u ys t
first_ids s t [] ys legal = (s, refl, legal)
first_ids s t (id ∷ xs) ys (d, rest) = let r = first_ids (without (id_of s.next id) s) t xs ys rest in (r.0, (d, r.1), r.2)

del_never : (s t : State) (ids : List ℤ) (f : StepFault) → IsDelFault s ids f → LegalDel s ids t → ⊥
del_never s t ids faults.DeadId (before, id, behind, between, is, legal, dead) whole =
    let r = first_ids s t before (id ∷ behind) (subst (λ xs. LegalDel s xs t) is whole) in
    let same : between ≡ r.0 = one_deletion s between r.0 before legal r.1 in
    is_some_never (constraint_of r.0 id) (subst (λ u. constraint_of u id ≡ None) same dead) r.2.0
del_never s t ids _ h whole = h

pub one_objective : (o : Option (List Term)) (x y : List Term) → o ≡ Some x → o ≡ Some y → x ≡ y
one_objective o x y h k = let same : Some x ≡ Some y = sym h ∙ k in cc

-- what may stand outside blocks alone, and what in a block alone

pub outside_never : (s : State) (IsFault : StepFault → Type 0) (Is : Type 0) (f : StepFault) → ((g : StepFault) → IsFault g → Is → ⊥) → IsOutsideFault s IsFault f
    → IsOutside s → Is → ⊥
outside_never s IsFault Is faults.BlockOpen never h outside is = h outside
outside_never s IsFault Is f never h outside is = never f h.1 is

pub one_block : (o : Option Block) (k j : Block) → o ≡ Some k → o ≡ Some j → k ≡ j
one_block o k j h i = let same : Some k ≡ Some j = sym h ∙ i in cc

inside_never : (s : State) (IsFault : Block → StepFault → Type 0) (k : Block) (f : StepFault) → ((g : StepFault) → IsFault k g → ⊥) → IsInsideFault s IsFault f → s.block ≡ Some k → ⊥
inside_never s IsFault k faults.NoBlock never h some = none_some s.block k h some
inside_never s IsFault k f never h some = never f (subst (λ j. IsFault j f) (one_block s.block h.0 k h.1 some) h.2)

begin_never : (s t : State) (c : Signed) (images : Images) (f : StepFault) → IsRedBeginFault s c f → LegalRedBegin s c images t → ⊥
begin_never s t c images faults.TooLarge none (n, m, admitted, negated, fits, room, is) = none n m admitted negated fits
begin_never s t c images faults.TooManyIds (some, full) (n, m, admitted, negated, fits, room, is) = full room
begin_never s t c images _ h legal = h

-- a name asks for one constraint
pub one_asked : (p : Opb) (s : State) (k : Block) (name : GoalName) (r q : NormalConstraint) → Asks p s k name r → Asks p s k name q → r ≡ q
one_asked p s k (names.Live number) r q (unopened, (e, is, under)) (unopened', (d, is', under')) =
    let same : Some d ≡ Some e = sym is' ∙ is in
    let live : d ≡ e = cc in
    one_form (substituted e k.images) r q under (subst (λ x. IsUnder x k.images q) live under')
one_asked p s k names.Itself r q (unopened, under) (unopened', under') = one_form (substituted k.constraint k.images) r q under under'
one_asked p s k names.Objective r q (unopened, (terms, is, target)) (unopened', (other, is', target')) =
    one_form (not_raised terms k.images) r q target (subst (λ o. IsObjectiveGoal o k.images q) (one_objective p.objective other terms is' is) target')

pub rises_asked : (p : Opb) (s : State) (k : Block) (name : GoalName) (r : NormalConstraint) → Asks p s k name r → Rises 0 r.terms
rises_asked p s k (names.Live number) r (unopened, (e, is, under)) = under.rises
rises_asked p s k names.Itself r (unopened, under) = under.rises
rises_asked p s k names.Objective r (unopened, (terms, is, target)) = target.rises

goal_open_never : (p : Opb) (s : State) (name : GoalName) (k : Block) (r m : NormalConstraint) (f : StepFault) → k.goal ≡ None → Asks p s k name r → IsNegation r m → Fits m → HasRoom s
    → IsProofGoalFault p s name k f → ⊥
goal_open_never p s name k r m faults.BlockOpen none asks negated fits room opens = opens none
goal_open_never p s name k r m faults.GoalUnknown none asks negated fits room (none', unknown) = unknown r asks
goal_open_never p s name k r m faults.TooLarge none asks negated fits room (none', (q, asks', unfit)) =
    unfit m (subst (λ x. IsNegation x m) (one_asked p s k name r q asks asks') negated) fits
goal_open_never p s name k r m faults.TooManyIds none asks negated fits room (none', some, full) = full room
goal_open_never p s name k r m _ none asks negated fits room h = h

unopened_never : (p : Opb) (s t : State) (k : Block) (f : StepFault) → IsUnopenedFault p s k f → EndsBlock p s k t → ⊥
unopened_never p s t k (faults.GoalOpen id) (e, unopened, is, not, before) ends = not (ends.each_live id e unopened is)
unopened_never p s t k faults.GoalOpenSelf (live, unopened, not) ends = not (ends.itself unopened)
unopened_never p s t k faults.GoalOpenObjective (live, own, unopened, (terms, is, not)) ends =
    not (subst (λ o. IfSome o (IsShownNotRaised (constraints s) k.images)) is (ends.objective unopened))
unopened_never p s t k _ h ends = h

block_end_never : (p : Opb) (s t : State) (k : Block) (f : StepFault) → IsBlockEndFault p s k f → EndsBlock p s k t → ⊥
block_end_never p s t k faults.TooManyIds full ends = full ends.room
block_end_never p s t k f h ends = unopened_never p s t k f h.1 ends

goal_end_never : (s : State) (f : StepFault) → IsGoalEndFault s f → IsShown (constraints s) absurdity → ⊥
goal_end_never s faults.GoalNotClosed not shown = not shown
goal_end_never s _ h shown = h

end_never : (p : Opb) (s t : State) (k : Block) (o : Option ℕ) (f : StepFault) → IsEndFault p s k o f → EndsOpen p s k o t → ⊥
end_never p s t k (Some goal) f h (shown, is) = goal_end_never s f h shown
end_never p s t k None f h ends = block_end_never p s t k f h ends

pub step_never : (p : Opb) (s : State) (step : Step) (f : StepFault) (t : State) → IsStepFault p s step f → Legal p s step t → ⊥
step_never p s (steps.Pol written) f t h legal = pol_never s t written f h legal
step_never p s (steps.Rup c) f t h legal = rup_never s t c f h legal
step_never p s (steps.Red c images) f t h (outside, legal) =
    outside_never s (IsRedFault p s c images) (LegalRed p s c images t) f (λ g i is. red_never p s t c images g i is) h outside legal
step_never p s (steps.Sol assigned) f t h (outside, (g, logs, is)) =
    outside_never s (IsSolFault p s assigned) (Logs p s assigned g) f (λ e i logs. sol_never p s assigned g e i logs) h outside logs
step_never p s (steps.Soli assigned) f t h (outside, legal) =
    outside_never s (IsSoliFault p s assigned) (LegalSoli p s assigned t) f (λ g i is. soli_never p s t assigned g i is) h outside legal
step_never p s (steps.Del ids) f t h (outside, legal) =
    outside_never s (IsDelFault s ids) (LegalDel s ids t) f (λ g i is. del_never s t ids g i is) h outside legal
step_never p s (steps.RedBegin c images) f t h (outside, legal) =
    outside_never s (IsRedBeginFault s c) (LegalRedBegin s c images t) f (λ g i is. begin_never s t c images g i is) h outside legal
step_never p s (steps.Goal name) f t h (k, r, m, some, none, asks, negated, fits, room, is) =
    inside_never s (IsProofGoalFault p s name) k f (λ g i. goal_open_never p s name k r m g none asks negated fits room i) h some
step_never p s steps.End f t h (k, some, ends) = inside_never s (λ j. IsEndFault p s j j.goal) k f (λ g i. end_never p s t k k.goal g i ends) h some

pub unsat_never : (s : State) (f : StepFault) → IsUnsatFault s f → IsExhausted s → ⊥
unsat_never s faults.SolutionLogged some e = some e.unlogged
unsat_never s faults.LowerNotShown (none, not) e = not e.shown
unsat_never s _ h e = h

bound_never : (s : State) (objective : List Term) (bound : ℤ) (n : NormalConstraint) (f : StepFault) → IsBoundFault s objective bound f → IsLowerBound s objective bound n → ⊥
bound_never s objective bound n faults.LowerAboveBest (least, is, above) low = less_never least bound above (subst (λ o. IfSome o (λ x. bound ≤ℤ x)) is low.below)
bound_never s objective bound n faults.TooLarge (below, none) low = none n low.form low.fits
bound_never s objective bound n faults.LowerNotShown (below, (m, form, fits, not)) low =
    not (subst (IsShown (constraints s)) (one_form (at_least objective bound) n m low.form form) low.shown)
bound_never s objective bound n _ h low = h

pub lower_never : (s : State) (objective : List Term) (lower : Lower) (f : StepFault) → IsLowerFault s objective lower f → EntitlesLower s objective lower → ⊥
lower_never s objective lowers.MinusInf f h low = h
lower_never s objective (lowers.At bound) f h (n, low) = bound_never s objective bound n f h low
lower_never s objective lowers.Inf f h low = unsat_never s f h low

upper_never : (p : Opb) (s : State) (upper : Upper) (f : StepFault) → IsUpperFault p s upper f → justified.EntitlesUpper p s upper → ⊥
upper_never p s upper faults.UpperNotLogged not up = not up
upper_never p s upper _ h up = h

bounds_never : (p : Opb) (s : State) (objective : List Term) (lower : Lower) (upper : Upper) (f : StepFault) → IsBoundsFault p s objective lower upper f
    → EntitlesLower s objective lower → justified.EntitlesUpper p s upper → ⊥
bounds_never p s objective lower upper f (inl h) low up = lower_never s objective lower f h low
bounds_never p s objective lower upper f (inr (low', h)) low up = upper_never p s upper f h up

pub sat_never : (s : State) (f : StepFault) → IsSatFault s f → s.logged ≢ [] → ⊥
sat_never s faults.UpperNotLogged none some = some none
sat_never s _ h some = h

pub hint_never : (p : Opb) (s t : State) (hint : Option (List Lit)) (f : StepFault) → IsHintFault p s hint f → TakesHint p s hint t → ⊥
hint_never p s t None f h takes = h
hint_never p s t (Some assigned) f h (g, logs, is) = sol_never p s assigned g f h logs

bounded_never : (p : Opb) (s : State) (lower : Lower) (upper : Upper) (hint : Option (List Lit)) (best : Option (List Bool)) (f : StepFault)
    → ((objective : List Term) × (p.objective ≡ Some objective)
    × (IsHintFault p s hint f ⊎ judging.IsBehindHint p s hint (λ t. IsBoundsFault p t objective lower upper f)))
    → IsEarned p s (conclusions.Bounds lower upper hint) best → ⊥
bounded_never p s lower upper hint best f (objective, is, inl h) (t, takes, holds, b) = hint_never p s t hint f h takes
bounded_never p s lower upper hint best f (objective, is, inr (some, h)) (t, takes, (objective', is', low, up), b) =
    let same : objective ≡ objective' = one_objective p.objective objective objective' is is' in
    bounds_never p t objective' lower upper f (subst (λ o. IsBoundsFault p t o lower upper f) same (h t takes)) low up

unjustified_never : (p : Opb) (s : State) (c : Conclusion) (f : StepFault) (best : Option (List Bool)) → IsUnjustified p s c f → IsEarned p s c best → ⊥
unjustified_never p s conclusions.Nothing f best h j = h
unjustified_never p s (conclusions.Sat hint) f best (inl h) (t, takes, holds, b) = hint_never p s t hint f h takes
unjustified_never p s (conclusions.Sat hint) f best (inr (some, h)) (t, takes, holds, b) = sat_never t f (h t takes) holds
unjustified_never p s conclusions.Unsat f best h (t, takes, holds, b) = unsat_never s f h (subst IsExhausted takes holds)
unjustified_never p s (conclusions.Bounds lower upper hint) faults.NoObjective best none (t, takes, (objective, is, low, up), b) = none_some p.objective objective none is
unjustified_never p s (conclusions.Bounds lower upper hint) f best h j = bounded_never p s lower upper hint best f h j

pub conclusion_never : (p : Opb) (s : State) (c : Conclusion) (f : StepFault) (best : Option (List Bool)) → IsConclusionFault p s c f → IsJustified p s c best → ⊥
conclusion_never p s c f best h (outside, earned) =
    outside_never s (IsUnjustified p s c) (IsEarned p s c best) f (λ g i is. unjustified_never p s c g best i is) h outside earned
