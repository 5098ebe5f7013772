-- Every conclusion is justified, with the best logged solution, or has a fault.
use Rattle.std.proofs.Common.{◌≡◌, ◌≢◌, ◌⊎◌, inl, inr, ℤ, ◌<ℤ◌, ◌≤ℤ◌, Bool, List, [], ◌∷◌, Option, Some, None, All, IfSome, refl, sym, ap, subst, ◌∙◌, arith}
use Rattle.std.proofs.lemmas.Int.{ints}
use Rattle.std.proofs.lemmas.List.Elements.{All-nil, All-cons, All-weaker}
use Rattle.linear.specs.declared.term.Lit.{Lit}
use Rattle.linear.specs.declared.term.Term.{Term}
use Rattle.linear.specs.Opb.{Opb}
use Rattle.normal_form.specs.Normal.{NormalConstraint, Fits}
use Rattle.normal_form.proofs.NormalForm.{form, form_is, one_form}
use Rattle.proof_steps.specs.declared.conclusion.Conclusion.{Conclusion}
use Rattle.proof_steps.specs.declared.conclusion.Lower.{Lower}
use Rattle.proof_steps.specs.declared.conclusion.Upper.{Upper}
use Rattle.proof_steps.specs.declared.conclusion.Conclusion.TheVariants as conclusions
use Rattle.proof_steps.specs.declared.conclusion.Lower.TheVariants as lowers
use Rattle.proof_steps.specs.declared.conclusion.Upper.TheVariants as uppers
use Rattle.proof_rules.specs.declared.fault.StepFault.{StepFault}
use Rattle.proof_rules.specs.declared.fault.StepFault.TheVariants as faults
use Rattle.proof_rules.specs.Fault as judging
use Rattle.proof_rules.specs.Fault.{IsUnsatFault, IsBoundFault, IsLowerFault, IsBoundsFault, IsSatFault, IsHintFault, IsUnjustified, IsConclusionFault}
use Rattle.proof_rules.specs.Justified.{IsExhausted, IsLowerBound, EntitlesLower, EntitlesUpper, TakesHint, IsBest, IsEarned, IsJustified}
use Rattle.proof_rules.specs.Legal.{with_solution, worth_of}
use Rattle.proof_rules.specs.Shown.{IsShown, absurdity}
use Rattle.proof_rules.specs.Solution.{at_least}
use Rattle.proof_rules.specs.State.{State, constraints}
use Rattle.proof_rules.proofs.BlocksJudged.{outside_judged}
use Rattle.proof_rules.proofs.Concluding.{best_least}
use Rattle.proof_rules.proofs.Deciding.{Decided, less_or_not, int_le_decided, any_decided}
use Rattle.proof_rules.proofs.ShownOrNot.{shown_decided, fits_decided}
use Rattle.proof_rules.proofs.SolJudged.{LogJudged, log_judged, one_log}

-- what is asked for is so, or some fault is there
abbrev Or : Type 0 → (StepFault → Type 0) → Type 0
Or P IsFault = P ⊎ ((f : StepFault) × IsFault f)

abbrev Logged : Type 0
Logged = List (List Bool)

-- the best of logged solutions

best_with : (p : Opb) (g h : List Bool) (rest : Logged) → IsBest p rest (Some h) → (worth_of p h <ℤ worth_of p g) ⊎ (worth_of p g ≤ℤ worth_of p h)
    → (best : Option (List Bool)) × IsBest p (g ∷ rest) best
best_with p g h rest (before, behind, is, less, no_more) (inl better) =
    (Some h, (g ∷ before, behind, ap (λ xs. g ∷ xs) is, All-cons (λ x. worth_of p h <ℤ worth_of p x) g before better less, no_more))
best_with p g h rest best (inr better) = (
  Some g,
  (
    [],
    rest,
    refl,
    All-nil (λ x. worth_of p g <ℤ worth_of p x),
    All-weaker (λ x. worth_of p h ≤ℤ worth_of p x) (λ x. worth_of p g ≤ℤ worth_of p x) (λ x more. omega (arith, ints, better, more)) rest (best_least p rest h best),
  ),
)

best_of_more : (p : Opb) (g : List Bool) (rest : Logged) (best : Option (List Bool)) → IsBest p rest best → (best : Option (List Bool)) × IsBest p (g ∷ rest) best
best_of_more p g rest None none =
    (Some g, ([], rest, refl, All-nil (λ x. worth_of p g <ℤ worth_of p x), subst (All (λ x. worth_of p g ≤ℤ worth_of p x)) (sym none) (All-nil (λ x. worth_of p g ≤ℤ worth_of p x))))
best_of_more p g rest (Some h) best = best_with p g h rest best (less_or_not (worth_of p h) (worth_of p g))

best_exists : (p : Opb) (logged : Logged) → (best : Option (List Bool)) × IsBest p logged best
best_exists p [] = (None, refl)
best_exists p (g ∷ rest) = let best = best_exists p rest in best_of_more p g rest best.0 best.1

-- what a conclusion asks of a state

empty_decided : (logged : Logged) → Decided (logged ≡ [])
empty_decided [] = inl refl
empty_decided (g ∷ rest) = inr (λ h. absurd (cc))

exhausted_from : (s : State) → Decided (s.logged ≡ []) → Decided (IsShown (constraints s) absurdity) → Or (IsExhausted s) (IsUnsatFault s)
exhausted_from s (inl empty) (inl shown) = inl (record { unlogged = empty; shown = shown })
exhausted_from s (inl empty) (inr not) = inr (faults.LowerNotShown, (empty, not))
exhausted_from s (inr some) d = inr (faults.SolutionLogged, some)

exhausted_judged : (s : State) → Or (IsExhausted s) (IsUnsatFault s)
exhausted_judged s = exhausted_from s (empty_decided s.logged) (shown_decided (constraints s) absurdity tt)

abbrev BoundJudged : State → List Term → ℤ → Type 0
BoundJudged s objective bound = Or ((n : NormalConstraint) × IsLowerBound s objective bound n) (IsBoundFault s objective bound)

bound_from : (s : State) (objective : List Term) (bound : ℤ) → IfSome s.least (λ least. bound ≤ℤ least) → Decided (Fits (form (at_least objective bound)))
    → Decided (IsShown (constraints s) (form (at_least objective bound))) → BoundJudged s objective bound
bound_from s objective bound below (inl fits) (inl shown) =
    let c = at_least objective bound in inl (form c, record { below = below; form = form_is c; fits = fits; shown = shown })
bound_from s objective bound below (inl fits) (inr not) =
    let c = at_least objective bound in inr (faults.LowerNotShown, (below, (form c, form_is c, fits, not)))
bound_from s objective bound below (inr breaks) d =
    let c = at_least objective bound in inr (faults.TooLarge, (below, λ n is fits. breaks (subst Fits (one_form c n (form c) is (form_is c)) fits)))

-- a bound is at most the least improving value, or above it
below_or_above : (s : State) (bound : ℤ) (o : Option ℤ) → s.least ≡ o → IfSome s.least (λ least. bound ≤ℤ least) ⊎ ((least : ℤ) × (s.least ≡ Some least) × (least <ℤ bound))
below_or_above s bound None is = inl (subst (λ o. IfSome o (λ least. bound ≤ℤ least)) (sym is) tt)
below_or_above s bound (Some least) is =
    elim (less_or_not least bound) as (λ _. IfSome s.least (λ least. bound ≤ℤ least) ⊎ ((least : ℤ) × (s.least ≡ Some least) × (least <ℤ bound))) [
      | inl above ↦ inr (least, is, above)
      | inr below ↦ inl (subst (λ o. IfSome o (λ least. bound ≤ℤ least)) (sym is) below)
    ]

bound_judged : (s : State) (objective : List Term) (bound : ℤ) → BoundJudged s objective bound
bound_judged s objective bound = elim (below_or_above s bound s.least refl) as (λ _. BoundJudged s objective bound) [
  | inr above ↦ inr (faults.LowerAboveBest, above)
  | inl below ↦
      let c = at_least objective bound in
      bound_from s objective bound below (fits_decided (form c)) (shown_decided (constraints s) (form c) (form_is c).rises)
]

lower_judged : (s : State) (objective : List Term) (lower : Lower) → Or (EntitlesLower s objective lower) (IsLowerFault s objective lower)
lower_judged s objective lowers.MinusInf = inl tt
lower_judged s objective (lowers.At bound) = bound_judged s objective bound
lower_judged s objective lowers.Inf = exhausted_judged s

upper_decided : (p : Opb) (s : State) (upper : Upper) → Decided (EntitlesUpper p s upper)
upper_decided p s (uppers.At bound) = any_decided (λ g. worth_of p g ≤ℤ bound) (λ g. int_le_decided (worth_of p g) bound) s.logged
upper_decided p s uppers.Inf = inl tt

abbrev BoundsJudged : Opb → State → List Term → Lower → Upper → Type 0
BoundsJudged p s objective lower upper = Or (EntitlesLower s objective lower × EntitlesUpper p s upper) (IsBoundsFault p s objective lower upper)

bounds_from : (p : Opb) (s : State) (objective : List Term) (lower : Lower) (upper : Upper) → Or (EntitlesLower s objective lower) (IsLowerFault s objective lower)
    → Decided (EntitlesUpper p s upper) → BoundsJudged p s objective lower upper
bounds_from p s objective lower upper (inr (f, fault)) d = inr (f, inl fault)
bounds_from p s objective lower upper (inl low) (inl up) = inl (low, up)
bounds_from p s objective lower upper (inl low) (inr none) = inr (faults.UpperNotLogged, inr (low, none))

bounds_judged : (p : Opb) (s : State) (objective : List Term) (lower : Lower) (upper : Upper) → BoundsJudged p s objective lower upper
bounds_judged p s objective lower upper = bounds_from p s objective lower upper (lower_judged s objective lower) (upper_decided p s upper)

sat_judged : (s : State) → Or (s.logged ≢ []) (IsSatFault s)
sat_judged s = elim (empty_decided s.logged) as (λ _. Or (s.logged ≢ []) (IsSatFault s)) [
  | inl empty ↦ inr (faults.UpperNotLogged, empty)
  | inr some ↦ inl some
]

-- hints

abbrev HintJudged : Opb → State → Option (List Lit) → Type 0
HintJudged p s hint = Or ((t : State) × TakesHint p s hint t) (IsHintFault p s hint)

hint_from : (p : Opb) (s : State) (assigned : List Lit) → LogJudged p s assigned → HintJudged p s (Some assigned)
hint_from p s assigned (inl (g, logs)) = inl (with_solution g s, (g, logs, refl))
hint_from p s assigned (inr fault) = inr fault

hint_judged : (p : Opb) (s : State) (hint : Option (List Lit)) → HintJudged p s hint
hint_judged p s None = inl (s, refl)
hint_judged p s (Some assigned) = hint_from p s assigned (log_judged p s assigned)

pub one_hint : (p : Opb) (s : State) (hint : Option (List Lit)) (t u : State) → TakesHint p s hint t → TakesHint p s hint u → t ≡ u
one_hint p s None t u is also = is ∙ sym also
one_hint p s (Some assigned) t u (g, logs, is) (h, also, same) = is ∙ ap (λ b. with_solution b s) (one_log p s assigned g h logs also) ∙ sym same

-- what is judged behind a hint, in the one state that it leads to
behind_hint : (p : Opb) (s t : State) (hint : Option (List Lit)) (condition : State → Type 0) → TakesHint p s hint t → condition t → judging.IsBehindHint p s hint condition
behind_hint p s t hint condition takes h = ((t, takes), λ u also. subst condition (one_hint p s hint t u takes also) h)

abbrev EarnedJudged : Opb → State → Conclusion → Type 0
EarnedJudged p s c = Or ((best : Option (List Bool)) × IsEarned p s c best) (IsUnjustified p s c)

sat_from : (p : Opb) (s : State) (hint : Option (List Lit)) → HintJudged p s hint → EarnedJudged p s (conclusions.Sat hint)
sat_from p s hint (inr (f, fault)) = inr (f, inl fault)
sat_from p s hint (inl (t, takes)) = elim (sat_judged t) as (λ _. EarnedJudged p s (conclusions.Sat hint)) [
  | inl some ↦ let best = best_exists p t.logged in inl (best.0, (t, takes, some, best.1))
  | inr (f, fault) ↦ inr (f, inr (behind_hint p s t hint (λ u. IsSatFault u f) takes fault))
]

unsat_from : (p : Opb) (s : State) → Or (IsExhausted s) (IsUnsatFault s) → EarnedJudged p s conclusions.Unsat
unsat_from p s (inl exhausted) = let best = best_exists p s.logged in inl (best.0, (s, refl, exhausted, best.1))
unsat_from p s (inr fault) = inr fault

-- the faults of a hint and of bounds, apart from that there is no objective
abbrev pub BehindObjective : Opb → State → List Term → Lower → Upper → Option (List Lit) → StepFault → Type 0
BehindObjective p s objective lower upper hint f = IsHintFault p s hint f ⊎ judging.IsBehindHint p s hint (λ t. IsBoundsFault p t objective lower upper f)

no_hint_fault : (p : Opb) (s : State) (hint : Option (List Lit)) → IsHintFault p s hint faults.NoObjective → ⊥
no_hint_fault p s None h = h
no_hint_fault p s (Some assigned) h = h

no_lower_fault : (s : State) (objective : List Term) (lower : Lower) → IsLowerFault s objective lower faults.NoObjective → ⊥
no_lower_fault s objective lowers.MinusInf h = h
no_lower_fault s objective (lowers.At bound) h = h
no_lower_fault s objective lowers.Inf h = h

no_bounds_fault : (p : Opb) (s : State) (objective : List Term) (lower : Lower) (upper : Upper) → IsBoundsFault p s objective lower upper faults.NoObjective → ⊥
no_bounds_fault p s objective lower upper (inl h) = no_lower_fault s objective lower h
no_bounds_fault p s objective lower upper (inr h) = h.1

never_behind : (p : Opb) (s : State) (objective : List Term) (lower : Lower) (upper : Upper) (hint : Option (List Lit)) → BehindObjective p s objective lower upper hint faults.NoObjective → ⊥
never_behind p s objective lower upper hint (inl h) = no_hint_fault p s hint h
never_behind p s objective lower upper hint (inr ((t, takes), h)) = no_bounds_fault p t objective lower upper (h t takes)

pub bounds_fault : (p : Opb) (s : State) (objective : List Term) (lower : Lower) (upper : Upper) (hint : Option (List Lit)) (f : StepFault) → p.objective ≡ Some objective
    → BehindObjective p s objective lower upper hint f → IsUnjustified p s (conclusions.Bounds lower upper hint) f
bounds_fault p s objective lower upper hint faults.NoObjective is h = absurd (never_behind p s objective lower upper hint h)
bounds_fault p s objective lower upper hint _ is h = (objective, is, h)

hinted_bounds : (p : Opb) (s : State) (objective : List Term) (lower : Lower) (upper : Upper) (hint : Option (List Lit)) → p.objective ≡ Some objective
    → HintJudged p s hint → EarnedJudged p s (conclusions.Bounds lower upper hint)
hinted_bounds p s objective lower upper hint is (inr (f, fault)) = inr (f, bounds_fault p s objective lower upper hint f is (inl fault))
hinted_bounds p s objective lower upper hint is (inl (t, takes)) =
    elim (bounds_judged p t objective lower upper) as (λ _. EarnedJudged p s (conclusions.Bounds lower upper hint)) [
      | inl (low, up) ↦ let best = best_exists p t.logged in inl (best.0, (t, takes, (objective, is, low, up), best.1))
      | inr (f, fault) ↦
          inr (f, bounds_fault p s objective lower upper hint f is (inr (behind_hint p s t hint (λ u. IsBoundsFault p u objective lower upper f) takes fault)))
    ]

with_objective : (p : Opb) (s : State) (lower : Lower) (upper : Upper) (hint : Option (List Lit)) (o : Option (List Term)) → p.objective ≡ o
    → EarnedJudged p s (conclusions.Bounds lower upper hint)
with_objective p s lower upper hint None is = inr (faults.NoObjective, is)
with_objective p s lower upper hint (Some objective) is = hinted_bounds p s objective lower upper hint is (hint_judged p s hint)

earned_judged : (p : Opb) (s : State) (c : Conclusion) → EarnedJudged p s c
earned_judged p s conclusions.Nothing = let best = best_exists p s.logged in inl (best.0, (s, refl, tt, best.1))
earned_judged p s (conclusions.Sat hint) = sat_from p s hint (hint_judged p s hint)
earned_judged p s conclusions.Unsat = unsat_from p s (exhausted_judged s)
earned_judged p s (conclusions.Bounds lower upper hint) = with_objective p s lower upper hint p.objective refl

-- only what stands outside blocks may be concluded

no_sat_fault : (p : Opb) (s : State) (hint : Option (List Lit)) → IsHintFault p s hint faults.BlockOpen ⊎ judging.IsBehindHint p s hint (λ t. IsSatFault t faults.BlockOpen) → ⊥
no_sat_fault p s None (inl h) = h
no_sat_fault p s (Some assigned) (inl h) = h
no_sat_fault p s hint (inr ((t, takes), h)) = h t takes

not_behind : (p : Opb) (s : State) (objective : List Term) (lower : Lower) (upper : Upper) (hint : Option (List Lit)) → BehindObjective p s objective lower upper hint faults.BlockOpen → ⊥
not_behind p s objective lower upper None (inl h) = h
not_behind p s objective lower upper (Some assigned) (inl h) = h
not_behind p s objective lower upper hint (inr ((t, takes), h)) = by lower (h t takes)
  where
    by : (l : Lower) → IsBoundsFault p t objective l upper faults.BlockOpen → ⊥
    by lowers.MinusInf (inl i) = i
    by (lowers.At bound) (inl i) = i
    by lowers.Inf (inl i) = i
    by l (inr i) = i.1

pub no_block_fault : (p : Opb) (s : State) (c : Conclusion) → IsUnjustified p s c faults.BlockOpen → ⊥
no_block_fault p s conclusions.Nothing h = h
no_block_fault p s (conclusions.Sat hint) h = no_sat_fault p s hint h
no_block_fault p s conclusions.Unsat h = h
no_block_fault p s (conclusions.Bounds lower upper hint) (objective, is, h) = not_behind p s objective lower upper hint h

pub conclusion_judged : (p : Opb) (s : State) (c : Conclusion) → Or ((best : Option (List Bool)) × IsJustified p s c best) (IsConclusionFault p s c)
conclusion_judged p s c =
    elim (outside_judged s ((best : Option (List Bool)) × IsEarned p s c best) (IsUnjustified p s c) (no_block_fault p s c) (earned_judged p s c)) as
    (λ _. Or ((best : Option (List Bool)) × IsJustified p s c best) (IsConclusionFault p s c)) [
      | inl (outside, (best, earned)) ↦ inl (best, (outside, earned))
      | inr fault ↦ inr fault
    ]

-- without a fault it is justified
pub faultless_justified : (p : Opb) (s : State) (c : Conclusion) → ((f : StepFault) → IsConclusionFault p s c f → ⊥) → (best : Option (List Bool)) × IsJustified p s c best
faultless_justified p s c none = elim (conclusion_judged p s c) as (λ _. (best : Option (List Bool)) × IsJustified p s c best) [
  | inl justified ↦ justified
  | inr fault ↦ absurd (none fault.0 fault.1)
]
