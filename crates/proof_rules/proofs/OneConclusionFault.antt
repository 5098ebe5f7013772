-- A conclusion has at most one fault.
use Rattle.std.proofs.Common.{◌≡◌, ◌≢◌, ◌⊎◌, inl, inr, ℤ, ◌<ℤ◌, ◌≤ℤ◌, List, [], Option, Some, None, IfSome, refl, sym, subst, ◌∙◌}
use Rattle.linear.specs.declared.term.Lit.{Lit}
use Rattle.linear.specs.declared.term.Term.{Term}
use Rattle.linear.specs.Opb.{Opb}
use Rattle.proof_steps.specs.declared.conclusion.Conclusion.{Conclusion}
use Rattle.proof_steps.specs.declared.conclusion.Lower.{Lower}
use Rattle.proof_steps.specs.declared.conclusion.Upper.{Upper}
use Rattle.proof_steps.specs.declared.conclusion.Conclusion.TheVariants as conclusions
use Rattle.proof_steps.specs.declared.conclusion.Lower.TheVariants as lowers
use Rattle.proof_rules.specs.declared.fault.StepFault.{StepFault}
use Rattle.proof_rules.specs.declared.fault.StepFault.TheVariants as faults
use Rattle.proof_rules.specs.Fault as judging
use Rattle.proof_rules.specs.Fault.{IsUnsatFault, IsBoundFault, IsLowerFault, IsUpperFault, IsBoundsFault, IsSatFault, IsHintFault, IsUnjustified, IsConclusionFault}
use Rattle.proof_rules.specs.State.{State}
use Rattle.proof_rules.proofs.NotLegal.{less_never, hint_never, lower_never, one_objective, none_some}
use Rattle.proof_rules.proofs.OnePolFault.{Case, one_of_two, one_of_three}
use Rattle.proof_rules.proofs.OneStepFault.{one_outside, one_sol_fault}

unsat_is : (s : State) (f : StepFault) → IsUnsatFault s f → Case f faults.SolutionLogged (s.logged ≢ []) ⊎ Case f faults.LowerNotShown (s.logged ≡ [])
unsat_is s faults.SolutionLogged h = inl (refl, h)
unsat_is s faults.LowerNotShown h = inr (refl, h.0)
unsat_is s _ h = absurd h

one_unsat_fault : (s : State) (f g : StepFault) → IsUnsatFault s f → IsUnsatFault s g → f ≡ g
one_unsat_fault s f g h k =
    one_of_two f g faults.SolutionLogged faults.LowerNotShown (s.logged ≢ []) (s.logged ≡ []) (λ some none. some none) (unsat_is s f h) (unsat_is s g k)

-- a bound: above the least value, or its form does not fit, or it fits and is not shown

bound_is : (s : State) (objective : List Term) (bound : ℤ) (f : StepFault) → IsBoundFault s objective bound f
    → Case f faults.LowerAboveBest (IsBoundFault s objective bound faults.LowerAboveBest)
    ⊎ (Case f faults.TooLarge (IsBoundFault s objective bound faults.TooLarge) ⊎ Case f faults.LowerNotShown (IsBoundFault s objective bound faults.LowerNotShown))
bound_is s objective bound faults.LowerAboveBest h = inl (refl, h)
bound_is s objective bound faults.TooLarge h = inr (inl (refl, h))
bound_is s objective bound faults.LowerNotShown h = inr (inr (refl, h))
bound_is s objective bound _ h = absurd h

above_never : (s : State) (bound : ℤ) → (least : ℤ) × (s.least ≡ Some least) × (least <ℤ bound) → IfSome s.least (λ least. bound ≤ℤ least) → ⊥
above_never s bound (least, is, above) below = less_never least bound above (subst (λ o. IfSome o (λ x. bound ≤ℤ x)) is below)

unfit_never : (s : State) (objective : List Term) (bound : ℤ) → IsBoundFault s objective bound faults.TooLarge → IsBoundFault s objective bound faults.LowerNotShown → ⊥
unfit_never s objective bound (below, none) (below', (n, form, fits, not)) = none n form fits

one_bound_fault : (s : State) (objective : List Term) (bound : ℤ) (f g : StepFault) → IsBoundFault s objective bound f → IsBoundFault s objective bound g → f ≡ g
one_bound_fault s objective bound f g h k =
    one_of_three f g faults.LowerAboveBest faults.TooLarge faults.LowerNotShown
    (IsBoundFault s objective bound faults.LowerAboveBest) (IsBoundFault s objective bound faults.TooLarge) (IsBoundFault s objective bound faults.LowerNotShown)
    (λ above low. above_never s bound above low.0) (λ above low. above_never s bound above low.0) (unfit_never s objective bound)
    (bound_is s objective bound f h) (bound_is s objective bound g k)

one_lower_fault : (s : State) (objective : List Term) (lower : Lower) (f g : StepFault) → IsLowerFault s objective lower f → IsLowerFault s objective lower g → f ≡ g
one_lower_fault s objective lowers.MinusInf f g h k = absurd h
one_lower_fault s objective (lowers.At bound) f g h k = one_bound_fault s objective bound f g h k
one_lower_fault s objective lowers.Inf f g h k = one_unsat_fault s f g h k

upper_is : (p : Opb) (s : State) (upper : Upper) (f : StepFault) → IsUpperFault p s upper f → f ≡ faults.UpperNotLogged
upper_is p s upper faults.UpperNotLogged h = refl
upper_is p s upper _ h = absurd h

one_bounds_fault : (p : Opb) (s : State) (objective : List Term) (lower : Lower) (upper : Upper) (f g : StepFault)
    → IsBoundsFault p s objective lower upper f → IsBoundsFault p s objective lower upper g → f ≡ g
one_bounds_fault p s objective lower upper f g (inl h) (inl k) = one_lower_fault s objective lower f g h k
one_bounds_fault p s objective lower upper f g (inl h) (inr (low, k)) = absurd (lower_never s objective lower f h low)
one_bounds_fault p s objective lower upper f g (inr (low, h)) (inl k) = absurd (lower_never s objective lower g k low)
one_bounds_fault p s objective lower upper f g (inr (low, h)) (inr (low', k)) = upper_is p s upper f h ∙ sym (upper_is p s upper g k)

sat_is : (s : State) (f : StepFault) → IsSatFault s f → f ≡ faults.UpperNotLogged
sat_is s faults.UpperNotLogged h = refl
sat_is s _ h = absurd h

one_hint_fault : (p : Opb) (s : State) (hint : Option (List Lit)) (f g : StepFault) → IsHintFault p s hint f → IsHintFault p s hint g → f ≡ g
one_hint_fault p s None f g h k = absurd h
one_hint_fault p s (Some assigned) f g h k = one_sol_fault p s assigned f g h k

-- a fault of the hint, or one behind it
one_hinted : (p : Opb) (s : State) (hint : Option (List Lit)) (IsFault : State → StepFault → Type 0) (f g : StepFault)
    → ((t : State) → IsFault t f → IsFault t g → f ≡ g)
    → IsHintFault p s hint f ⊎ judging.IsBehindHint p s hint (λ t. IsFault t f) → IsHintFault p s hint g ⊎ judging.IsBehindHint p s hint (λ t. IsFault t g) → f ≡ g
one_hinted p s hint IsFault f g one (inl h) (inl k) = one_hint_fault p s hint f g h k
one_hinted p s hint IsFault f g one (inl h) (inr ((t, takes), k)) = absurd (hint_never p s t hint f h takes)
one_hinted p s hint IsFault f g one (inr ((t, takes), h)) (inl k) = absurd (hint_never p s t hint g k takes)
one_hinted p s hint IsFault f g one (inr ((t, takes), h)) (inr (some, k)) = one t (h t takes) (k t takes)

-- BOUNDS

abbrev HintedBounds : Opb → State → Lower → Upper → Option (List Lit) → StepFault → Type 0
HintedBounds p s lower upper hint f =
    (objective : List Term) × (p.objective ≡ Some objective)
    × (IsHintFault p s hint f ⊎ judging.IsBehindHint p s hint (λ t. IsBoundsFault p t objective lower upper f))

abbrev BoundsCase : Opb → State → Lower → Upper → Option (List Lit) → StepFault → Type 0
BoundsCase p s lower upper hint f = Case f faults.NoObjective (p.objective ≡ None) ⊎ HintedBounds p s lower upper hint f

concluding_is : (p : Opb) (s : State) (lower : Lower) (upper : Upper) (hint : Option (List Lit)) (f : StepFault) → IsUnjustified p s (conclusions.Bounds lower upper hint) f → BoundsCase p s lower upper hint f
concluding_is p s lower upper hint faults.NoObjective h = inl (refl, h)
concluding_is p s lower upper hint _ h = inr h

one_bounds_case : (p : Opb) (s : State) (lower : Lower) (upper : Upper) (hint : Option (List Lit)) (f g : StepFault) → BoundsCase p s lower upper hint f → BoundsCase p s lower upper hint g → f ≡ g
one_bounds_case p s lower upper hint f g (inl h) (inl k) = h.0 ∙ sym k.0
one_bounds_case p s lower upper hint f g (inl h) (inr (objective, is, k)) = absurd (none_some p.objective objective h.1 is)
one_bounds_case p s lower upper hint f g (inr (objective, is, h)) (inl k) = absurd (none_some p.objective objective k.1 is)
one_bounds_case p s lower upper hint f g (inr (objective, is, h)) (inr (other, is', k)) =
    let same : other ≡ objective = one_objective p.objective other objective is' is in
    one_hinted p s hint (λ t e. IsBoundsFault p t objective lower upper e) f g (λ t. one_bounds_fault p t objective lower upper f g) h
    (subst (λ o. IsHintFault p s hint g ⊎ judging.IsBehindHint p s hint (λ t. IsBoundsFault p t o lower upper g)) same k)

one_unjustified : (p : Opb) (s : State) (c : Conclusion) (f g : StepFault) → IsUnjustified p s c f → IsUnjustified p s c g → f ≡ g
one_unjustified p s conclusions.Nothing f g h k = absurd h
one_unjustified p s (conclusions.Sat hint) f g h k = one_hinted p s hint (λ t e. IsSatFault t e) f g (λ t i j. sat_is t f i ∙ sym (sat_is t g j)) h k
one_unjustified p s conclusions.Unsat f g h k = one_unsat_fault s f g h k
one_unjustified p s (conclusions.Bounds lower upper hint) f g h k =
    one_bounds_case p s lower upper hint f g (concluding_is p s lower upper hint f h) (concluding_is p s lower upper hint g k)

pub one_conclusion_fault : (p : Opb) (s : State) (c : Conclusion) (f g : StepFault) → IsConclusionFault p s c f → IsConclusionFault p s c g → f ≡ g
one_conclusion_fault p s c f g h k = one_outside s (IsUnjustified p s c) f g (one_unjustified p s c) h k
