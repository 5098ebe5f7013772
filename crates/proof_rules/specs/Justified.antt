-- The conclusions that a state entitles to.
--
-- The live constraints have an answer for each assignment that satisfies the file and is better than the best improving
-- solution (`Preserved`); of the others nothing is kept. So `UNSAT` may be concluded from `0 >= 1` only while no solution
-- is logged, and a lower bound has to be at most the least improving value: what is shown holds for the assignments that
-- are better, and all others are worth that value or more. Where `0 >= 1` is shown after an improving solution, so is
-- every bound, and the one at its value makes it the optimum. An upper bound needs no constraint, but a logged solution,
-- which need not be an improving one. A hint is judged as one more solution, logged for the conclusion alone. In a block nothing may
-- be concluded, since its constraints are assumed and not kept.
use Rattle.std.specs.Prelude.{◌≡◌, ◌≢◌, ℤ, ◌<ℤ◌, ◌≤ℤ◌, Bool, List, [], ◌∷◌, ◌++◌, Option, None, Some, All, Any, IfSome, ⊤}
use Rattle.linear.specs.declared.term.Lit.{Lit}
use Rattle.linear.specs.declared.term.Term.{Term}
use Rattle.linear.specs.Opb.{Opb}
use Rattle.normal_form.specs.Normal.{NormalConstraint, Fits}
use Rattle.normal_form.specs.NormalOf.{IsNormalOf}
use Rattle.proof_steps.specs.declared.conclusion.Lower.{Lower}
use Rattle.proof_steps.specs.declared.conclusion.Upper.{Upper}
use Rattle.proof_steps.specs.declared.conclusion.Conclusion.{Conclusion}
use Rattle.proof_steps.specs.declared.conclusion.Lower.TheVariants as lowers
use Rattle.proof_steps.specs.declared.conclusion.Upper.TheVariants as uppers
use Rattle.proof_steps.specs.declared.conclusion.Conclusion.TheVariants as conclusions
use Rattle.proof_steps.specs.declared.step.Step.{Step}
use Rattle.proof_rules.specs.Legal.{LegalSol, Leads, worth_of}
use Rattle.proof_rules.specs.Shown.{IsShown, absurdity}
use Rattle.proof_rules.specs.Solution.{at_least}
use Rattle.proof_rules.specs.State.{State, constraints, IsOutside, IsStart}

-- no solution is logged, and `0 >= 1` is shown
pub record IsExhausted (s : State) : Type 0 where
  pub unlogged : s.logged ≡ []
  pub shown : IsShown (constraints s) absurdity

-- objective >= bound, where the bound is at most the least improving value: its normal form fits and is shown
pub record IsLowerBound (s : State) (objective : List Term) (bound : ℤ) (n : NormalConstraint) : Type 0 where
  pub below : IfSome s.least (λ least. bound ≤ℤ least)
  pub form : IsNormalOf (at_least objective bound) n
  pub fits : Fits n
  pub shown : IsShown (constraints s) n

abbrev pub EntitlesLower : State → List Term → Lower → Type 0
EntitlesLower s objective lowers.MinusInf = ⊤
EntitlesLower s objective (lowers.At bound) = (n : NormalConstraint) × IsLowerBound s objective bound n
EntitlesLower s objective lowers.Inf = IsExhausted s

-- some logged solution is worth no more
abbrev pub EntitlesUpper : Opb → State → Upper → Type 0
EntitlesUpper p s (uppers.At bound) = Any (λ g. worth_of p g ≤ℤ bound) s.logged
EntitlesUpper p s uppers.Inf = ⊤

-- the state entitles to the conclusion, its hint apart
abbrev pub Entitles : Opb → State → Conclusion → Type 0
Entitles p s conclusions.Nothing = ⊤
Entitles p s (conclusions.Sat hint) = s.logged ≢ []
Entitles p s conclusions.Unsat = IsExhausted s
Entitles p s (conclusions.Bounds lower upper hint) =
    (objective : List Term) × (p.objective ≡ Some objective) × EntitlesLower s objective lower × EntitlesUpper p s upper

-- the literals that a conclusion gives as a hint
abbrev pub hint_of : Conclusion → Option (List Lit)
hint_of (conclusions.Sat hint) = hint
hint_of (conclusions.Bounds lower upper hint) = hint
hint_of _ = None

-- a hint is one more solution, logged first
abbrev pub TakesHint : Opb → State → Option (List Lit) → State → Type 0
TakesHint p old None new = new ≡ old
TakesHint p old (Some assigned) new = LegalSol p old assigned new

-- `best` is the logged solution of the least value, the earliest among equals; there is none where nothing is logged
abbrev pub IsBest : Opb → List (List Bool) → Option (List Bool) → Type 0
IsBest p logged None = logged ≡ []
IsBest p logged (Some g) =
    (before : List (List Bool)) × (behind : List (List Bool)) × (logged ≡ before ++ g ∷ behind)
    × All (λ h. worth_of p g <ℤ worth_of p h) before × All (λ h. worth_of p g ≤ℤ worth_of p h) behind

-- the state entitles to the conclusion behind its hint, and this is the best solution
abbrev pub IsEarned : Opb → State → Conclusion → Option (List Bool) → Type 0
IsEarned p s c best = (t : State) × TakesHint p s (hint_of c) t × Entitles p t c × IsBest p t.logged best

-- and no block is open
abbrev pub IsJustified : Opb → State → Conclusion → Option (List Bool) → Type 0
IsJustified p s c best = IsOutside s × IsEarned p s c best

-- the steps lead from the file to a state that entitles to the conclusion
pub record IsLegalProof (p : Opb) (steps : List Step) (c : Conclusion) (best : Option (List Bool)) : Type 0 where
  pub start : State
  pub end : State
  pub starts : IsStart p start
  pub leads : Leads p start steps end
  pub justified : IsJustified p end c best
