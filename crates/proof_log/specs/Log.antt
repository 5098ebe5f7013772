-- A solver's log: a proof that grows, and how much of it says something new.
use Rattle.std.specs.Prelude.{◌≡◌, ℕ, ◌+◌, ◌⊎◌, ℤ, pos, ◌<ℤ◌, Bool, List, [], ◌∷◌, ◌++◌, Option, None, Some, All, IfSome, MatchOption, length, map, ⊤}
use Rattle.linear.specs.Opb.{Opb}
use Rattle.kernel.specs.Held.{Held}
use Rattle.normal_form.specs.Normal.{NormalConstraint}
use Rattle.normal_form.specs.NormalOf.{IsNormalOf}
use Rattle.propagate.specs.Biting.{Bites}
use Rattle.proof_rules.specs.Expression.{IsPostfixOf}
use Rattle.proof_rules.specs.Fault.{OrMemory, IsStepFault}
use Rattle.proof_rules.specs.Forms.{problem_ids}
use Rattle.proof_rules.specs.Justified.{IsJustified}
use Rattle.proof_rules.specs.Legal.{Legal, Leads, worth_of}
use Rattle.proof_rules.specs.State.{State, constraints, constraint_of, HasRoom, IsStart}
use Rattle.proof_steps.specs.declared.conclusion.Conclusion.{Conclusion}
use Rattle.proof_steps.specs.declared.conclusion.Conclusion.TheVariants as conclusions
use Rattle.proof_steps.specs.declared.step.Item.{Item}
use Rattle.proof_steps.specs.declared.step.Step.{Step}
use Rattle.proof_steps.specs.declared.step.Step.TheVariants as kinds
use Rattle.proof_text.specs.ProofSpells.{SpellsProof}
use Rattle.proof_text.specs.Steps.{IsProper}
use Rattle.proof_text.specs.Writable.{IsStepWritable}
use Rattle.proof_write.specs.Whole.{AreWritten, last_lines, step_line}
use Rattle.proof_rules.specs.declared.fault.StepFault.{StepFault}

pub record Logbook : Type 0 where
  pub problem : Opb
  -- the text of the proof as far as it has come: its first lines, and a line for each step
  pub text : List ℕ
  -- the state that the steps lead to
  pub state : State
  -- the values of the improving solutions, the first one first
  pub improved : List ℤ
  -- so many steps are known to bite
  pub biting : ℕ
  -- what was concluded from the state
  pub conclusion : Conclusion
  -- the id of the constraint that asks for a better solution than the last improving one, if there is one
  pub asking : Option ℕ

-- a `pol` step, whose items write an expression over the live constraints of this value
abbrev pub IsValueOf : State → Step → NormalConstraint → Type 0
IsValueOf s step n = (items : List Item) × (step ≡ kinds.Pol items) × IsPostfixOf (constraint_of s) items n

-- the value of a step is at hand, and an id is left for it
abbrev pub IsAtHand : State → Step → NormalConstraint → Type 0
IsAtHand s step n = IsValueOf s step n × HasRoom s

-- a `pol` or `rup` step, whose constraint bites on the live ones before it
abbrev pub StepBites : State → Step → Type 0
StepBites old (kinds.Pol items) = (n : NormalConstraint) × IsPostfixOf (constraint_of old) items n × Bites (constraints old) n
StepBites old (kinds.Rup c) = (n : NormalConstraint) × IsNormalOf c n × Bites (constraints old) n
StepBites old (kinds.Red c images) = ⊥
StepBites old (kinds.Sol assigned) = ⊥
StepBites old (kinds.Soli assigned) = ⊥
StepBites old (kinds.Del ids) = ⊥
StepBites old (kinds.RedBegin c images) = ⊥
StepBites old (kinds.Goal name) = ⊥
StepBites old kinds.End = ⊥

-- legal steps lead from one state to another, and at least so many of them bite
abbrev pub LeadsBiting : Opb → State → List Step → State → ℕ → Type 0
LeadsBiting p old [] new count = (new ≡ old) × (count ≡ 0)
LeadsBiting p old (step ∷ rest) new count =
    (between : State) × Legal p old step between
    × (LeadsBiting p between rest new count ⊎ ((fewer : ℕ) × (count ≡ fewer + 1) × StepBites old step × LeadsBiting p between rest new fewer))

-- the value, if there is one
abbrev pub value_list : Option ℤ → List ℤ
value_list None = []
value_list (Some value) = value ∷ []

-- what a step improves to, where it logs an improving solution and leads to this state
abbrev pub improvement : Step → State → List ℤ
improvement (kinds.Soli assigned) new = value_list new.least
improvement (kinds.Sol assigned) new = []
improvement (kinds.Pol items) new = []
improvement (kinds.Rup c) new = []
improvement (kinds.Red c images) new = []
improvement (kinds.Del ids) new = []
improvement (kinds.RedBegin c images) new = []
improvement (kinds.Goal name) new = []
improvement kinds.End new = []

-- legal steps lead from one state to another, and these are the values of their improving solutions, in order
abbrev pub LeadsImproving : Opb → State → List Step → State → List ℤ → Type 0
LeadsImproving p old [] new values = (new ≡ old) × (values ≡ [])
LeadsImproving p old (step ∷ rest) new values =
    (between : State) × Legal p old step between
    × ((later : List ℤ) × (values ≡ improvement step between ++ later) × LeadsImproving p between rest new later)

-- each value is above all that come behind it
abbrev pub IsFalling : List ℤ → Type 0
IsFalling [] = Unit {0}
IsFalling (value ∷ later) = All (λ v. v <ℤ value) later × IsFalling later

-- the last value, if there is one
abbrev pub last_of : List ℤ → Option ℤ
last_of [] = None
last_of (value ∷ []) = Some value
last_of (value ∷ later ∷ more) = last_of (later ∷ more)

-- the step opens no block, and needs none that is open: a log takes no other, so no block is open in its state
abbrev pub StandsAlone : Step → Type 0
StandsAlone (kinds.Pol items) = Unit {0}
StandsAlone (kinds.Rup c) = Unit {0}
StandsAlone (kinds.Red c images) = Unit {0}
StandsAlone (kinds.Sol assigned) = Unit {0}
StandsAlone (kinds.Soli assigned) = Unit {0}
StandsAlone (kinds.Del ids) = Unit {0}
StandsAlone (kinds.RedBegin c images) = ⊥
StandsAlone (kinds.Goal name) = ⊥
StandsAlone kinds.End = ⊥

-- the step logs no improving solution
abbrev pub ImprovesNothing : Step → Type 0
ImprovesNothing (kinds.Soli assigned) = ⊥
ImprovesNothing (kinds.Sol assigned) = Unit {0}
ImprovesNothing (kinds.Pol items) = Unit {0}
ImprovesNothing (kinds.Rup c) = Unit {0}
ImprovesNothing (kinds.Red c images) = Unit {0}
ImprovesNothing (kinds.Del ids) = Unit {0}
ImprovesNothing (kinds.RedBegin c images) = Unit {0}
ImprovesNothing (kinds.Goal name) = Unit {0}
ImprovesNothing kinds.End = Unit {0}

-- the step logs a solution that improves nothing only where there is no objective
abbrev pub ImprovesIfAsked : Opb → Step → Type 0
ImprovesIfAsked p (kinds.Sol assigned) = p.objective ≡ None
ImprovesIfAsked p (kinds.Soli assigned) = Unit {0}
ImprovesIfAsked p (kinds.Pol items) = Unit {0}
ImprovesIfAsked p (kinds.Rup c) = Unit {0}
ImprovesIfAsked p (kinds.Red c images) = Unit {0}
ImprovesIfAsked p (kinds.Del ids) = Unit {0}
ImprovesIfAsked p (kinds.RedBegin c images) = Unit {0}
ImprovesIfAsked p (kinds.Goal name) = Unit {0}
ImprovesIfAsked p kinds.End = Unit {0}

-- where there is an objective, the logged solutions are the improving ones: what they are worth, in order, is what was improved to
abbrev pub AllImprove : Opb → State → List ℤ → Type 0
AllImprove p s improved = IfSome p.objective (λ _. map (worth_of p) s.logged ≡ improved)

-- the state entitles to the conclusion
abbrev pub IsEntitled : Opb → State → Conclusion → Type 0
IsEntitled p s c = (best : Option (List Bool)) × IsJustified p s c best

-- What every log is: its text is that of steps which lead from the file to its state, and that entitles to its conclusion.
pub record IsProof (l : Logbook) : Type 0 where
  pub steps : List Step
  pub written : AreWritten l.text l.problem.names (problem_ids l.problem.constraints) steps
  pub start : State
  pub starts : IsStart l.problem start
  pub leads : Leads l.problem start steps l.state
  pub improves : LeadsImproving l.problem start steps l.state l.improved
  pub solutions : AllImprove l.problem l.state l.improved
  pub bites : LeadsBiting l.problem start steps l.state l.biting
  pub entitled : IsEntitled l.problem l.state l.conclusion

-- A text is a log as a whole proof: the log's own text, and the lines behind its steps. So it spells steps that lead from the file to
-- the log's state, and its conclusion.
pub record IsSpelledBy (l : Logbook) (proof : List ℕ) : Type 0 where
  pub text : proof ≡ l.text ++ last_lines l.problem.names l.conclusion
  pub steps : List Step
  pub spelled : SpellsProof proof l.problem.names (pos (problem_ids l.problem.constraints)) steps l.conclusion
  pub start : State
  pub starts : IsStart l.problem start
  pub leads : Leads l.problem start steps l.state

-- the step can be written: its integers are at most 2^120 in size, its relation is `>=`, and its variables are the problem's
abbrev pub CanBeWritten : Logbook → Step → Type 0
CanBeWritten l step = IsStepWritable (length l.problem.names) step

-- the text of a log has one line more, that of a step
abbrev pub Keeps : Logbook → Step → Logbook → Type 0
Keeps old step new = new.text ≡ old.text ++ step_line old.problem.names step

-- A log has taken a step: it is legal, its line stands behind the others, and nothing is concluded from the new state yet.
pub record HasTaken (old : Logbook) (step : Step) (new : Logbook) : Type 0 where
  pub legal : Legal old.problem old.state step new.state
  pub kept : Keeps old step new
  pub conclusion : new.conclusion ≡ conclusions.Nothing

-- A log goes on from another one: it is of the same problem, and its text begins with that one's.
pub record GoesOn (old new : Logbook) : Type 0 where
  pub problem : new.problem ≡ old.problem
  pub rest : List ℕ
  pub text : new.text ≡ old.text ++ rest

-- a kernel has applied a step, and the step's line stands behind a text
pub record Records (names : List (List ℕ)) (step : Step) (before : List ℕ) (old : Held) (text : List ℕ) (new : Held) : Type 0 where
  pub problem : new.problem ≡ old.problem
  pub legal : Legal old.problem old.state step new.state
  pub line : text ≡ before ++ step_line names step
  pub proper : IsProper step

-- both are as they were
abbrev pub AreAsBefore : List ℕ → Held → List ℕ → Held → Type 0
AreAsBefore before old text new = (text ≡ before) × (new ≡ old)

-- why a log does not take a step: the kernel refuses it, or memory ran out
abbrev pub IsRefused : Logbook → Step → StepFault → Type 0
IsRefused l step f = OrMemory f (IsStepFault l.problem l.state step f)

-- a step is legal: it leads from a log's state to some state
abbrev pub IsLegal : Logbook → Step → Type 0
IsLegal l step = (t : State) × Legal l.problem l.state step t

-- where there is an objective, the assignment is worth the least value that the log improved to
abbrev pub IsWorthLeast : Logbook → List Bool → Type 0
IsWorthLeast l values = MatchOption l.problem.objective ⊤ (λ _. l.state.least ≡ Some (worth_of l.problem values))

-- the same with another conclusion
abbrev pub with_conclusion : Conclusion → Logbook → Logbook
with_conclusion c l = record l { conclusion = c }
