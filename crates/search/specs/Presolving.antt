-- What a search puts into its log before it looks for solutions.
use Rattle.std.specs.Prelude.{◌≡◌, ◌<◌, ◌⊎◌, false, true, pos, List, [], ◌∷◌, ◌++◌, if◌then◌else◌, length, map}
use Rattle.linear.specs.Opb.{Opb}
use Rattle.linear.specs.declared.constraint.Relation.TheVariants.{AtLeast}
use Rattle.linear.specs.declared.constraint.Signed.{Signed}
use Rattle.linear.specs.declared.term.Lit.{Lit}
use Rattle.linear.specs.declared.term.Var.{Var}
use Rattle.substitution.specs.Images.{Images}
use Rattle.substitution.specs.declared.image.Image.{Image}
use Rattle.substitution.specs.declared.image.Image.TheVariants as images
use Rattle.substitution.specs.declared.image.Image.TheVariants.{Zero, One}
use Rattle.presolve.specs.Fixing.{AreFixed}
use Rattle.presolve.specs.Swapping.{AreUsed}
use Rattle.presolve.specs.declared.swapping.Swap.{Swap}
use Rattle.proof_rules.specs.Fault.{IsStepFault}
use Rattle.proof_rules.specs.Forms.{problem_ids}
use Rattle.proof_rules.specs.Legal.{Legal}
use Rattle.proof_rules.specs.State.{IsStart}
use Rattle.proof_rules.specs.declared.fault.StepFault.{StepFault}
use Rattle.proof_steps.specs.declared.step.Step.{Step}
use Rattle.proof_steps.specs.declared.step.Step.TheVariants as kinds
use Rattle.proof_write.specs.Whole.{first_lines}
use Rattle.proof_log.specs.Log.{GoesOn, Logbook, Keeps}

-- variables of the file in order
pub record IsNamedPair (l : Logbook) (s : Swap) : Type 0 where
  pub order : s.first.0 < s.second.0
  pub named : s.second.0 < length l.problem.names

-- 1 l >= 1
abbrev pub is_true : Lit → Signed
is_true l = record { terms = record { coef = pos 1; var = l.var; negated = l.negated } ∷ []; relation = AtLeast; right = pos 1 }

-- the witness that makes a literal true
abbrev pub made_true : Lit → Images
made_true l = (l.var, if l.negated then Zero else One) ∷ []

-- the step that fixes a literal
abbrev pub fixing : Lit → Step
fixing l = kinds.Red (is_true l) (made_true l)

-- 1 x 1 ~y >= 1: of a pair the first variable is true wherever the second is
abbrev pub in_order : Swap → Signed
in_order s = record {
  terms = record { coef = pos 1; var = s.first; negated = false } ∷ record { coef = pos 1; var = s.second; negated = true } ∷ [];
  relation = AtLeast;
  right = pos 1;
}

-- the image that is a variable itself
abbrev pub variable : Var → Image
variable v = images.Lit (record { var = v; negated = false })

-- the witness by which the variables of a pair change places
abbrev pub exchange : Swap → Images
exchange s = (s.first, variable s.second) ∷ (s.second, variable s.first) ∷ []

-- the step that asks for an order of a pair
abbrev pub swapping : Swap → Step
swapping s = kinds.Red (in_order s) (exchange s)

-- a legal step stands at the end of a log, and nothing else that a search goes by has changed
pub record Enters (step : Step) (old new : Logbook) : Type 0 where
  pub legal : Legal old.problem old.state step new.state
  pub text : Keeps old step new
  pub problem : new.problem ≡ old.problem
  pub improved : new.improved ≡ old.improved
  pub biting : new.biting ≡ old.biting

-- a step has a fault, and the log is as it was
pub record IsLeft (step : Step) (old new : Logbook) : Type 0 where
  pub fault : StepFault
  pub faulty : IsStepFault old.problem old.state step fault
  pub same : new ≡ old

-- a step enters a log where it is legal, and is left where it has a fault
abbrev pub Tries : Step → Logbook → Logbook → Type 0
Tries step old new = Enters step old new ⊎ IsLeft step old new

-- so do several, one after the other
abbrev pub TriesAll : List Step → Logbook → Logbook → Type 0
TriesAll [] old new = new ≡ old
TriesAll (step ∷ later) old new = (between : Logbook) × Tries step old between × TriesAll later between new

-- What presolve comes to: the literals that may be made true at no cost are fixed one after the other, and then the pairs of variables
-- that may change places are put in order, as far as each is legal.
pub record IsPresolved (old new : Logbook) : Type 0 where
  pub literals : List Lit
  pub pairs : List Swap
  pub fixed : AreFixed old.problem literals
  pub used : AreUsed old.problem literals pairs
  pub tried : TriesAll (map fixing literals ++ map swapping pairs) old new

-- the log of a file, with no step
pub record IsFirst (p : Opb) (l : Logbook) : Type 0 where
  pub problem : l.problem ≡ p
  pub text : l.text ≡ first_lines (problem_ids p.constraints)
  pub start : IsStart p l.state

-- A log begins with what presolve tries: the log of the file is presolved, and it goes on from there.
pub record BeginsPresolved (p : Opb) (l : Logbook) : Type 0 where
  pub first : Logbook
  pub presolved : Logbook
  pub of_file : IsFirst p first
  pub tried : IsPresolved first presolved
  pub goes_on : GoesOn presolved l
