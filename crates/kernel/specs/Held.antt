-- What a kernel holds, and what it keeps.
use Rattle.std.specs.Prelude.{◌≡◌, ℕ, Bool, List, Option, None, Some, ⊤}
use Rattle.linear.specs.Opb.{Opb}
use Rattle.linear.specs.Limits.{IsWithin}
use Rattle.linear.specs.declared.constraint.Relation.TheVariants.{AtLeast}
use Rattle.linear.specs.declared.constraint.Signed.{Signed}
use Rattle.linear.specs.declared.term.Term.{Term}
use Rattle.normal_form.specs.Normal.{NormalConstraint, Fits}
use Rattle.normal_form.specs.NormalOf.{IsNormalOf}
use Rattle.proof_rules.specs.Shown.{IsAdmitted}
use Rattle.proof_rules.specs.declared.fault.StepFault.{StepFault}
use Rattle.proof_rules.specs.declared.fault.StepFault.TheVariants as faults
use Rattle.proof_steps.specs.declared.step.Step.{Step}
use Rattle.proof_steps.specs.declared.step.Step.TheVariants as steps
use Rattle.proof_rules.specs.Preserved.{IsPreserved, AreNormal}
use Rattle.proof_rules.specs.Legal.{with_solution}
use Rattle.proof_rules.specs.State.{State, Block}
use Rattle.proof_rules.specs.Forms.{problem_ids}
use Rattle.database.specs.Database.{Constraints}
use Rattle.solutions.specs.Logged.{Logged}

-- a problem, and the state of a proof of it
pub record Held : Type 0 where
  pub problem : Opb
  pub state : State

-- what every kernel keeps: the problem is within the limits, the state has an answer for it, and in each live constraint the variables
-- rise
pub record IsKept (k : Held) : Type 0 where
  pub within : IsWithin k.problem
  pub preserved : IsPreserved k.problem k.state
  pub normal : AreNormal k.state

-- the state of these live constraints and logged solutions, and of a block
abbrev pub state_with : Constraints → Logged → Option Block → State
state_with d l block = record {
  live = d.live;
  next = d.next;
  least = l.least;
  logged = l.logged;
  block = block;
}

-- the state with one more solution, if there is one
abbrev pub with_extra : Option (List Bool) → State → State
with_extra None s = s
with_extra (Some g) s = with_solution g s

-- what the fields of every kernel keep: beside the above, the greatest id of the file is known, and the problem's objective
pub record Keeps (k : Held) (ids : ℕ) (objective : Option (List Term)) : Type 0 where
  pub kept : IsKept k
  pub file : ids ≡ problem_ids k.problem.constraints
  pub objective_is : objective ≡ k.problem.objective

-- the id that an end gives a constraint: that of a block gives one to the new constraint, that of a goal none
abbrev pub id_at_goal : Option ℕ → ℕ → Option ℕ
id_at_goal None next = Some next
id_at_goal (Some goal) next = None

abbrev pub id_at_end : Option Block → ℕ → Option ℕ
id_at_end None next = None
id_at_end (Some k) next = id_at_goal k.goal next

-- the id that a step gives its constraint, if it adds one
abbrev pub given_id : Step → State → Option ℕ
given_id (steps.Sol assigned) s = None
given_id (steps.Del ids) s = None
given_id (steps.Pol items) s = Some s.next
given_id (steps.Rup c) s = Some s.next
given_id (steps.Red c images) s = Some s.next
given_id (steps.Soli assigned) s = Some s.next
given_id (steps.RedBegin c images) s = Some s.next
given_id (steps.Goal name) s = Some s.next
given_id steps.End s = id_at_end s.block s.next

-- the relation of a constraint in a step is `>=`
abbrev pub HasAtLeast : Step → Type 0
HasAtLeast (steps.Rup c) = c.relation ≡ AtLeast
HasAtLeast (steps.Red c images) = c.relation ≡ AtLeast
HasAtLeast (steps.Pol items) = ⊤
HasAtLeast (steps.Sol assigned) = ⊤
HasAtLeast (steps.Soli assigned) = ⊤
HasAtLeast (steps.Del ids) = ⊤
HasAtLeast (steps.RedBegin c images) = c.relation ≡ AtLeast
HasAtLeast (steps.Goal name) = ⊤
HasAtLeast steps.End = ⊤

-- a written constraint is not within the limits
abbrev pub IsUnadmitted : Signed → StepFault → Type 0
IsUnadmitted c faults.TooLarge = (n : NormalConstraint) → IsAdmitted c n → ⊥
IsUnadmitted c _ = ⊥

-- the normal form of a constraint is not within the limits
abbrev pub IsUnfit : Signed → StepFault → Type 0
IsUnfit c faults.TooLarge = (n : NormalConstraint) → IsNormalOf c n → Fits n → ⊥
IsUnfit c _ = ⊥
