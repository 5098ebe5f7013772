-- What a log never loses, so that what a search finds is a solution, and a better one: the file's constraints, and the one that asks for
-- less than the last improving solution is worth. Every other constraint may be deleted.
use Rattle.std.specs.Prelude.{◌≡◌, ◌≢◌, ℕ, ◌+◌, ◌<◌, ◌≤◌, ℤ, pos, ◌-ℤ◌, List, Option, None, Some, All, Contains, IfSome, length}
use Rattle.std.specs.FinMap as map
use Rattle.std.specs.List.{slice_get}
use Rattle.linear.specs.Opb.{Opb}
use Rattle.linear.specs.declared.term.Term.{Term}
use Rattle.normal_form.specs.Normal.{NormalConstraint}
use Rattle.normal_form.specs.NormalOf.{IsNormalOf}
use Rattle.proof_rules.specs.Forms.{AreFormsOfAll, problem_ids}
use Rattle.proof_rules.specs.Solution.{at_most}
use Rattle.proof_rules.specs.State.{State, constraints, id_of}
use Rattle.proof_steps.specs.declared.step.Step.{Step}
use Rattle.proof_steps.specs.declared.step.Step.TheVariants as kinds
use Rattle.proof_log.specs.Log.{Logbook}

-- every normal constraint of the file is live, under the ids 1, 2, ..
abbrev pub FileStands : Opb → State → Type 0
FileStands p s =
    (ns : List NormalConstraint) × AreFormsOfAll p.constraints ns × (length ns < s.next)
    × ((i : ℕ) (n : NormalConstraint) → slice_get ns i ≡ Some n → map.get s.live (i + 1) ≡ Some n)

-- the live constraint of an id asks for less than a value
abbrev pub AsksForLess : List Term → ℤ → State → ℕ → Type 0
AsksForLess objective value s id =
    (id < s.next) × (n : NormalConstraint) × (map.get s.live id ≡ Some n) × IsNormalOf (at_most objective (value -ℤ pos 1)) n

-- where there is a least improving value, the constraint of this id asks for less
abbrev pub ImprovementStands : Opb → Option ℕ → State → Type 0
ImprovementStands p asking s =
    IfSome p.objective (λ objective. IfSome s.least (λ least. (id : ℕ) × (asking ≡ Some id) × AsksForLess objective least s id))

-- what holds of every log beside its proof
pub record KeepsLive (l : Logbook) : Type 0 where
  pub file : FileStands l.problem l.state
  pub improvement : ImprovementStands l.problem l.asking l.state

-- every normal constraint of the file is live
abbrev pub FileIsLive : Opb → List NormalConstraint → Type 0
FileIsLive p live =
    (ns : List NormalConstraint) × AreFormsOfAll p.constraints ns × ((n : NormalConstraint) → Contains ns n → Contains live n)

-- so is a constraint that asks for less than the least improving value, if there is one
abbrev pub ImprovementIsLive : List Term → State → Type 0
ImprovementIsLive objective s =
    IfSome s.least (λ least. (n : NormalConstraint) × IsNormalOf (at_most objective (least -ℤ pos 1)) n × Contains (constraints s) n)

-- an id behind those of the file, and not that of the constraint that asks for a better solution
abbrev pub IsSpare : Opb → Option ℕ → ℕ → Type 0
IsSpare p asking id = (problem_ids p.constraints < id) × (asking ≢ Some id)

-- the first id of what an end takes out: that of the goal, where one is open, or else of the block
abbrev pub first_gone : ℕ → Option ℕ → ℕ
first_gone first None = first
first_gone first (Some goal) = goal

-- a step deletes nothing else
abbrev pub Spares : Logbook → Step → Type 0
Spares l (kinds.Del ids) = All (λ id. IsSpare l.problem l.asking (id_of l.state.next id)) ids
Spares l (kinds.Pol items) = Unit {0}
Spares l (kinds.Rup c) = Unit {0}
Spares l (kinds.Red c images) = Unit {0}
Spares l (kinds.Sol assigned) = Unit {0}
Spares l (kinds.Soli assigned) = Unit {0}
Spares l (kinds.RedBegin c images) = Unit {0}
Spares l (kinds.Goal name) = Unit {0}
Spares l kinds.End = IfSome l.state.block (λ k. (id : ℕ) → first_gone k.first k.goal ≤ id → IsSpare l.problem l.asking id)
