-- Which variables a log speaks of: those of the file alone, so that whatever comes of its constraints can be written.
use Rattle.std.specs.Prelude.{ℕ, ◌<◌, Bool, List, All, length}
use Rattle.linear.specs.Opb.{Opb}
use Rattle.linear.specs.declared.term.Lit.{Lit}
use Rattle.normal_form.specs.Normal.{NormalConstraint, coefficient}
use Rattle.proof_rules.specs.State.{State, constraints}
use Rattle.proof_text.specs.Writable.{IsLitWritable}
use Rattle.proof_log.specs.Log.{Logbook}

-- the literals of a constraint are of the first so many variables
abbrev pub IsOver : ℕ → NormalConstraint → Type 0
IsOver count n = (v : ℕ) (s : Bool) → 0 < coefficient n v s → v < count

-- every live constraint is over the variables of the file
abbrev pub LiveIsNamed : Opb → State → Type 0
LiveIsNamed p s = All (IsOver (length p.names)) (constraints s)

-- literals of the variables of the file
abbrev pub AreNamed : Logbook → List Lit → Type 0
AreNamed l literals = All (IsLitWritable (length l.problem.names)) literals
