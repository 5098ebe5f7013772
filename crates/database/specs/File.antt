-- The constraints of a file, as they are put in one after another.
use Rattle.std.specs.Prelude.{◌≡◌, List, [], ◌∷◌}
use Rattle.linear.specs.declared.constraint.Signed.{Signed}
use Rattle.normal_form.specs.Normal.{NormalConstraint}
use Rattle.proof_rules.specs.Forms.{AreFormsOf, AreFormsOfAll}
use Rattle.proof_rules.specs.State.{state_of}
use Rattle.database.specs.Database.{Constraints, pushed}

-- the constraints of a list, one after another
abbrev pub pushed_all : List NormalConstraint → Constraints → Constraints
pushed_all [] d = d
pushed_all (n ∷ ns) d = pushed_all ns (pushed n d)

-- a constraint's normal constraints were added
abbrev pub AddsForms : Signed → Constraints → Constraints → Type 0
AddsForms c old new = (here : List NormalConstraint) × AreFormsOf c here × (new ≡ pushed_all here old)

-- the live constraints, and the next id, before the first step of a proof
abbrev pub listed : List NormalConstraint → Constraints
listed ns = record { live = (state_of ns).live; next = (state_of ns).next }

-- exactly the normal constraints of the file's constraints
abbrev pub AreOfFile : List Signed → Constraints → Type 0
AreOfFile cs d = (ns : List NormalConstraint) × AreFormsOfAll cs ns × (d ≡ listed ns)
