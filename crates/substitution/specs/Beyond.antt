-- What a constraint becomes under a substitution, where it does not show that without more ado.
use Rattle.std.specs.Prelude.{◌≡◌, ◌⊎◌, Option, MatchOption}
use Rattle.normal_form.specs.Normal.{NormalConstraint}
use Rattle.substitution.specs.Covering.{Covers}
use Rattle.substitution.specs.Images.{Images}
use Rattle.substitution.specs.Under.{IsUnder}

-- a constraint shows another: it covers that, or nothing is asked
abbrev pub Shows : NormalConstraint → NormalConstraint → Type 0
Shows e n = (n.degree ≡ 0) ⊎ Covers e n

-- it shows what it becomes itself
abbrev pub ShowsImage : NormalConstraint → Images → Type 0
ShowsImage n images = (r : NormalConstraint) × IsUnder n images r × Shows n r

-- what it becomes, or none where it shows that
abbrev pub BecomesBeyond : NormalConstraint → Images → Option NormalConstraint → Type 0
BecomesBeyond n images goal = MatchOption goal (ShowsImage n images) (λ r. IsUnder n images r × (Shows n r → ⊥))
