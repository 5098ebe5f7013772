-- What an assignment extends to by propagation.
use Rattle.std.specs.Prelude.{List, ◌++◌, map, take}
use Rattle.linear.specs.declared.term.Lit.{Lit}
use Rattle.normal_form.specs.Normal.{NormalConstraint}
use Rattle.propagate.specs.declared.reach.Reach.{Reach}
use Rattle.propagate.specs.declared.reach.Reach.TheVariants as reaches
use Rattle.propagate.specs.declared.retrace.Extent.{Extent}
use Rattle.propagate.specs.declared.retrace.Extent.TheVariants as extents
use Rattle.propagate.specs.declared.retrace.Retrace.{Retrace}
use Rattle.propagate.specs.Literals.{IsOnce}
use Rattle.propagate.specs.Chain.{IsClosure, IsImpossible}

-- a conflict exactly where no such assignment is to be had, else exactly the literals that are given or forced, each once
abbrev pub IsReach : List NormalConstraint → List Lit → Reach → Type 0
IsReach constraints given reaches.Conflict = IsImpossible constraints given
IsReach constraints given (reaches.Closed closed) = (IsImpossible constraints given → ⊥) × IsClosure constraints given closed × IsOnce closed

-- the literals that are told where some are known: the first ones of these that stay, and the rest
abbrev pub told : List Lit → Retrace → List Lit
told known r = take r.kept known ++ map (λ p. p.0) r.rest

-- what an assignment extends to, where these literals are told
abbrev pub reach_told : List Lit → Extent → Reach
reach_told literals extents.Closed = reaches.Closed literals
reach_told literals (extents.Falsified id) = reaches.Conflict
reach_told literals extents.Clash = reaches.Conflict

-- what is told beside what is known is what the assignment extends to
abbrev pub IsRetrace : List NormalConstraint → List Lit → List Lit → Retrace → Type 0
IsRetrace constraints given known r = IsReach constraints given (reach_told (told known r) r.extent)
