-- Where nothing waited.
use Rattle.std.specs.Prelude.{List, [], ◌∷◌}
use Rattle.linear.specs.declared.term.Lit.{Lit}
use Rattle.normal_form.specs.Normal.{NormalConstraint}
use Rattle.watch.specs.declared.rest.Rest.{Rest}
use Rattle.watch.specs.Keeping.{AreSettled}

-- so many constraints are quiet under what stands below a height, all propagated
abbrev pub IsRest : List NormalConstraint → List Lit → Rest → Type 0
IsRest constraints propagated rest = AreSettled constraints propagated (rest.height ∷ []) (rest.count ∷ [])
