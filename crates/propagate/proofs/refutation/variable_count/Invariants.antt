-- The variables of the constraints so far are below the number.
use Rattle.std.proofs.Common.{◌≤◌, All, take}
use Rattle.normal_form.specs.Normal.{variable_bound}
use Rattle.propagate.proofs.refutation.variable_count.Given as goal

abbrev pub invariant-loop-constraint : goal.invariant-loop-constraint
invariant-loop-constraint l = All (λ n. variable_bound n.now.terms ≤ l.count) (take l.constraint-index l.constraints)
