-- The terms of the variables so far are gathered, and the variables to come are above them.
use Rattle.std.proofs.Common.{ℕ, ◌<◌, ◌≤◌, get_or, length}
use Rattle.normal_form.specs.Normal.{variable_bound}
use Rattle.substitution.proofs.Gathering.{AreGathered}
use Rattle.substitution.proofs.part.terms_of.Given as goal

abbrev pub invariant-loop-variable : goal.invariant-loop-variable
invariant-loop-variable l =
    AreGathered l.constraint l.variables l.variable-index l.part
    × ((j : ℕ) → l.variable-index ≤ j → j < length l.variables → variable_bound l.part ≤ get_or l.variables j 0)
