use Rattle.std.proofs.Common.{◌≡◌, drop}
use Rattle.checker.specs.Printed.{with_values}
use Rattle.checker.proofs.lines.write_values.Given as goal

-- with the names and values that are left, what was written comes to the whole
abbrev pub invariant-loop-number : goal.invariant-loop-number
invariant-loop-number l =
    with_values l.out.items (drop l.number l.names) (drop l.number l.values) ≡ with_values l.fn.out.items l.names l.values
