use Rattle.std.proofs.Common.{◌≡◌, drop}
use Rattle.pb_main.specs.Answer.{with_values}
use Rattle.pb_main.proofs.answer.write_values.Given as goal

-- with the values that are left, what was written comes to the whole
abbrev pub invariant-loop-value : goal.invariant-loop-value
invariant-loop-value l = with_values l.out.items (drop l.value-index l.values) ≡ with_values l.fn.out.items l.values
