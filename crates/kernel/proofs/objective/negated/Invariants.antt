use Rattle.std.proofs.Common.{◌≡◌, map, take}
use Rattle.normal_form.specs.NormalOf.{sign_changed}
use Rattle.kernel.proofs.objective.negated.Given as goal

-- the terms so far
abbrev pub invariant-loop-term : goal.invariant-loop-term
invariant-loop-term l = l.negated.items ≡ map sign_changed (take l.term-index l.terms)
