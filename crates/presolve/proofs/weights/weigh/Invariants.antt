use Rattle.std.proofs.Common.{◌≡◌, ◌<◌, ℕ, max, get_or, length, take}
use Rattle.presolve.specs.Weights.{greatest_of}
use Rattle.presolve.proofs.weights.weigh.Given as goal

-- the terms so far have raised their variables' numbers
abbrev pub invariant-loop-term : goal.invariant-loop-term
invariant-loop-term l = (v : ℕ) → v < length l.initial.table → get_or l.table v 0 ≡ max (get_or l.initial.table v 0) (greatest_of l.form.degree (take l.term-index l.form.terms.items) v)
