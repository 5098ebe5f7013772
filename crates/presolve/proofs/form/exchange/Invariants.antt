use Rattle.std.proofs.Common.{◌≡◌, take}
use Rattle.presolve.specs.Forms.{terms_exchanged}
use Rattle.presolve.proofs.form.exchange.Given as goal

-- the first terms are exchanged
abbrev pub invariant-loop-term : goal.invariant-loop-term
invariant-loop-term l = l.made.items ≡ terms_exchanged (l.x.0) (l.y.0) (take l.term-index l.terms)
