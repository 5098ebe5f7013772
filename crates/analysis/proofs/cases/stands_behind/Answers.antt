use Rattle.std.proofs.Common.{false, refl, sym, arith}
use Rattle.std.proofs.lemmas.Bool.{false≢true}
use Rattle.analysis.proofs.cases.stands_behind.Goals as goal

pub returns-clause-trail : goal.returns-clause-trail
returns-clause-trail c = ((λ _. refl, omega arith), ((λ _. refl, omega arith), ((λ _. refl, omega arith), tt)))

pub returns-clause-other : goal.returns-clause-other
returns-clause-other c = (λ _. refl, omega arith)

pub returns-clause-same : goal.returns-clause-same
returns-clause-same c h = false≢true (sym (h.0 false))
