-- Nothing stands anywhere.
use Rattle.std.proofs.Common.{true, false, refl, arith}
use Rattle.std.proofs.lemmas.Bool.{false≢true}
use Rattle.std.proofs.lemmas.List.Elements.{All-nil}
use Rattle.presolve.specs.Standing.{IsAbsent}
use Rattle.presolve.proofs.cases.plain_first.Goals as goal

pub returns-clause-plain : goal.returns-clause-plain
returns-clause-plain c = record { fixable = record { variable = omega arith; opposite = All-nil (IsAbsent 0 true); objective = tt }; first = λ e other. false≢true e }

pub returns-clause-both : goal.returns-clause-both
returns-clause-both c = record { variable = omega arith; opposite = All-nil (IsAbsent 0 false); objective = tt }

pub returns-clause-once : goal.returns-clause-once
returns-clause-once c f = f.first refl (record { variable = omega arith; opposite = All-nil (IsAbsent 0 true); objective = tt })

pub returns-clause-named : goal.returns-clause-named
returns-clause-named c f = omega (arith, f.variable)
