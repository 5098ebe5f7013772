use Rattle.std.proofs.Common.{inr, refl, sym, subst}
use Rattle.pb_main.specs.Outcome.{IsBeyond}
use Rattle.pb_main.proofs.cases.unanswered.Goals as goal

pub returns-clause-memory : goal.returns-clause-memory
returns-clause-memory c opb limit = inr refl

pub returns-clause-bytes : goal.returns-clause-bytes
returns-clause-bytes c opb limit fault told = absurd (cc (told.2))

pub returns-clause-supported : goal.returns-clause-supported
returns-clause-supported c opb limit fault code told = subst IsBeyond code told.1

pub returns-clause-unsupported : goal.returns-clause-unsupported
returns-clause-unsupported c opb limit fault code told = told.1 (subst IsBeyond (sym code) tt)
