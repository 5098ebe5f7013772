use Rattle.std.proofs.Common.{[], inr, refl, subst}
use Rattle.pb_main.specs.Finding.{IsFindingOf}
use Rattle.pb_main.specs.Outcome.{unchecked}
use Rattle.pb_main.proofs.Outcomes.{solution_said}
use Rattle.pb_main.proofs.deciding.unproved.Goals as goal

pub returns-in-Optimum : goal.returns-in-Optimum
returns-in-Optimum c opb l limit of_text found =
    let optimum = subst (IsFindingOf limit l) c.in-Optimum.is found in
    solution_said opb [] limit l c.in-Optimum.solution of_text (inr refl) optimum.0 (unchecked optimum.1)

pub returns-in-Satisfiable : goal.returns-in-Satisfiable
returns-in-Satisfiable c opb l limit of_text found =
    let some = subst (IsFindingOf limit l) c.in-Satisfiable.is found in
    solution_said opb [] limit l c.in-Satisfiable.solution of_text (inr refl) some.0 some.1
