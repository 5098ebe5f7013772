use Rattle.std.proofs.Common.{inl, subst}
use Rattle.std.specs.Prelude.{IfSome}
use Rattle.pb_main.specs.Checked.{IsAcceptedOf}
use Rattle.pb_main.specs.Finding.{IsFindingOf}
use Rattle.pb_main.specs.Outcome.{unchecked}
use Rattle.pb_main.proofs.Accepting.{checked_optimum}
use Rattle.pb_main.proofs.Outcomes.{solution_said}
use Rattle.pb_main.proofs.deciding.concluded.Goals as goal

pub returns-in-Optimum-Some : goal.returns-in-Optimum-Some
returns-in-Optimum-Some c l limit of_text written found =
    let opb = c.args.opb.now in
    let proof = c.args.proof.now in
    let optimum = subst (IsFindingOf limit l) c.in-Optimum-Some.is-0 found in
    let accepted = subst (λ o. IfSome o (IsAcceptedOf opb proof l)) c.in-Optimum-Some.is-1 (c.accepted-checked.ensures l of_text written) in
    checked_optimum opb proof l c.in-Optimum-Some.accepted c.in-Optimum-Some.solution optimum.1 of_text written accepted optimum.0

pub returns-in-Optimum-None : goal.returns-in-Optimum-None
returns-in-Optimum-None c l limit of_text written found =
    let optimum = subst (IsFindingOf limit l) c.in-Optimum-None.is-0 found in
    solution_said c.args.opb.now c.args.proof.now limit l c.in-Optimum-None.solution of_text (inl written) optimum.0 (unchecked optimum.1)

pub returns-in-Satisfiable-default : goal.returns-in-Satisfiable-default
returns-in-Satisfiable-default c l limit of_text written found =
    let some = subst (IsFindingOf limit l) c.in-Satisfiable-default.is-0 found in
    solution_said c.args.opb.now c.args.proof.now limit l c.in-Satisfiable-default.solution of_text (inl written) some.0 some.1

pub returns-in-Open-default : goal.returns-in-Open-default
returns-in-Open-default c l limit of_text written found = record {
  log = l;
  of_text = of_text;
  written = written;
  stopped = subst (IsFindingOf limit l) c.in-Open-default.is-0 found;
}
