use Rattle.std.proofs.Common.{subst, sym}
use Rattle.checker.specs.Verdicts.{IsVerdictOf}
use Rattle.checker.proofs.VerdictsSaid.{is_true, stop_said}
use Rattle.checker.proofs.checking.check.Goals as goal

pub returns-in-Ok-judge : goal.returns-in-Ok-judge
returns-in-Ok-judge c = record {
  sound = is_true c.args.opb.now c.in-Ok.problem c.in-Ok.ensures.spells c.in-Ok.ensures.within c.in-Ok-judge.accepted c.args.proof.now c.in-Ok-judge.ensures.proved;
}

pub returns-in-Ok : goal.returns-in-Ok
returns-in-Ok c = record {
  sound =
      subst (IsVerdictOf c.args.opb.now c.args.proof.now) (sym c.stopped.ensures)
      (stop_said c.args.opb.now c.in-Ok.problem c.in-Ok.ensures.spells c.in-Ok.ensures.within c.args.proof.now c.in-Err-judge.stop c.in-Err-judge.ensures.stop);
}
