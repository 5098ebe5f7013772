use Rattle.std.proofs.Common.{[], ◌∷◌, ◌++◌, ◌∙◌, subst}
use Rattle.std.proofs.lemmas.Result.{IfErr-weaker, IfOk-weaker, err_from_is_err_and}
use Rattle.proof_lines.specs.Lines.{lines_of}
use Rattle.proof_lines.specs.LinesAhead.{numbered_of}
use Rattle.checker.specs.Stopped.{IsStopped, IsTruncated}
use Rattle.checker.specs.StopsBy.{StopsBy}
use Rattle.checker.specs.Verdicts.{IsProved}
use Rattle.checker.specs.Walk.{Advances}
use Rattle.checker.specs.WalkOf.{position_of}
use Rattle.checker.proofs.ProofOfWalk.{proved_at_end}
use Rattle.checker.proofs.Walking.{all_read, none_left, reaches_on, read_on, stopped_at, stopped_short}
use Rattle.checker.proofs.judge.judge.Goals as goal

pub loop-line-preserved : goal.loop-line-preserved
loop-line-preserved g c =
    let kept = c.loop-line.invariant in
    let p = c.args.problem.now in
    let line = numbered_of c.in-Some.line in
    let old = position_of c.loop-line.walk in
    let new = position_of c.take.new.self in
    let on = subst (λ q. Advances q line old new) kept.0 c.in_ok-take.ensures.advances in (
      c.in_ok-take.ensures.problem ∙ kept.0,
      c.in-Some.ensures.last ∙ kept.1,
      (
        kept.2.0 ++ line ∷ [],
        reaches_on p kept.2.0 line old new kept.2.1 on,
        read_on (lines_of c.args.proof.now).lines kept.2.0 line c.loop-line.lines.lines c.next.new.self.lines kept.2.2 c.in-Some.ensures.line,
      ),
    )

pub returns-in_err-take-clause-stop : goal.returns-in_err-take-clause-stop
returns-in_err-take-clause-stop g c =
    let kept = c.loop-line.invariant in
    let p = err_from_is_err_and c.from_residual-in_err-take.result c.from_residual-in_err-take.ensures.1 in
    rw (p.1, p.2)
    (stopped_at c.args.problem.now c.loop-line.walk.kernel.problem c.args.proof.now (position_of c.loop-line.walk) kept.2.0 c.loop-line.lines.lines c.next.new.self.lines (numbered_of c.in-Some.line) _ kept.0 kept.2.1 kept.2.2 c.in-Some.ensures.line c.in_err-take.ensures.stop)

pub returns-clause-proved : goal.returns-clause-proved
returns-clause-proved g c =
    let kept = c.loop-line.invariant in
    let p = c.args.problem.now in
    let proof = c.args.proof.now in
    let at = position_of c.loop-line.walk in
    let reached = all_read p (lines_of proof).lines kept.2.0 c.loop-line.lines.lines at kept.2.2 (none_left c.next.result c.loop-line.lines.lines c.next.new.self.lines c.in_default.is c.next.ensures.line) kept.2.1 in
    IfOk-weaker c.finish.result _ (IsProved p proof) (λ a finished. proved_at_end p proof at a reached finished.0 finished.1) c.finish.ensures.finished

pub returns-clause-stop : goal.returns-clause-stop
returns-clause-stop g c =
    let kept = c.loop-line.invariant in
    let p = c.args.problem.now in
    let proof = c.args.proof.now in
    let at = position_of c.loop-line.walk in
    let ends = c.end_number.ensures ∙ c.next.ensures.last ∙ kept.1 in
    IfErr-weaker c.finish.result (StopsBy (IsTruncated at c.end_number.result)) (StopsBy (IsStopped p proof))
    (λ stop why. stopped_short p proof at kept.2.0 c.loop-line.lines.lines c.end_number.result stop kept.2.1 kept.2.2 (none_left c.next.result c.loop-line.lines.lines c.next.new.self.lines c.in_default.is c.next.ensures.line) ends why)
    c.finish.ensures.stop
