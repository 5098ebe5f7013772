use Rattle.std.proofs.Common.{[], ◌∷◌, ◌++◌, ◌∙◌, subst}
use Rattle.std.proofs.lemmas.Result.{err_from_is_err_and}
use Rattle.proof_lines.specs.Buffered.{lent}
use Rattle.proof_lines.proofs.LinesBuffered.{passes_none}
use Rattle.checker.specs.Walk.{Advances}
use Rattle.checker.specs.WalkOf.{position_of}
use Rattle.checker.proofs.Streaming.{IsFresh, came, came_to_end, judging_stops, stream_fails, stream_proved, stream_short, stream_stop}
use Rattle.checker.proofs.Walking.{reaches_on}
use Rattle.checker.proofs.stream.judge_stream.Goals as goal

pub loop-lines-init : goal.loop-lines-init
loop-lines-init g c =
    (c.in_ok-walk.ensures.problem, ([], c.in_ok-walk.ensures.begins, passes_none c.new-lines.result (g.S.Source.state c.args.source.now)))

pub loop-lines-preserved : goal.loop-lines-preserved
loop-lines-preserved g c =
    let kept = c.loop-lines.invariant in
    let p = c.args.problem.now in
    let old = position_of c.loop-lines.walk in
    let new = position_of c.take.new.self in
    let line = lent c.advance.new.self in
    let q = c.loop-lines.walk.kernel.problem in
    let there = subst (λ l. Advances q l old new) c.line.ensures c.in_ok-take.ensures.advances in
    let on = subst (λ r. Advances r line old new) kept.0 there in
    let passes = came c.in_ok-advance.field-0 c.new-lines.result c.loop-lines.lines c.advance.new.self (g.S.Source.state c.args.source.now) (g.S.Source.state c.loop-lines.source) (g.S.Source.state c.advance.new.source) kept.1.0 kept.1.2 c.in_ok-advance.ensures.comes c.if-branch.true in
    (c.in_ok-take.ensures.problem ∙ kept.0, (kept.1.0 ++ line ∷ [], reaches_on p kept.1.0 line old new kept.1.1 on, passes))

pub returns-in_err-advance-clause-stop : goal.returns-in_err-advance-clause-stop
returns-in_err-advance-clause-stop g c =
    let s = g.S.Source.state c.args.source.now in
    let u = g.S.Source.state c.advance.new.source in
    let e = err_from_is_err_and c.from_residual-in_err-advance.result c.from_residual-in_err-advance.ensures.1 in
    rw (e.1, e.2) (stream_fails c.args.problem.now s (g.S.Source.state c.loop-lines.source) u c.in_err-advance.field-0.0 c.loop-lines.invariant.1.2.failures c.in_err-advance.ensures.failed c.in_err-advance.ensures.memory)

pub returns-in_err-take-clause-stop : goal.returns-in_err-take-clause-stop
returns-in_err-take-clause-stop g c =
    let kept = c.loop-lines.invariant in
    let s = g.S.Source.state c.args.source.now in
    let u = g.S.Source.state c.advance.new.source in
    let fresh : IsFresh c.new-lines.result = record { number = c.new-lines.ensures.number; bytes = c.new-lines.ensures.bytes; ended = c.new-lines.ensures.ended } in
    let passes = came c.in_ok-advance.field-0 c.new-lines.result c.loop-lines.lines c.advance.new.self s (g.S.Source.state c.loop-lines.source) u kept.1.0 kept.1.2 c.in_ok-advance.ensures.comes c.if-branch.true in
    let e = err_from_is_err_and c.from_residual-in_err-take.result c.from_residual-in_err-take.ensures.1 in
    rw (e.1, e.2)
    (judging_stops c.args.problem.now s u _ passes.failures
    (stream_stop c.args.problem.now c.loop-lines.walk.kernel.problem c.new-lines.result c.advance.new.self s u (position_of c.loop-lines.walk) kept.1.0 (lent c.advance.new.self) _ _ kept.0 c.line.ensures fresh passes kept.1.1 c.in_err-take.ensures.stop))

pub returns-in_err-finish-clause-stop : goal.returns-in_err-finish-clause-stop
returns-in_err-finish-clause-stop g c =
    let kept = c.loop-lines.invariant in
    let s = g.S.Source.state c.args.source.now in
    let u = g.S.Source.state c.advance.new.source in
    let fresh : IsFresh c.new-lines.result = record { number = c.new-lines.ensures.number; bytes = c.new-lines.ensures.bytes; ended = c.new-lines.ensures.ended } in
    let over = came_to_end c.in_ok-advance.field-0 c.new-lines.result c.loop-lines.lines c.advance.new.self s (g.S.Source.state c.loop-lines.source) u kept.1.0 kept.1.2 c.in_ok-advance.ensures.comes c.if-branch.false in
    let e = err_from_is_err_and c.from_residual-in_err-finish.result c.from_residual-in_err-finish.ensures.1 in
    rw (e.1, e.2)
    (judging_stops c.args.problem.now s u _ over.0.failures
    (stream_short c.args.problem.now c.new-lines.result c.advance.new.self s u (position_of c.loop-lines.walk) kept.1.0 c.number.result _ c.number.ensures fresh over.0 over.1 kept.1.1 c.in_err-finish.ensures.stop))

pub returns-clause-proved : goal.returns-clause-proved
returns-clause-proved g c =
    let kept = c.loop-lines.invariant in
    let s = g.S.Source.state c.args.source.now in
    let u = g.S.Source.state c.advance.new.source in
    let fresh : IsFresh c.new-lines.result = record { number = c.new-lines.ensures.number; bytes = c.new-lines.ensures.bytes; ended = c.new-lines.ensures.ended } in
    let over = came_to_end c.in_ok-advance.field-0 c.new-lines.result c.loop-lines.lines c.advance.new.self s (g.S.Source.state c.loop-lines.source) u kept.1.0 kept.1.2 c.in_ok-advance.ensures.comes c.if-branch.false in
    stream_proved c.args.problem.now c.new-lines.result c.advance.new.self s u (position_of c.loop-lines.walk) kept.1.0 _ fresh over.0 over.1 kept.1.1 c.in_ok-finish.ensures.finished.0 c.in_ok-finish.ensures.finished.1
