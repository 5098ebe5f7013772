-- What is settled satisfies the file, and is better than what was improved to before.
use Rattle.std.proofs.Common.{◌≡◌, None, ap, ◌∙◌}
use Rattle.linear.specs.Opb.{Opb}
use Rattle.proof_log.specs.Log.{Logbook}
use Rattle.search.proofs.Entitling.{sol_logs}
use Rattle.search.proofs.Stepping.{sol_legal, soli_legal, some_lent}
use Rattle.search.proofs.run.Run.accept.Goals as goal

pub returns-then-is_none-clause-found : goal.returns-then-is_none-clause-found
returns-then-is_none-clause-found g c = c.in_ok-end_solved.ensures.found c.args.limit

pub take-requires-clause-legal : goal.take-requires-clause-legal
take-requires-clause-legal g c =
    let l : Logbook = c.args.self.now.log in
    let known = c.reveal.ensures in sol_legal l c.args.assigned known.proof.entitled.1.0 known.within known.live c.requires

pub end_solved-requires-clause-logged : goal.end_solved-requires-clause-logged
end_solved-requires-clause-logged g c =
    let l : Logbook = c.args.self.now.log in sol_logs l.problem l.state c.take.new.self.state c.args.assigned c.in_ok-take.ensures.taken.legal.1

pub improve-requires-clause-legal : goal.improve-requires-clause-legal
improve-requires-clause-legal g c =
    let l : Logbook = c.args.self.now.log in
    let known = c.reveal.ensures in
    let some : l.problem.objective ≡ None → ⊥ =
    some_lent c.objective.result l.problem.objective c.is_none.result (c.objective.ensures ∙ ap (λ (p : Opb). p.objective) c.problem.ensures) c.is_none.ensures c.if-is_none.false in
    soli_legal l c.args.assigned known.proof.entitled.1.0 known.within known.live c.requires some (c.has_room.ensures.0 c.if-not-has_room.false)

pub take-requires-clause-writable : goal.take-requires-clause-writable
take-requires-clause-writable g c = c.requires.named

pub improve-requires-clause-writable : goal.improve-requires-clause-writable
improve-requires-clause-writable g c = c.requires.named
