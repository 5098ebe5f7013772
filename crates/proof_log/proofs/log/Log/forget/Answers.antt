-- Constraints that are live and differ may be deleted, and so many can be written.
use Rattle.std.proofs.Common.{All, sym, subst}
use Rattle.proof_rules.specs.Deletion.{AreDeletableAtOnce}
use Rattle.proof_rules.proofs.DelAtOnce.{in_turn}
use Rattle.proof_text.specs.Writable.{IsWritable}
use Rattle.proof_log.specs.Log.{Logbook}
use Rattle.proof_log.proofs.Forgetting.{next_stays}
use Rattle.proof_log.proofs.log.Log.forget.Goals as goal

pub take-requires-clause-legal : goal.take-requires-clause-legal
take-requires-clause-legal g c =
    let l : Logbook = c.args.self.now in
    let deleted = in_turn l.state c.from_vec.result (subst (AreDeletableAtOnce l.state) (sym c.from_vec.ensures) c.in_ok-numbers.ensures.live) in
    (deleted.0, (c.reveal.ensures.proof.entitled.1.0, deleted.1))

pub take-requires-clause-writable : goal.take-requires-clause-writable
take-requires-clause-writable g c = subst (All IsWritable) (sym c.from_vec.ensures) c.in_ok-numbers.ensures.writable

pub returns-clause-next : goal.returns-clause-next
returns-clause-next g c =
    next_stays c.args.self.now.problem c.args.self.now.state c.take.new.self.state c.from_vec.result c.in_ok-take.ensures.taken.legal.1
