-- What is derived is legal as long as an id is left, and it bites by its value.
use Rattle.std.proofs.Common.{◌≡◌, sym, subst}
use Rattle.std.specs.Prelude.{IfOk}
use Rattle.kernel.specs.Held.{HasAtLeast, given_id}
use Rattle.proof_log.specs.Log.{Logbook}
use Rattle.proof_log.proofs.Taking.{value_bites, value_legal}
use Rattle.proof_log.proofs.log.Log.learn_derived.Goals as goal

pub keep_lesson-requires-clause-relation : goal.keep_lesson-requires-clause-relation
keep_lesson-requires-clause-relation g c = subst HasAtLeast (sym c.requires.value.1) tt

pub keep_lesson-requires-clause-value : goal.keep_lesson-requires-clause-value
keep_lesson-requires-clause-value g c = (c.requires.value, c.requires.room)

pub keep_lesson-requires-clause-legal : goal.keep_lesson-requires-clause-legal
keep_lesson-requires-clause-legal g c = value_legal c.args.self.now c.args.step c.args.value (c.requires.value, c.requires.room)

pub keep_lesson-requires-clause-bites : goal.keep_lesson-requires-clause-bites
keep_lesson-requires-clause-bites g c = value_bites c.args.self.now.state c.args.step c.args.value c.requires.value c.requires.bites

pub returns-clause-id : goal.returns-clause-id
returns-clause-id g c =
    let l : Logbook = c.args.self.now in
    subst (λ step. IfOk c.keep_lesson.result (λ applied. applied.id ≡ given_id step l.state)) c.requires.value.1 c.keep_lesson.ensures.id
