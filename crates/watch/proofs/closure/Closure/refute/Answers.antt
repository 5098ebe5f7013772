-- Nothing is given then.
use Rattle.std.proofs.Common.{◌++◌, ◌∙◌, ◌↔◌, IfOk, IsTrue, List, Option, subst}
use Rattle.normal_form.specs.Normal.{NormalConstraint}
use Rattle.propagate.specs.Chain.{IsRefuted}
use Rattle.ledger.specs.Ledgers.{shown}
use Rattle.watch.proofs.KeptLevels.{kept_root, root_kept}
use Rattle.watch.proofs.closure.Closure.refute.Goals as goal

pub invariant_of-self : goal.invariant_of-self
invariant_of-self c = (c.attach_to.ensures.kept c.self.inside.levels c.self.invariant.0, c.attach_to.ensures.rest c.self.inside.rest c.self.invariant.1)

pub backtrack_to_root-requires-clause-rest : goal.backtrack_to_root-requires-clause-rest
backtrack_to_root-requires-clause-rest c = c.attach_to.ensures.rest c.self.inside.rest c.self.invariant.1

pub refute_from_root-answer-requires-clause-root : goal.refute_from_root-answer-requires-clause-root
refute_from_root-answer-requires-clause-root c =
    root_kept c.backtrack_to_root.new.ledger c.backtrack_to_root.new.levels c.backtrack_to_root.new.queue.0 c.backtrack_to_root.new.queue.1 c.reveal.ensures.reasons.as_many c.backtrack_to_root.ensures.levels c.backtrack_to_root.ensures.kept

pub invariant_of-self-2 : goal.invariant_of-self-2
invariant_of-self-2 c =
    let a = c.refute_from_root-answer in
    (kept_root a.new.ledger c.backtrack_to_root.new.levels a.new.queue.0 a.new.queue.1 c.reveal-2.ensures.reasons.as_many c.backtrack_to_root.ensures.levels a.ensures.root, a.ensures.rest)

pub returns-clause-value : goal.returns-clause-value
returns-clause-value c =
    let answer = c.refute_from_root-answer in
    subst (λ (os : List (Option NormalConstraint)). IfOk answer.result (λ yes. IsTrue yes ↔ IsRefuted (shown os ++ c.args.extras.now))) (c.backtrack_to_root.ensures.slots ∙ c.in_ok-attach_to.ensures.all ∙ c.self.view_is) answer.ensures.value
