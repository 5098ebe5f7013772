-- The first of the decisions are decisions still.
use Rattle.std.proofs.Common.{◌∙◌, sym, subst, ap}
use Rattle.proof_log.specs.Log.{Logbook}
use Rattle.search.specs.Decisions.{AreDecisions}
use Rattle.search.proofs.Decisions.{decisions_on, first_decisions}
use Rattle.search.proofs.cutting.learn.Goals as goal

pub returns-clause-decisions : goal.returns-clause-decisions
returns-clause-decisions g c =
    let old : Logbook = c.args.log.now in
    decisions_on old c.learn_derived.new.self c.truncate.new.self.items (c.learn_derived.ensures.goes_on.problem ∙ ap (λ (l : Logbook). l.problem) c.try_under.ensures.same)
    (subst (AreDecisions old) (sym c.truncate.ensures.items) (first_decisions old c.args.learned.level c.args.decisions.now.items c.requires.decisions))
