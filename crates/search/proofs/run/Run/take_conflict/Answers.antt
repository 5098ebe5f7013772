-- The first of decisions are decisions.
use Rattle.std.proofs.Common.{sym, subst, ◌∙◌}
use Rattle.proof_log.specs.Log.{Logbook}
use Rattle.search.specs.Decisions.{AreDecisions}
use Rattle.search.proofs.Decisions.{first_decisions}
use Rattle.search.proofs.run.Run.take_conflict.Goals as goal

pub returns-then-bite-clause-decisions : goal.returns-then-bite-clause-decisions
returns-then-bite-clause-decisions g c =
    let old : Logbook = c.args.self.now.log in
    subst (AreDecisions old) (sym c.truncate.ensures.items) (first_decisions old c.in-Some.bite.level c.args.self.now.decisions.items c.requires)

pub count_conflict-requires : goal.count_conflict-requires
count_conflict-requires g c =
    let old : Logbook = c.args.self.now.log in
    subst (λ (l : Logbook). AreDecisions l c.keep-2.new.self.decisions.items) (sym c.keep-2.ensures.log)
    (subst (AreDecisions old) (sym (c.keep-2.ensures.decisions ∙ c.truncate.ensures.items)) (first_decisions old c.in-Some.bite.level c.args.self.now.decisions.items c.requires))
