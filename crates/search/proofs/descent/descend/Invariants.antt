use Rattle.std.proofs.Common.{◌≡◌, length}
use Rattle.propagate.specs.Content.{IsEnd}
use Rattle.search.specs.Decisions.{AreDecisions}
use Rattle.search.specs.Values.{unlisted_below}
use Rattle.search.proofs.descent.descend.Given as goal

abbrev pub invariant-decisions : goal.invariant-decisions
invariant-decisions g l =
    (l.log ≡ l.initial.log) × AreDecisions l.log l.decisions.items × (l.standing.count ≡ l.count)
    × IsEnd l.log.state.live l.decisions.items l.standing.literals

abbrev pub decreases-decisions : goal.decreases-decisions
decreases-decisions g l = unlisted_below l.count l.decisions.items
