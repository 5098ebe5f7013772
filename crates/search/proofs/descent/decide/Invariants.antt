-- So many of what was traced are decided, and what they force is noted.
use Rattle.std.proofs.Common.{◌≡◌, ◌<◌, ◌++◌, length, take}
use Rattle.propagate.specs.Content.{IsEnd}
use Rattle.search.specs.Decisions.{AreDecisions}
use Rattle.search.specs.Values.{unlisted_below}
use Rattle.search.proofs.Descending.{literals}
use Rattle.search.proofs.descent.decide.Given as goal

abbrev pub invariant-loop-one : goal.invariant-loop-one
invariant-loop-one g l = record {
  so_far : l.decisions.items ≡ l.fn.decisions.items ++ literals (take l.one-index l.one-items);
  named : AreDecisions l.fn.log l.decisions.items;
  count : l.standing.count ≡ length l.fn.log.problem.names;
  end : IsEnd l.fn.log.state.live l.decisions.items l.standing.literals;
  fresh : l.one-index ≡ 0 → l.standing ≡ l.fn.standing;
  fewer : 0 < l.one-index → unlisted_below (length l.fn.log.problem.names) l.decisions.items < unlisted_below (length l.fn.log.problem.names) l.fn.decisions.items;
}
