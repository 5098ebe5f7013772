-- The ids so far are taken out.
use Rattle.std.proofs.Common.{◌≡◌}
use Rattle.database.specs.Database.{without_between}
use Rattle.database.proofs.database.Database.remove_between.Given as goal

abbrev pub invariant-loop-id : goal.invariant-loop-id
invariant-loop-id g l = l.self ≡ without_between l.fn.first l.id l.fn.self
