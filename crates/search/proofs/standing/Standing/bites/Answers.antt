-- What stands is what the trail has.
use Rattle.std.proofs.Common.{◌↔◌, List, subst}
use Rattle.std.specs.Prelude.{IsTrue}
use Rattle.analysis.specs.Biting.{Bites}
use Rattle.search.specs.Standing.{Assigned}
use Rattle.search.proofs.standing.Standing.bites.Goals as goal

pub returns : goal.returns
returns c = subst (λ (s : Assigned). IsTrue c.bites_under.result ↔ Bites s.literals c.args.constraint.now) c.self.view_is c.bites_under.ensures
