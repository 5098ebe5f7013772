-- What is added to no id.
use Rattle.std.proofs.Common.{ap, subst}
use Rattle.proof_rules.specs.State.{Live}
use Rattle.propagate.specs.Content.{AddsOccurrences}
use Rattle.database.specs.Database.{Constraints}
use Rattle.database.proofs.CoveredAt.{occurrences_alone}
use Rattle.database.proofs.database.Database.having.Goals as goal

pub returns-clause-having : goal.returns-clause-having
returns-clause-having g c =
    let added = subst (λ (live : Live). AddsOccurrences live c.args.literal c.empty-none.result c.in_ok-ids.ids) (ap (λ (d : Constraints). d.live) c.self.view_is) c.in_ok-ids.ensures.added in
    occurrences_alone c.args.self.now.live c.args.literal c.empty-none.result c.in_ok-ids.ids c.empty-none.ensures added
