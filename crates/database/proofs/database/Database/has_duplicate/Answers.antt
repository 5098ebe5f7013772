use Rattle.std.proofs.Common.{IsSomeAnd, ap, subst}
use Rattle.std.specs.FinMap as map
use Rattle.substitution.specs.Covering.{Covers}
use Rattle.proof_rules.specs.State.{Live}
use Rattle.database.specs.Database.{Constraints}
use Rattle.database.proofs.CoveredAt.{covered_by_one}
use Rattle.database.proofs.database.Database.has_duplicate.Goals as goal

pub returns-in-Some-clause-covered : goal.returns-in-Some-clause-covered
returns-in-Some-clause-covered g c is =
    let n = c.args.constraint.now in
    let same = ap (λ (d : Constraints). d.live) c.in_ok-enter_fingerprints.ensures in
    covered_by_one c.args.self.now.live c.in-Some.id n (subst (λ (l : Live). IsSomeAnd (map.get l c.in-Some.id) (λ e. Covers e n)) same (c.is_covering.ensures.0 is))
