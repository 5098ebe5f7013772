use Rattle.std.proofs.Common.{IsSomeAnd, refl, sym, ap, subst}
use Rattle.std.proofs.lemmas.Bool.{false≢true}
use Rattle.std.specs.FinMap as map
use Rattle.substitution.specs.Covering.{Covers}
use Rattle.proof_rules.specs.State.{Live}
use Rattle.database.specs.Database.{Constraints}
use Rattle.database.proofs.CoveredAt.{asking_first, asking_more, asked_covers, asking_end}
use Rattle.database.proofs.IdSets.{fewer}
use Rattle.database.proofs.shown.is_covered_at.Goals as goal

pub loop-id-init : goal.loop-id-init
loop-id-init g c =
    asking_first c.args.database.now.live c.args.literal c.args.constraint.now c.in_ok-ids.ids c.in_ok-ids.ensures.having

pub loop-id-preserved : goal.loop-id-preserved
loop-id-preserved g c =
    let live = ap (λ (d : Constraints). d.live) c.in_ok-ids.ensures.same in
    asking_more c.args.database.now.live c.args.literal c.args.constraint.now c.loop-id.ids c.pop_first.new.self c.in-Some.id c.loop-id.invariant c.in-Some.ensures.removed
    (λ covered. false≢true (c.if-is_covering.ensures.1 (subst (λ (l : Live). IsSomeAnd (map.get l c.in-Some.id) (λ e. Covers e c.args.constraint.now)) (sym live) covered)))

pub loop-id-smaller : goal.loop-id-smaller
loop-id-smaller g c = fewer c.loop-id.ids c.pop_first.new.self c.in-Some.id c.in-Some.ensures.least.0 c.in-Some.ensures.removed

pub returns-then-is_covering-clause-covered : goal.returns-then-is_covering-clause-covered
returns-then-is_covering-clause-covered g c =
    let live = ap (λ (d : Constraints). d.live) c.in_ok-ids.ensures.same in
    let covered = subst (λ (l : Live). IsSomeAnd (map.get l c.in-Some.id) (λ e. Covers e c.args.constraint.now)) live (c.if-is_covering.ensures.0 refl) in
    (λ _. asked_covers c.args.database.now.live c.args.literal c.args.constraint.now c.loop-id.ids c.in-Some.id c.loop-id.invariant c.in-Some.ensures.least.0 covered, λ _. refl)

pub returns-clause-covered : goal.returns-clause-covered
returns-clause-covered g c =
    (λ h. absurd (false≢true h), λ a. absurd (asking_end c.args.database.now.live c.args.literal c.args.constraint.now c.loop-id.ids c.loop-id.invariant c.in_default.ensures.least a))
