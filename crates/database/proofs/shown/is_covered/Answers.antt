use Rattle.std.proofs.Common.{◌↔◌, Any, IfOk, IsTrue, refl, subst}
use Rattle.std.specs.FinMap as map
use Rattle.normal_form.specs.Normal.{NormalConstraint}
use Rattle.substitution.specs.Covering.{Covers}
use Rattle.database.specs.Covered.{HasContradiction}
use Rattle.database.specs.Database.{Constraints}
use Rattle.database.proofs.shown.is_covered.Goals as goal

pub returns-then-branch-clause-covered : goal.returns-then-branch-clause-covered
returns-then-branch-clause-covered g c = (λ _. c.in_ok-has_duplicate.ensures.covered c.if-branch.true, λ _. refl)

pub is_covered_at_literals-requires-clause-consistent : goal.is_covered_at_literals-requires-clause-consistent
is_covered_at_literals-requires-clause-consistent g c has = c.requires.consistent (subst (λ (d : Constraints). HasContradiction (map.values d.live)) c.in_ok-has_duplicate.ensures.same has)

pub returns-clause-covered : goal.returns-clause-covered
returns-clause-covered g c =
    let n : NormalConstraint = c.args.constraint.now in
    subst (λ (d : Constraints). IfOk c.is_covered_at_literals.result (λ yes. IsTrue yes ↔ Any (λ e. Covers e n) (map.values d.live))) c.in_ok-has_duplicate.ensures.same c.is_covered_at_literals.ensures.covered
