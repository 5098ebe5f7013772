use Rattle.std.proofs.Common.{◌↔◌, inl, List, ◌++◌, IfOk, IsTrue, refl, subst}
use Rattle.std.specs.FinMap as map
use Rattle.normal_form.specs.Normal.{NormalConstraint}
use Rattle.substitution.specs.Covering.{Covers}
use Rattle.proof_rules.specs.Shown.{IsShown}
use Rattle.database.specs.Database.{Constraints}
use Rattle.database.proofs.Showing.{any_left}
use Rattle.kernel.proofs.redundance.shows_goal.Goals as goal

pub returns-then-branch-clause-shown : goal.returns-then-branch-clause-shown
returns-then-branch-clause-shown g c =
    let live : List NormalConstraint = map.values c.args.database.now.live in
    let beside : List NormalConstraint = c.args.beside.now.items in
    (λ _. inl (any_left (λ e. Covers e c.args.goal.now) live beside (c.in_ok-has_become_live.ensures.covered c.if-branch.true)), λ _. refl)

pub returns-clause-shown : goal.returns-clause-shown
returns-clause-shown g c =
    let n : NormalConstraint = c.args.goal.now in
    let beside : List NormalConstraint = c.args.beside.now.items in
    subst (λ (d : Constraints). IfOk c.is_shown.result (λ yes. IsTrue yes ↔ IsShown (map.values d.live ++ beside) n)) c.in_ok-has_become_live.ensures.same c.is_shown.ensures.shown
