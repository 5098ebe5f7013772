use Rattle.std.proofs.Common.{◌≡◌, ◌↔◌, ◌++◌, List, None, Some, IsTrue, refl, subst}
use Rattle.std.proofs.lemmas.Result.{IfOk-weaker}
use Rattle.std.specs.FinMap as map
use Rattle.normal_form.specs.Normal.{NormalConstraint}
use Rattle.substitution.specs.Beyond.{BecomesBeyond}
use Rattle.proof_rules.specs.Redundant.{IsShownUnder}
use Rattle.proof_rules.specs.Shown.{IsShown}
use Rattle.kernel.proofs.GoalsShown.{itself_under, shown_under}
use Rattle.kernel.proofs.redundance.shows_live.Goals as goal

pub returns-in_default-clause-shown : goal.returns-in_default-clause-shown
returns-in_default-clause-shown g c =
    let live = c.args.database.now.live in
    let beside : List NormalConstraint = c.args.beside.now.items in
    let images = c.args.witness.now in
    λ n is.
    let b : BecomesBeyond n images None = subst (BecomesBeyond n images) c.in_default.is (c.in_ok-goal.ensures n is) in
    (λ _. itself_under live beside images c.args.id n is b, λ _. refl)

pub returns-clause-shown : goal.returns-clause-shown
returns-clause-shown g c =
    let live = c.args.database.now.live in
    let beside : List NormalConstraint = c.args.beside.now.items in
    let images = c.args.witness.now in
    let r = c.in-Some.goal in
    IfOk-weaker c.shows_goal.result (λ yes. IsTrue yes ↔ IsShown (map.values live ++ beside) r)
    (λ yes. (n : NormalConstraint) → map.get live c.args.id ≡ Some n → IsTrue yes ↔ IsShownUnder (map.values live ++ beside) images n)
    (λ yes shown n is. shown_under (map.values live ++ beside) images n r yes (subst (BecomesBeyond n images) c.in-Some.is (c.in_ok-goal.ensures n is)).0 shown)
    c.shows_goal.ensures.shown
