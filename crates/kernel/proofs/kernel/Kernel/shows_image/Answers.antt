-- A constraint becomes one constraint, which is shown or not.
use Rattle.std.proofs.Common.{◌≡◌, ◌↔◌, ◌++◌, IfOk, IsTrue, List, ap, subst}
use Rattle.std.proofs.lemmas.Result.{IfOk-weaker}
use Rattle.std.specs.FinMap as map
use Rattle.normal_form.specs.Normal.{NormalConstraint}
use Rattle.proof_rules.specs.Redundant.{IsShownUnder}
use Rattle.proof_rules.specs.Shown.{IsShown}
use Rattle.proof_rules.specs.State.{constraints}
use Rattle.kernel.specs.Held.{Held}
use Rattle.kernel.proofs.GoalsShown.{shown_under}
use Rattle.kernel.proofs.kernel.Kernel.shows_image.Goals as goal

pub returns-clause-shown : goal.returns-clause-shown
returns-clause-shown g c =
    let k : Held = c.args.self.now in
    let beside : List NormalConstraint = c.args.beside.now.items in
    let from : List NormalConstraint = constraints k.state ++ beside in
    let images = c.args.witness.now in
    let n = c.args.constraint.now in
    let r = c.in_ok-goal.goal in
    let live : c.self.inside.database.live ≡ k.state.live = ap (λ (x : Held). x.state.live) c.self.view_is in
    IfOk-weaker c.is_shown.result (λ yes. IsTrue yes ↔ IsShown from r) (λ yes. IsTrue yes ↔ IsShownUnder from images n)
    (λ yes shown. shown_under from images n r yes c.in_ok-goal.ensures.under shown)
    (subst (λ l. IfOk c.is_shown.result (λ yes. IsTrue yes ↔ IsShown (map.values l ++ beside) r)) live c.is_shown.ensures.shown)
