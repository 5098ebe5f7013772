-- Where there is an objective, it has one goal, which is shown or not.
use Rattle.std.proofs.Common.{◌≡◌, ◌↔◌, ◌++◌, IfOk, IfSome, IsTrue, List, ap, sym, subst, ◌∙◌}
use Rattle.std.proofs.lemmas.Result.{IfOk-weaker}
use Rattle.std.specs.FinMap as map
use Rattle.normal_form.specs.Normal.{NormalConstraint}
use Rattle.proof_rules.specs.Redundant.{IsShownNotRaised}
use Rattle.proof_rules.specs.Shown.{IsShown}
use Rattle.proof_rules.specs.State.{constraints}
use Rattle.kernel.specs.Held.{Held}
use Rattle.kernel.proofs.GoalsShown.{objective_judged, shown_not_raised}
use Rattle.kernel.proofs.kernel.Kernel.shows_not_raised.Goals as goal

pub returns-clause-shown : goal.returns-clause-shown
returns-clause-shown g c =
    let k : Held = c.args.self.now in
    let beside : List NormalConstraint = c.args.beside.now.items in
    let from : List NormalConstraint = constraints k.state ++ beside in
    let images = c.args.witness.now in
    let r = c.in-Some.goal in
    let live : c.self.inside.database.live ≡ k.state.live = ap (λ (x : Held). x.state.live) c.self.view_is in
    let objective : c.self.inside.objective ≡ k.problem.objective = c.self.invariant.objective_is ∙ ap (λ (x : Held). x.problem.objective) c.self.view_is in
    let o = objective_judged c.self.inside.objective c.in_ok-goal.field-0 r images from c.in_ok-goal.ensures.goal c.in-Some.is in
    IfOk-weaker c.is_shown.result (λ yes. IsTrue yes ↔ IsShown from r) (λ yes. IsTrue yes ↔ IfSome k.problem.objective (IsShownNotRaised from images))
    (λ yes shown. shown_not_raised from images k.problem.objective o.0 r yes (sym objective ∙ o.1) o.2 shown)
    (subst (λ l. IfOk c.is_shown.result (λ yes. IsTrue yes ↔ IsShown (map.values l ++ beside) r)) live c.is_shown.ensures.shown)
