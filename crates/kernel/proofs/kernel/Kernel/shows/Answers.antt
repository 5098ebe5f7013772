use Rattle.std.proofs.Common.{◌≡◌, ◌↔◌, List, ◌++◌, IfOk, IsTrue, ap, subst, ◌∙◌}
use Rattle.std.proofs.lemmas.List.{append-nil}
use Rattle.std.specs.FinMap as map
use Rattle.normal_form.specs.Normal.{NormalConstraint}
use Rattle.proof_rules.specs.Shown.{IsShown}
use Rattle.proof_rules.specs.State.{constraints}
use Rattle.kernel.specs.Held.{Held}
use Rattle.kernel.proofs.kernel.Kernel.shows.Goals as goal

pub returns-clause-shown : goal.returns-clause-shown
returns-clause-shown g c =
    let live : List NormalConstraint = map.values c.self.inside.database.live in
    let alone : live ++ c.new-beside.result.items ≡ live = ap (λ b. live ++ b) c.new-beside.ensures.items ∙ append-nil live in
    subst (λ (k : Held). IfOk c.is_shown.result (λ found. IsTrue found ↔ IsShown (constraints k.state) c.args.constraint.now)) c.self.view_is
    (subst (λ ns. IfOk c.is_shown.result (λ found. IsTrue found ↔ IsShown ns c.args.constraint.now)) alone c.is_shown.ensures.shown)
