use Rattle.std.proofs.Common.{◌≡◌, ◌↔◌, IsTrue, IfSome, false, refl}
use Rattle.std.proofs.lemmas.Result.{IfOk-weaker}
use Rattle.std.specs.FinMap as map
use Rattle.proof_rules.specs.Redundant.{IsShownNotRaised}
use Rattle.proof_rules.specs.Shown.{IsShown}
use Rattle.proof_rules.specs.State.{Block}
use Rattle.kernel.proofs.OpenBlocks.{objective_shown}
use Rattle.kernel.proofs.block.shows_objective.Goals as goal

pub returns-clause-shown : goal.returns-clause-shown
returns-clause-shown g c =
    let from = map.values c.args.database.now.live in
    let k : Block = c.args.block.now in
    let objective = c.args.objective.now in
    let asked = c.in_ok-goal.goal in
    IfOk-weaker c.shows_if_asked.result (λ yes. IsTrue yes ↔ IfSome asked (IsShown from)) (λ yes. IsTrue yes ↔ (k.objective ≡ false → IfSome objective (IsShownNotRaised from k.images)))
    (λ b shown. objective_shown from k objective asked b k.objective refl c.in_ok-goal.ensures.opened c.in_ok-goal.ensures.goal shown) c.shows_if_asked.ensures.shown
