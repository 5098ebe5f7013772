use Rattle.std.proofs.Common.{◌≡◌, ◌↔◌, IsTrue, IfSome, false}
use Rattle.std.proofs.lemmas.Result.{IfOk-weaker}
use Rattle.std.specs.FinMap as map
use Rattle.proof_rules.specs.Redundant.{IsShownUnder}
use Rattle.proof_rules.specs.Shown.{IsShown}
use Rattle.proof_rules.specs.State.{Block}
use Rattle.kernel.proofs.OpenBlocks.{own_shown}
use Rattle.kernel.proofs.block.shows_own.Goals as goal

pub returns-clause-shown : goal.returns-clause-shown
returns-clause-shown g c =
    let from = map.values c.args.database.now.live in
    let k : Block = c.args.block.now in
    let own = c.in_ok-goal.goal in
    IfOk-weaker c.shows_if_asked.result (λ yes. IsTrue yes ↔ IfSome own (IsShown from)) (λ yes. IsTrue yes ↔ (k.itself ≡ false → IsShownUnder from k.images k.constraint))
    (λ b shown. own_shown from k own b c.in_ok-goal.ensures shown) c.shows_if_asked.ensures.shown
