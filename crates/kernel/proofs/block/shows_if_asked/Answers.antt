use Rattle.std.proofs.Common.{◌≡◌, ◌↔◌, List, ◌++◌, IfOk, IfSome, IsTrue, sym, ap, subst, ◌∙◌}
use Rattle.std.proofs.lemmas.List.{append-nil}
use Rattle.std.specs.FinMap as map
use Rattle.normal_form.specs.Normal.{NormalConstraint}
use Rattle.proof_rules.specs.Shown.{IsShown}
use Rattle.kernel.proofs.block.shows_if_asked.Goals as goal

pub returns-clause-shown : goal.returns-clause-shown
returns-clause-shown g c =
    let live : List NormalConstraint = map.values c.args.database.now.live in
    let alone : live ++ c.new-beside.result.items ≡ live = ap (λ b. live ++ b) c.new-beside.ensures.items ∙ append-nil live in
    subst (λ o. IfOk c.is_shown.result (λ yes. IsTrue yes ↔ IfSome o (IsShown live))) (sym c.in-Some.is)
    (subst (λ ns. IfOk c.is_shown.result (λ yes. IsTrue yes ↔ IsShown ns c.in-Some.goal)) alone c.is_shown.ensures.shown)
