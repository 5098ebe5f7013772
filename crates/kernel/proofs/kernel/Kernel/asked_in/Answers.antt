use Rattle.std.proofs.Common.{FitsSigned, IfOk, sym, ap, subst, ◌∙◌, rules}
use Rattle.std.proofs.lemmas.Int.{to_z-of_z}
use mir.Syntax.{w128}
use Rattle.proof_steps.specs.declared.step.GoalName.TheVariants as names
use Rattle.kernel.specs.Held.{Held}
use Rattle.kernel.specs.Place.{IsAskedIn}
use Rattle.kernel.proofs.kernel.Kernel.asked_in.Goals as goal

pub returns-in-Live-clause-asked : goal.returns-in-Live-clause-asked
returns-in-Live-clause-asked g c =
    let k : Held = c.args.self.now in
    let fits : FitsSigned w128 c.in-Live.number = search rules in
    let is = ap names.Live (to_z-of_z w128 c.in-Live.number fits) ∙ sym c.in-Live.is in
    subst (λ name. IfOk c.live_goal.result (IsAskedIn k.problem k.state c.args.block.now name)) is c.live_goal.ensures.asked
