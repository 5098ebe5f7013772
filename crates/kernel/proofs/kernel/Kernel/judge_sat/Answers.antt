use Rattle.std.proofs.Common.{◌≡◌, List, [], Bool, Option, Some, inr, subst}
use Rattle.proof_rules.specs.declared.fault.StepFault.TheVariants as faults
use Rattle.proof_rules.specs.Fault.{IsSatFault}
use Rattle.proof_rules.specs.Justified.{IsBest}
use Rattle.proof_rules.specs.State.{State}
use Rattle.kernel.specs.Held.{Held, with_extra}
use Rattle.kernel.proofs.Concluded.{behind, some_logged}
use Rattle.kernel.proofs.kernel.Kernel.judge_sat.Goals as goal

pub returns-in_default-clause-fault : goal.returns-in_default-clause-fault
returns-in_default-clause-fault g c =
    let k : Held = c.args.self.now in
    let extra : Option (List Bool) = c.in_ok-extra.extra in
    let t : State = with_extra extra k.state in
    let best : IsBest k.problem t.logged c.in_ok-best.field-0 =
    subst (λ (x : Held). IsBest x.problem (with_extra extra x.state).logged c.in_ok-best.field-0) c.in_ok-extra.ensures.same c.in_ok-best.ensures.best in
    let empty : t.logged ≡ [] = subst (IsBest k.problem t.logged) c.in_default.is best in
    inr (behind k.problem k.state t c.args.hint.now (λ u. IsSatFault u faults.UpperNotLogged) c.in_ok-extra.ensures.takes empty)

pub returns-clause-justified : goal.returns-clause-justified
returns-clause-justified g c =
    let k : Held = c.args.self.now in
    let extra : Option (List Bool) = c.in_ok-extra.extra in
    let t : State = with_extra extra k.state in
    let best : IsBest k.problem t.logged c.in_ok-best.field-0 =
    subst (λ (x : Held). IsBest x.problem (with_extra extra x.state).logged c.in_ok-best.field-0) c.in_ok-extra.ensures.same c.in_ok-best.ensures.best in
    let there : IsBest k.problem t.logged (Some c.in-Some.best) = subst (IsBest k.problem t.logged) c.in-Some.is best in
    (t, c.in_ok-extra.ensures.takes, some_logged k.problem t.logged c.in-Some.best there, there)
