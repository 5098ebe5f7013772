use Rattle.std.proofs.Common.{IfErr, OnOk, sym, subst}
use Rattle.proof_rules.specs.Legal.{Legal}
use Rattle.proof_rules.specs.Block.{LegalGoal}
use Rattle.proof_rules.specs.Fault.{OrMemory, IsStepFault, IsOutsideFault, IsRedFault, IsSolFault, IsSoliFault, IsDelFault}
use Rattle.proof_rules.proofs.StepJudged.{no_red_fault}
use Rattle.kernel.specs.Held.{Held}
use Rattle.kernel.proofs.Standing.{refused_outside}
use Rattle.kernel.proofs.kernel.Kernel.apply.Goals as goal

pub returns-in_ok-stand_outside-in-Sol-clause-fault : goal.returns-in_ok-stand_outside-in-Sol-clause-fault
returns-in_ok-stand_outside-in-Sol-clause-fault g c =
    let k : Held = c.args.self.now in
    subst (λ x. IfErr c.sol.result (λ f. OrMemory f (IsStepFault k.problem k.state x f))) (sym c.in-Sol.is)
    (subst (λ l. IfErr c.sol.result (λ f. OrMemory f (IsOutsideFault k.state (IsSolFault k.problem k.state l) f))) c.as_slice-in-Sol.ensures
    (refused_outside k.state (IsSolFault k.problem k.state c.as_slice-in-Sol.result.now) c.sol.result c.in_ok-stand_outside-in-Sol.ensures.outside (λ h. h) c.sol.ensures.fault))

pub returns-in_ok-stand_outside-in-Soli-clause-fault : goal.returns-in_ok-stand_outside-in-Soli-clause-fault
returns-in_ok-stand_outside-in-Soli-clause-fault g c =
    let k : Held = c.args.self.now in
    subst (λ x. IfErr c.soli.result (λ f. OrMemory f (IsStepFault k.problem k.state x f))) (sym c.in-Soli.is)
    (subst (λ l. IfErr c.soli.result (λ f. OrMemory f (IsOutsideFault k.state (IsSoliFault k.problem k.state l) f))) c.as_slice-in-Soli.ensures
    (refused_outside k.state (IsSoliFault k.problem k.state c.as_slice-in-Soli.result.now) c.soli.result c.in_ok-stand_outside-in-Soli.ensures.outside (λ h. h.1) c.soli.ensures.fault))

pub returns-in_ok-stand_outside-in-Del-clause-fault : goal.returns-in_ok-stand_outside-in-Del-clause-fault
returns-in_ok-stand_outside-in-Del-clause-fault g c =
    let k : Held = c.args.self.now in
    subst (λ x. IfErr c.del.result (λ f. OrMemory f (IsStepFault k.problem k.state x f))) (sym c.in-Del.is)
    (subst (λ l. IfErr c.del.result (λ f. OrMemory f (IsOutsideFault k.state (IsDelFault k.state l) f))) c.as_slice-in-Del.ensures
    (refused_outside k.state (IsDelFault k.state c.as_slice-in-Del.result.now) c.del.result c.in_ok-stand_outside-in-Del.ensures.outside (λ h. h) c.del.ensures.fault))

pub returns-in_ok-stand_outside-in-Red-clause-fault : goal.returns-in_ok-stand_outside-in-Red-clause-fault
returns-in_ok-stand_outside-in-Red-clause-fault g c =
    let k : Held = c.args.self.now in
    subst (λ x. IfErr c.red.result (λ f. OrMemory f (IsStepFault k.problem k.state x f))) (sym c.in-Red.is)
    (refused_outside k.state (IsRedFault k.problem k.state c.in-Red.constraint c.in-Red.witness) c.red.result c.in_ok-stand_outside-in-Red.ensures.outside (no_red_fault k.problem k.state c.in-Red.constraint c.in-Red.witness) c.red.ensures.fault)

pub returns-in_ok-settle-in-Goal-clause-ok : goal.returns-in_ok-settle-in-Goal-clause-ok
returns-in_ok-settle-in-Goal-clause-ok g c =
    let k : Held = c.args.self.now in
    subst (λ x. OnOk c.open_goal.result (Legal k.problem k.state x c.open_goal.new.self.state)) (sym c.in-Goal.is)
    (subst (λ h. OnOk c.open_goal.result (LegalGoal h.problem h.state c.in-Goal.name c.open_goal.new.self.state)) c.settle-in-Goal.ensures c.open_goal.ensures.ok)
