use Rattle.std.proofs.Common.{refl, sym, ap, subst}
use Rattle.std.proofs.lemmas.Bool.{false≢true}
use Rattle.std.proofs.lemmas.Result.{err_from_is_err_and, on_ok_weaker}
use Rattle.normal_form.specs.declared.fault.CutFault.{CutFault}
use Rattle.normal_form.specs.declared.fault.CutFault.TheVariants as cuts
use Rattle.normal_form.specs.Normal.{Fits}
use Rattle.proof_steps.specs.declared.step.Step.TheVariants as steps
use Rattle.proof_rules.specs.Block.{Asks, with_block, with_goal}
use Rattle.proof_rules.specs.State.{HasRoom}
use Rattle.proof_rules.proofs.NotLegal.{one_block}
use Rattle.kernel.specs.Held.{Held, IsKept}
use Rattle.kernel.proofs.Keeping.{kept_step}
use Rattle.kernel.proofs.OpenBlocks.{no_goal_negation, of_fault}
use Rattle.kernel.proofs.kernel.Kernel.open_goal.Goals as goal

pub returns-in_err-negation-clause-fault : goal.returns-in_err-negation-clause-fault
returns-in_err-negation-clause-fault g c =
    let k : Held = c.args.self.now in
    let f : CutFault = c.in_err-negation.field-0.0 in
    let p = err_from_is_err_and c.from_residual-in_err-negation.result c.from_residual-in_err-negation.ensures.1 in
    rw (p.1, p.2)
    (no_goal_negation k.problem k.state c.args.name c.in_ok-goal.goal f c.in_ok-goal.ensures.asked
    (λ e. c.in_err-negation.ensures.too_large (of_fault f cuts.TooLarge e)) (λ e. c.in_err-negation.ensures.factor (of_fault f cuts.BadFactor e)))

pub returns-then-not-has_room-clause-fault : goal.returns-then-not-has_room-clause-fault
returns-then-not-has_room-clause-fault g c =
    let k : Held = c.args.self.now in
    let a = c.in_ok-goal.ensures.asked in
    let fits : Fits c.in_ok-negation.negation = c.in_ok-negation.ensures.normal.fits in
    let full : HasRoom k.state → ⊥ = λ room. false≢true (c.if-not-has_room.ensures.1 (subst HasRoom (sym (ap (λ (x : Held). x.state) c.self.view_is)) room)) in
    (a.0, a.1.0, (a.1.1, (c.in_ok-goal.goal, c.in_ok-negation.negation, a.2, c.in_ok-negation.ensures.form, fits), full))

pub suppose-requires-clause-kept : goal.suppose-requires-clause-kept
suppose-requires-clause-kept g c j here =
    let k : Held = c.args.self.now in
    let a = c.in_ok-goal.ensures.asked in
    let m = c.in_ok-negation.negation in
    let fits : Fits m = c.in_ok-negation.ensures.normal.fits in
    let asks : Asks k.problem k.state j c.args.name c.in_ok-goal.goal = subst (λ b. Asks k.problem k.state b c.args.name c.in_ok-goal.goal) (one_block k.state.block a.0 j a.1.0 here.0) a.2 in
    let kept : IsKept k = subst IsKept c.self.view_is c.self.invariant.kept in
    let room : HasRoom k.state = subst HasRoom (ap (λ (x : Held). x.state) c.self.view_is) (c.if-not-has_room.ensures.0 refl) in
    kept_step k.problem k.state (with_block (with_goal k.state.next c.args.name j) m k.state) (steps.Goal c.args.name) kept
    (j, c.in_ok-goal.goal, m, here.0, here.1, asks, c.in_ok-negation.ensures.form, fits, room, refl)

pub returns-clause-ok : goal.returns-clause-ok
returns-clause-ok g c =
    let k : Held = c.args.self.now in
    let a = c.in_ok-goal.ensures.asked in
    let m = c.in_ok-negation.negation in
    let fits : Fits m = c.in_ok-negation.ensures.normal.fits in
    let room : HasRoom k.state = subst HasRoom (ap (λ (x : Held). x.state) c.self.view_is) (c.if-not-has_room.ensures.0 refl) in
    on_ok_weaker c.suppose.result (λ is. (a.0, c.in_ok-goal.goal, m, a.1.0, a.1.1, a.2, c.in_ok-negation.ensures.form, fits, room, is)) (c.suppose.ensures.ok a.0 a.1)
