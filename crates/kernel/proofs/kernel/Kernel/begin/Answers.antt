use Rattle.std.proofs.Common.{refl, sym, ap, subst, ◌∙◌}
use Rattle.std.proofs.lemmas.Result.{err_from_is_err_and}
use Rattle.normal_form.specs.declared.fault.CutFault.{CutFault}
use Rattle.normal_form.specs.declared.fault.CutFault.TheVariants as cuts
use Rattle.normal_form.specs.Normal.{Fits}
use Rattle.proof_steps.specs.declared.step.Step.TheVariants as steps
use Rattle.proof_rules.specs.Block.{new_block, with_block}
use Rattle.proof_rules.specs.State.{State, HasRoom}
use Rattle.kernel.specs.Held.{Held, IsKept}
use Rattle.kernel.proofs.Keeping.{kept_step}
use Rattle.kernel.proofs.OpenBlocks.{no_negation, of_fault}
use Rattle.kernel.proofs.kernel.Kernel.begin.Goals as goal

pub returns-in_err-negation-clause-fault : goal.returns-in_err-negation-clause-fault
returns-in_err-negation-clause-fault g c =
    let k : Held = c.args.self.now in
    let f : CutFault = c.in_err-negation.field-0.0 in
    let p = err_from_is_err_and c.from_residual-in_err-negation.result c.from_residual-in_err-negation.ensures.1 in
    rw (p.1, p.2)
    (no_negation k.state c.args.constraint.now c.in_ok-constraint.constraint f c.in_ok-constraint.ensures.form
    (λ e. c.in_err-negation.ensures.too_large (of_fault f cuts.TooLarge e)) (λ e. c.in_err-negation.ensures.factor (of_fault f cuts.BadFactor e)))

pub assume-requires-clause-kept : goal.assume-requires-clause-kept
assume-requires-clause-kept g c =
    let k : Held = c.args.self.now in
    let n = c.in_ok-constraint.constraint in
    let m = c.in_ok-negation.negation in
    let state = ap (λ (x : Held). x.state) c.self.view_is in
    let kept : IsKept k = subst IsKept c.self.view_is c.self.invariant.kept in
    let room : HasRoom k.state = subst HasRoom state (c.if-not-has_room.ensures.0 refl) in
    let fits : Fits m = c.in_ok-negation.ensures.normal.fits in
    let after = kept_step k.problem k.state (with_block (new_block n c.args.witness.now k.state.next) m k.state) (steps.RedBegin c.args.constraint.now c.args.witness.now) kept
    (c.requires.outside, (n, m, c.in_ok-constraint.ensures.form, c.in_ok-negation.ensures.form, fits, room, refl)) in
    let first = c.next_id-first.ensures.value ∙ ap (λ (s : State). s.next) state in
    subst (λ b. IsKept (record { problem = k.problem; state = with_block b m k.state })) (sym (c.in_ok-block.ensures ∙ ap (new_block n c.args.witness.now) first)) after
