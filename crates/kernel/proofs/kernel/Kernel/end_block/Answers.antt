use Rattle.std.proofs.Common.{◌≡◌, Some, None, refl, sym, ap, subst, ◌∙◌}
use Rattle.std.proofs.lemmas.Bool.{false≢true}
use Rattle.std.proofs.lemmas.Result.{err_from_is_err_and, on_ok_weaker}
use Rattle.proof_steps.specs.declared.step.Step.TheVariants as steps
use Rattle.proof_rules.specs.Block.{EndsOpen, EndsBlock, finished}
use Rattle.proof_rules.specs.Fault.{IsEndFault, IsInsideFault, IsUnopenedFault}
use Rattle.proof_rules.specs.State.{State, Block, HasRoom}
use Rattle.proof_rules.specs.declared.fault.StepFault.TheVariants as faults
use Rattle.proof_rules.proofs.BlocksJudged.{inside_fault, unopened_fault, no_end_fault}
use Rattle.proof_rules.proofs.NotLegal.{one_block}
use Rattle.proof_rules.proofs.PolFaults.{or_memory}
use Rattle.kernel.specs.declared.open_block.Place.TheVariants as places
use Rattle.kernel.specs.Held.{Held, IsKept}
use Rattle.kernel.specs.Place.{IsPlace, AreUnopenedShown}
use Rattle.kernel.proofs.Keeping.{kept_step}
use Rattle.kernel.proofs.kernel.Kernel.end_block.Goals as goal

pub returns-then-not-has_room-clause-fault : goal.returns-then-not-has_room-clause-fault
returns-then-not-has_room-clause-fault g c =
    let k : Held = c.args.self.now in
    let place = c.requires in
    let full : HasRoom k.state → ⊥ = λ room. false≢true (c.if-not-has_room.ensures.1 (subst HasRoom (sym (ap (λ (x : Held). x.state) c.self.view_is)) room)) in
    (place.0, place.1.0, subst (λ o. IsEndFault k.problem k.state place.0 o faults.TooManyIds) (sym place.1.1) full)

pub returns-in_err-judge_unopened-clause-fault : goal.returns-in_err-judge_unopened-clause-fault
returns-in_err-judge_unopened-clause-fault g c =
    let k : Held = c.args.self.now in
    let place = c.requires in
    let j : Block = place.0 in
    let room : HasRoom k.state = subst HasRoom (ap (λ (x : Held). x.state) c.self.view_is) (c.if-not-has_room.ensures.0 refl) in
    let f = c.in_err-judge_unopened.field-0.0 in
    let p = err_from_is_err_and c.from_residual.result c.from_residual.ensures.1 in
    rw (p.1, p.2)
    (or_memory f (IsUnopenedFault k.problem k.state j f) (IsInsideFault k.state (λ b. IsEndFault k.problem k.state b b.goal) f)
    (λ h. inside_fault k.state (λ b. IsEndFault k.problem k.state b b.goal) j f place.1.0 (no_end_fault k.problem k.state j j.goal)
    (subst (λ o. IsEndFault k.problem k.state j o f) (sym place.1.1) (unopened_fault k.problem k.state j f room h)))
    (c.in_err-judge_unopened.ensures.fault j place.1.0))

-- what the end of the block asks for is there
ends : (k : Held) (j : Block) (t : State) → HasRoom k.state → AreUnopenedShown k.problem k.state j → t ≡ finished j k.state → EndsBlock k.problem k.state j t
ends k j t room shown becomes = record { room = room; each_live = shown.each_live; itself = shown.itself; objective = shown.objective; becomes = becomes }

pub finish-requires-clause-place : goal.finish-requires-clause-place
finish-requires-clause-place g c = subst (λ (x : Held). IsPlace x.state places.Block) (sym c.in_ok-judge_unopened.ensures.same) c.requires

pub finish-requires-clause-kept : goal.finish-requires-clause-kept
finish-requires-clause-kept g c j here =
    let k : Held = c.args.self.now in
    let same = c.in_ok-judge_unopened.ensures.same in
    let place = c.requires in
    let some : k.state.block ≡ Some j = sym (ap (λ (x : Held). x.state.block) same) ∙ here in
    let none : j.goal ≡ None = subst (λ (b : Block). b.goal ≡ None) (one_block k.state.block place.0 j place.1.0 some) place.1.1 in
    let kept : IsKept k = subst IsKept c.self.view_is c.self.invariant.kept in
    let room : HasRoom k.state = subst HasRoom (ap (λ (x : Held). x.state) c.self.view_is) (c.if-not-has_room.ensures.0 refl) in
    let after = kept_step k.problem k.state (finished j k.state) steps.End kept
    (j, some, subst (λ o. EndsOpen k.problem k.state j o (finished j k.state)) (sym none) (ends k j (finished j k.state) room (c.in_ok-judge_unopened.ensures.shown j some) refl)) in
    subst (λ (x : Held). IsKept (record { problem = x.problem; state = finished j x.state })) (sym same) after

pub returns-clause-ok : goal.returns-clause-ok
returns-clause-ok g c =
    let k : Held = c.args.self.now in
    let same = c.in_ok-judge_unopened.ensures.same in
    let place = c.requires in
    let j : Block = place.0 in
    let some = ap (λ (x : Held). x.state.block) same ∙ place.1.0 in
    let room : HasRoom k.state = subst HasRoom (ap (λ (x : Held). x.state) c.self.view_is) (c.if-not-has_room.ensures.0 refl) in
    on_ok_weaker c.finish.result
    (λ is. (
      j,
      place.1.0,
      subst (λ o. EndsOpen k.problem k.state j o c.finish.new.self.state) (sym place.1.1)
          (ends k j c.finish.new.self.state room (c.in_ok-judge_unopened.ensures.shown j place.1.0) (is ∙ ap (λ (x : Held). finished j x.state) same)),
    ))
    (c.finish.ensures.ok j some)
