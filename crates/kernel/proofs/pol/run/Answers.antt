use Rattle.std.proofs.Common.{◌≡◌, ◌≢◌, pos, [], length, get_or, refl, subst}
use Rattle.std.proofs.lemmas.List.{take_all}
use Rattle.std.proofs.lemmas.Result.{err_from_is_err_and, IfErr-weaker}
use Rattle.proof_rules.specs.declared.fault.StepFault.TheVariants as faults
use Rattle.proof_steps.specs.declared.step.Item.TheVariants as items
use Rattle.proof_rules.specs.Fault.{OrMemory, IsItemFault, IsWritingFault}
use Rattle.proof_rules.specs.Running.{Runs}
use Rattle.proof_rules.proofs.PolFaults.{Runs-take, or_memory, stops_here, leaves_writing}
use Rattle.proof_rules.proofs.Postfix.{LeavesStack-take}
use Rattle.database.specs.Database.{found}
use Rattle.kernel.proofs.pol.run.Goals as goal

pub loop-item-preserved : goal.loop-item-preserved
loop-item-preserved g c =
    let given = found c.args.database.now in
    record {
      written = LeavesStack-take given given c.args.items.now c.loop-item.item-index _ (items.Id (pos 0)) c.loop-item.stack c.apply_item.new.stack
          refl c.loop-item-test.true refl c.in_ok-apply_item.ensures.ok c.loop-item.invariant.written;
      runs = Runs-take given given c.args.items.now c.loop-item.item-index _ (items.Id (pos 0)) c.loop-item.stack c.apply_item.new.stack
          refl c.loop-item-test.true refl c.in_ok-apply_item.ensures.ok c.loop-item.invariant.runs;
    }

pub returns-in_err-apply_item-clause-fault : goal.returns-in_err-apply_item-clause-fault
returns-in_err-apply_item-clause-fault g c =
    let given = found c.args.database.now in
    let f = c.in_err-apply_item.field-0.0 in
    let at = c.loop-item in
    let p = err_from_is_err_and c.from_residual.result c.from_residual.ensures.1 in
    rw (p.1, p.2)
    (or_memory f (IsItemFault given (get_or c.args.items.now at.item-index (items.Id (pos 0))) at.stack f) (IsWritingFault given c.args.items.now f)
    (stops_here given given c.args.items.now at.item-index _ (items.Id (pos 0)) at.stack f refl c.loop-item-test.true refl at.invariant.runs)
    c.in_err-apply_item.ensures.fault)

pub returns-clause-fault : goal.returns-clause-fault
returns-clause-fault g c =
    let given = found c.args.database.now in
    let at = c.loop-item in
    let end = take_all at.item-index c.args.items.now c.loop-item-test.false in
    let runs : Runs given c.args.items.now [] at.stack = subst (λ w. Runs given w [] at.stack) end at.invariant.runs in
    IfErr-weaker c.only.result
    (λ f. OrMemory f ((f ≡ faults.StackShape) × (length at.stack ≢ 1)))
    (λ f. OrMemory f (IsWritingFault given c.args.items.now f))
    (λ f. or_memory f ((f ≡ faults.StackShape) × (length at.stack ≢ 1)) (IsWritingFault given c.args.items.now f)
    (λ h. leaves_writing given c.args.items.now f h.0 (at.stack, runs, h.1)))
    c.only.ensures.fault
