use Rattle.std.proofs.Common.{◌≡◌, Some, sym, ap, subst, ◌∙◌}
use Rattle.proof_rules.specs.Block.{with_block, with_goal}
use Rattle.proof_rules.specs.State.{Block}
use Rattle.database.specs.Database.{pushed, taken_back}
use Rattle.kernel.specs.Held.{Held, IsKept, Keeps, state_with}
use Rattle.kernel.proofs.OpenBlocks.{of_ok}
use Rattle.database.proofs.TakenBack.{pushed_back, of_err}
use Rattle.kernel.proofs.kernel.Kernel.suppose.Given.{Over}
use Rattle.kernel.proofs.kernel.Kernel.suppose.Goals as goal

-- the constraints and the block are as before
restored : (g : Over) (c : goal.After-take_back g) → (c.take_back.new.self ≡ c.self.inside.database) × (c.note.new.block ≡ c.self.inside.block)
restored g c = (
  c.take_back.ensures ∙ ap taken_back c.in_ok-id.ensures.ok ∙ pushed_back c.self.inside.database c.args.negation c.in_ok-id.ensures.numbered,
  of_err (c.note.new.block ≡ c.self.inside.block) c.note.result c.if-is_err.ensures.value c.note.ensures.err,
)

pub invariant_of-self-then-is_err : goal.invariant_of-self-then-is_err
invariant_of-self-then-is_err g c =
    let k = c.self.inside in
    let back = restored g c in
    subst (λ d. Keeps (record { problem = k.source.now; state = state_with d k.log c.note.new.block }) k.problem_ids k.objective) (sym back.0)
    (subst (λ b. Keeps (record { problem = k.source.now; state = state_with k.database k.log b }) k.problem_ids k.objective) (sym back.1) c.self.invariant)

pub returns-then-is_err-clause-err : goal.returns-then-is_err-clause-err
returns-then-is_err-clause-err g c =
    let k = c.self.inside in
    let back = restored g c in
    ap (λ d. record { problem = k.source.now; state = state_with d k.log c.note.new.block }) back.0
    ∙ ap (λ b. record { problem = k.source.now; state = state_with k.database k.log b }) back.1 ∙ c.self.view_is

-- the block with the goal opened
noted : (g : Over) (c : goal.Else-is_err g) (j : Block) → c.args.self.now.state.block ≡ Some j → c.note.new.block ≡ Some (with_goal c.self.inside.database.next c.args.name j)
noted g c j some =
    let block = ap (λ (x : Held). x.state.block) c.self.view_is ∙ some in
    of_ok (c.note.new.block ≡ Some (with_goal c.next_id-next.result c.args.name j)) c.note.result c.if-is_err.ensures.value (c.note.ensures.ok j block)
    ∙ ap (λ next. Some (with_goal next c.args.name j)) c.next_id-next.ensures.value

pub invariant_of-self-else-is_err : goal.invariant_of-self-else-is_err
invariant_of-self-else-is_err g c =
    let k = c.self.inside in
    let place = c.requires.place in
    let j : Block = place.0 in
    let kept : IsKept (record { problem = k.source.now; state = with_block (with_goal k.database.next c.args.name j) c.args.negation (state_with k.database k.log k.block) }) =
    subst (λ (x : Held). IsKept (record { problem = x.problem; state = with_block (with_goal x.state.next c.args.name j) c.args.negation x.state })) (sym c.self.view_is) (c.requires.kept j place.1) in
    subst (λ d. Keeps (record { problem = k.source.now; state = state_with d k.log c.note.new.block }) k.problem_ids k.objective) (sym c.in_ok-id.ensures.ok)
    (subst (λ b. Keeps (record { problem = k.source.now; state = state_with (pushed c.args.negation k.database) k.log b }) k.problem_ids k.objective) (sym (noted g c j place.1.0))
    (record { kept = kept; file = c.self.invariant.file; objective_is = c.self.invariant.objective_is }))

pub returns-clause-ok : goal.returns-clause-ok
returns-clause-ok g c j here =
    let k = c.self.inside in
    ap (λ d. state_with d k.log c.note.new.block) c.in_ok-id.ensures.ok
    ∙ ap (λ b. state_with (pushed c.args.negation k.database) k.log b) (noted g c j here.0)
    ∙ ap (λ (x : Held). with_block (with_goal x.state.next c.args.name j) c.args.negation x.state) c.self.view_is
