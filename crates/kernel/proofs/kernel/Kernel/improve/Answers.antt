use Rattle.std.proofs.Common.{◌≡◌, sym, ap, subst, ◌∙◌}
use Rattle.database.specs.Database.{taken_back}
use Rattle.kernel.specs.Held.{Keeps, state_with}
use Rattle.database.proofs.TakenBack.{pushed_back, of_err}
use Rattle.kernel.proofs.kernel.Kernel.improve.Given.{Over}
use Rattle.kernel.proofs.kernel.Kernel.improve.Goals as goal

-- the constraints and what is logged are as before
restored : (g : Over) (c : goal.After-take_back g) → (c.take_back.new.self ≡ c.self.inside.database) × (c.improve.new.self ≡ c.self.inside.log)
restored g c = (
  c.take_back.ensures ∙ ap taken_back c.in_ok-id.ensures.ok ∙ pushed_back c.self.inside.database c.args.better c.in_ok-id.ensures.numbered,
  of_err (c.improve.new.self ≡ c.self.inside.log) c.improve.result c.if-is_err.ensures.value c.improve.ensures.err,
)

pub invariant_of-self-then-is_err : goal.invariant_of-self-then-is_err
invariant_of-self-then-is_err g c =
    let k = c.self.inside in
    let back = restored g c in
    subst (λ d. Keeps (record { problem = k.source.now; state = state_with d c.improve.new.self k.block }) k.problem_ids k.objective) (sym back.0)
    (subst (λ l. Keeps (record { problem = k.source.now; state = state_with k.database l k.block }) k.problem_ids k.objective) (sym back.1) c.self.invariant)

pub returns-then-is_err-clause-err : goal.returns-then-is_err-clause-err
returns-then-is_err-clause-err g c =
    let k = c.self.inside in
    let back = restored g c in
    ap (λ d. record { problem = k.source.now; state = state_with d c.improve.new.self k.block }) back.0
    ∙ ap (λ l. record { problem = k.source.now; state = state_with k.database l k.block }) back.1 ∙ c.self.view_is
