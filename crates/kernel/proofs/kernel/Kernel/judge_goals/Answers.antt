-- The goals are judged beside the negation of the new constraint; all of them are shown where its degree is 0.
use Rattle.std.proofs.Common.{◌++◌, sym, subst, ◌∙◌, All, IfErr, IfSome, List}
use Rattle.std.proofs.lemmas.Result.{IfErr-weaker, on_ok_weaker}
use Rattle.normal_form.specs.Normal.{NormalConstraint}
use Rattle.normal_form.proofs.Negations.{negation}
use Rattle.proof_rules.specs.Fault.{OrMemory, IsGoalFault}
use Rattle.proof_rules.specs.Redundant.{IsShownNotRaised, IsShownUnder}
use Rattle.proof_rules.specs.State.{constraints}
use Rattle.proof_rules.proofs.PolFaults.{or_memory}
use Rattle.kernel.specs.Held.{Held}
use Rattle.kernel.specs.Redundance.{IsGoalOpen}
use Rattle.kernel.proofs.GoalsShown.{zero_redundant, beside_negation}
use Rattle.kernel.proofs.kernel.Kernel.judge_goals.Goals as goal

pub returns-then-degree-eq0-clause-shown : goal.returns-then-degree-eq0-clause-shown
returns-then-degree-eq0-clause-shown g c =
    let k : Held = c.args.self.now in
    let n = c.args.constraint.now in
    (negation n, zero_redundant k.problem (constraints k.state) c.args.witness.now n c.degree.ensures.normal.rises (sym c.degree.ensures.value ∙ c.if-degree-eq0.true))

pub returns-clause-shown : goal.returns-clause-shown
returns-clause-shown g c =
    let k : Held = c.args.self.now in
    let n = c.args.constraint.now in
    let m = c.in_ok-negate.field-0 in
    let images = c.args.witness.now in
    let live : List NormalConstraint = constraints k.state in
    let alone = beside_negation c.new-beside.result.items c.push.new.self.items m c.new-beside.ensures.items c.in_ok-push.ensures.items in
    on_ok_weaker c.judge_goals_beside.result
    (λ (each, itself, objective). (
      m,
      record {
        negation = c.in_ok-negate.ensures.form;
        each_live = subst (λ xs. All (IsShownUnder (live ++ xs) images) live) alone each;
        itself = subst (λ xs. IsShownUnder (live ++ xs) images n) alone itself;
        objective = subst (λ xs. IfSome k.problem.objective (IsShownNotRaised (live ++ xs) images)) alone objective;
      },
    ))
    c.judge_goals_beside.ensures.shown

pub returns-clause-fault : goal.returns-clause-fault
returns-clause-fault g c =
    let k : Held = c.args.self.now in
    let n = c.args.constraint.now in
    let m = c.in_ok-negate.field-0 in
    let images = c.args.witness.now in
    let items : List NormalConstraint = c.push.new.self.items in
    let alone = beside_negation c.new-beside.result.items items m c.new-beside.ensures.items c.in_ok-push.ensures.items in
    IfErr-weaker c.judge_goals_beside.result (λ f. OrMemory f (IsGoalFault k.problem k.state (constraints k.state ++ items) images n f)) (λ f. OrMemory f (IsGoalOpen k images n f))
    (λ f. or_memory f (IsGoalFault k.problem k.state (constraints k.state ++ items) images n f) (IsGoalOpen k images n f)
    (λ h. (m, c.in_ok-negate.ensures.form, subst (λ xs. IsGoalFault k.problem k.state (constraints k.state ++ xs) images n f) alone h)))
    c.judge_goals_beside.ensures.fault
