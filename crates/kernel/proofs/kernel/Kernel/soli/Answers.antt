use Rattle.std.proofs.Common.{◌≡◌, ◌≢◌, ◌≤◌, List, Bool, None, ◌≤ℤ◌, length, unsigned_abs, refl, sym, ap, subst, ◌∙◌}
use Rattle.std.proofs.lemmas.Bool.{false≢true}
use Rattle.std.proofs.lemmas.Result.{on_ok_weaker}
use Rattle.linear.specs.Opb.{Opb}
use Rattle.proof_steps.specs.declared.step.Step.TheVariants as steps
use Rattle.proof_rules.specs.Fault.{IsNotBetter}
use Rattle.proof_rules.specs.Legal.{with_improvement, worth_of}
use Rattle.linear.specs.Largest.{largest_objective}
use Rattle.substitution.proofs.Difference.{objective_read}
use Rattle.proof_rules.proofs.SolJudged.{one_log}
use Rattle.kernel.specs.Held.{Held, IsKept, state_with}
use Rattle.kernel.proofs.Improving.{worth_small, number_kept, is_there, not_below, assembled}
use Rattle.kernel.proofs.Keeping.{kept_step}
use Rattle.kernel.proofs.kernel.Kernel.soli.Goals as goal

pub below-requires-clause-objective : goal.below-requires-clause-objective
below-requires-clause-objective g c =
    let p : Opb = c.self.inside.source.now in
    objective_read (length p.names) p.objective c.in-Some.objective.now c.as_slice.result.now c.in-Some.ensures c.as_slice.ensures c.self.invariant.kept.within.objective

pub below-requires-clause-value : goal.below-requires-clause-value
below-requires-clause-value g c =
    let p : Opb = c.self.inside.source.now in
    let small = worth_small p c.in_ok-solution.solution c.in-Some.objective.now c.in-Some.ensures c.self.invariant.kept.within in
    let value : c.value-value.result ≡ worth_of p c.in_ok-solution.solution = c.value-value.ensures in
    let size : unsigned_abs c.value-value.result ≤ largest_objective = subst (λ z. unsigned_abs z ≤ largest_objective) (sym value) small in
    subst (λ z. unsigned_abs z ≤ largest_objective) (sym (number_kept c.value-value.result size)) size

pub returns-then-not-improves-clause-fault : goal.returns-then-not-improves-clause-fault
returns-then-not-improves-clause-fault g c =
    let k : Held = c.args.self.now in
    let p : Opb = c.self.inside.source.now in
    let solution : List Bool = c.in_ok-solution.solution in
    let logs = c.in_ok-solution.ensures.logs in
    let problem : p ≡ k.problem = ap (λ (x : Held). x.problem) c.self.view_is in
    let improve = ap (λ (x : Held). x.state.least) (c.self-2.view_is ∙ c.in_ok-solution.ensures.same) in
    let small = worth_small p solution c.in-Some.objective.now c.in-Some.ensures c.self.invariant.kept.within in
    let value : c.value-value.result ≡ worth_of p solution = c.value-value.ensures in
    let size : unsigned_abs c.value-value.result ≤ largest_objective = subst (λ z. unsigned_abs z ≤ largest_objective) (sym value) small in
    let worth = number_kept c.value-value.result size ∙ value ∙ ap (λ q. worth_of q solution) problem in
    let worse = not_below c.self-2.inside.log.least _ (λ less. false≢true (c.if-not-improves.ensures.1 less)) in
    let not_better : IsNotBetter k.problem k.state solution = (worse.0, sym improve ∙ worse.1, subst (λ z. worse.0 ≤ℤ z) worth worse.2) in (
      subst (λ (q : Opb). q.objective ≢ None) problem (is_there p c.in-Some.objective.now c.in-Some.ensures),
      (solution, logs),
      λ h also. subst (IsNotBetter k.problem k.state) (one_log k.problem k.state c.args.assigned.now solution h logs also) not_better,
    )

pub improve-requires-clause-kept : goal.improve-requires-clause-kept
improve-requires-clause-kept g c =
    let k : Held = c.args.self.now in
    let p : Opb = c.self.inside.source.now in
    let solution : List Bool = c.in_ok-solution.solution in
    let n = c.in_ok-better.better in
    let same = c.in_ok-solution.ensures.same in
    let small = worth_small p solution c.in-Some.objective.now c.in-Some.ensures c.self.invariant.kept.within in
    let value : c.value-value.result ≡ worth_of p solution = c.value-value.ensures in
    let size : unsigned_abs c.value-value.result ≤ largest_objective = subst (λ z. unsigned_abs z ≤ largest_objective) (sym value) small in
    let better = assembled k p (state_with c.self-2.inside.database c.self-2.inside.log c.self-2.inside.block) c.args.assigned.now solution c.in-Some.objective.now c.as_slice.result.now n
    c.value-value.result _ (ap (λ (x : Held). x.problem) c.self.view_is) (ap (λ (x : Held). x.state) (c.self-2.view_is ∙ same)) c.in-Some.ensures c.as_slice.ensures
    c.in_ok-solution.ensures.logs value (number_kept c.value-value.result size) (c.if-not-improves.ensures.0 refl) c.in_ok-better.ensures (c.if-not-has_room.ensures.0 refl) in
    let kept : IsKept k = subst IsKept c.self.view_is c.self.invariant.kept in
    let after = kept_step k.problem k.state (with_improvement k.problem solution n k.state) (steps.Soli c.args.assigned.now) kept
    (c.requires.outside, (c.in-Some.objective.now, solution, n, better, refl)) in
    subst (λ (x : Held). IsKept (record { problem = x.problem; state = with_improvement x.problem solution n x.state })) (sym same) after

pub returns-clause-ok : goal.returns-clause-ok
returns-clause-ok g c =
    let k : Held = c.args.self.now in
    let p : Opb = c.self.inside.source.now in
    let solution : List Bool = c.in_ok-solution.solution in
    let n = c.in_ok-better.better in
    let same = c.in_ok-solution.ensures.same in
    let small = worth_small p solution c.in-Some.objective.now c.in-Some.ensures c.self.invariant.kept.within in
    let value : c.value-value.result ≡ worth_of p solution = c.value-value.ensures in
    let size : unsigned_abs c.value-value.result ≤ largest_objective = subst (λ z. unsigned_abs z ≤ largest_objective) (sym value) small in
    let better = assembled k p (state_with c.self-2.inside.database c.self-2.inside.log c.self-2.inside.block) c.args.assigned.now solution c.in-Some.objective.now c.as_slice.result.now n
    c.value-value.result _ (ap (λ (x : Held). x.problem) c.self.view_is) (ap (λ (x : Held). x.state) (c.self-2.view_is ∙ same)) c.in-Some.ensures c.as_slice.ensures
    c.in_ok-solution.ensures.logs value (number_kept c.value-value.result size) (c.if-not-improves.ensures.0 refl) c.in_ok-better.ensures (c.if-not-has_room.ensures.0 refl) in
    on_ok_weaker c.improve.result
    (λ is. (c.in-Some.objective.now, solution, n, better, is ∙ ap (λ (x : Held). with_improvement x.problem solution n x.state) same))
    c.improve.ensures.ok
