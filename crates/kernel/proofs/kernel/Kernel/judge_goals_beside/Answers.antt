-- What was judged before changes nothing, so each goal is judged beside the same constraints.
use Rattle.std.proofs.Common.{◌≡◌, ◌++◌, IfSome, List, ap, sym, subst, ◌∙◌}
use Rattle.std.proofs.lemmas.Bool.{false≢true}
use Rattle.linear.specs.Opb.{Opb}
use Rattle.normal_form.specs.Normal.{NormalConstraint}
use Rattle.proof_rules.specs.Redundant.{IsShownNotRaised, IsShownUnder}
use Rattle.proof_rules.specs.State.{constraints}
use Rattle.kernel.specs.Held.{Held}
use Rattle.kernel.proofs.GoalsShown.{may_rise}
use Rattle.kernel.proofs.kernel.Kernel.judge_goals_beside.Goals as goal

-- the constraints that stand, where a call has left all as it was
same_from : (k l : Held) (beside items : List NormalConstraint) → l ≡ k → items ≡ beside → constraints l.state ++ items ≡ constraints k.state ++ beside
same_from k l beside items same still = ap (λ (x : Held). constraints x.state ++ items) same ∙ ap (λ xs. constraints k.state ++ xs) still

pub returns-then-not-branch-clause-fault : goal.returns-then-not-branch-clause-fault
returns-then-not-branch-clause-fault g c =
    let k : Held = c.args.self.now in
    let n = c.args.constraint.now in
    let images = c.args.witness.now in
    let then = same_from k c.judge_all_live.new.self c.args.beside.now.items c.judge_all_live.new.beside.items c.in_ok-judge_all_live.ensures.same c.in_ok-judge_all_live.ensures.beside in (
      c.in_ok-judge_all_live.ensures.shown,
      λ h. false≢true (sym c.if-not-branch.true ∙ c.in_ok-shows_image.ensures.shown.1 (subst (λ xs. IsShownUnder xs images n) (sym then) h)),
    )

pub returns-then-not-branch-2-clause-fault : goal.returns-then-not-branch-2-clause-fault
returns-then-not-branch-2-clause-fault g c =
    let k : Held = c.args.self.now in
    let n = c.args.constraint.now in
    let images = c.args.witness.now in
    let beside : List NormalConstraint = c.args.beside.now.items in
    let then = same_from k c.judge_all_live.new.self beside c.judge_all_live.new.beside.items c.in_ok-judge_all_live.ensures.same c.in_ok-judge_all_live.ensures.beside in
    let last = same_from k c.shows_image.new.self beside c.shows_image.new.beside.items (c.in_ok-shows_image.ensures.same ∙ c.in_ok-judge_all_live.ensures.same)
    (c.in_ok-shows_image.ensures.beside ∙ c.in_ok-judge_all_live.ensures.beside) in
    let problem : c.shows_image.new.self.problem ≡ k.problem = ap (λ (x : Held). x.problem) (c.in_ok-shows_image.ensures.same ∙ c.in_ok-judge_all_live.ensures.same) in
    let not : IfSome k.problem.objective (IsShownNotRaised (constraints k.state ++ beside) images) → ⊥ = λ h.
    false≢true (sym c.if-not-branch-2.true ∙ c.in_ok-shows_not_raised.ensures.shown.1
    (subst (λ xs. IfSome c.shows_image.new.self.problem.objective (IsShownNotRaised xs images)) (sym last) (subst (λ (p : Opb). IfSome p.objective (IsShownNotRaised (constraints k.state ++ beside) images)) (sym problem) h))) in (
      c.in_ok-judge_all_live.ensures.shown,
      subst (λ xs. IsShownUnder xs images n) then (c.in_ok-shows_image.ensures.shown.0 c.if-not-branch.false),
      may_rise k.problem.objective (constraints k.state ++ beside) images not,
    )
