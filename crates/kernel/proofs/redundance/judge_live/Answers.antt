use Rattle.std.proofs.Common.{◌++◌, List, refl, ◌∙◌}
use Rattle.std.specs.FinMap as map
use Rattle.normal_form.specs.Normal.{NormalConstraint}
use Rattle.database.specs.Database.{Constraints}
use Rattle.kernel.specs.Redundance.{IsAsked}
use Rattle.database.proofs.IdSets.{fewer}
use Rattle.kernel.proofs.TouchedJudged.{judging_first, judging_more, judging_open, judging_end, judged}
use Rattle.kernel.proofs.redundance.judge_live.Goals as goal

pub loop-id-init : goal.loop-id-init
loop-id-init g c = (
  c.in_ok-touched.ensures.same,
  refl,
  judging_first c.args.database.now.live c.args.end c.args.opened.now c.args.beside.now.items c.args.witness.now c.in_ok-touched.touched c.requires.normal
      c.in_ok-touched.ensures.touched,
)

pub loop-id-preserved : goal.loop-id-preserved
loop-id-preserved g c =
    let d : Constraints = c.args.database.now in
    let beside : List NormalConstraint = c.args.beside.now.items in
    let kept = c.loop-id.invariant in
    let images = c.args.witness.now in
    let end = c.args.end in
    let opened = c.args.opened.now in
    let shown = judged d c.loop-id.database beside c.loop-id.beside.items images c.in-Some.id (λ Shown n. IsAsked end opened c.in-Some.id → Shown n) kept.0 kept.1
    (λ n is. c.in_ok-shows_asked.ensures.shown n is c.if-not-branch.false) in (
      c.in_ok-shows_asked.ensures.same ∙ kept.0,
      c.in_ok-shows_asked.ensures.beside ∙ kept.1,
      judging_more d.live end opened (map.values d.live ++ beside) images c.loop-id.touched c.pop_first.new.self c.in-Some.id kept.2 c.in-Some.ensures.removed shown,
    )

pub loop-id-smaller : goal.loop-id-smaller
loop-id-smaller g c = fewer c.loop-id.touched c.pop_first.new.self c.in-Some.id c.in-Some.ensures.least.0 c.in-Some.ensures.removed

pub returns-then-not-branch-clause-fault : goal.returns-then-not-branch-clause-fault
returns-then-not-branch-clause-fault g c =
    let d : Constraints = c.args.database.now in
    let beside : List NormalConstraint = c.args.beside.now.items in
    let kept = c.loop-id.invariant in
    let images = c.args.witness.now in
    let opened = c.in_ok-shows_asked.ensures.unshown c.if-not-branch.true in
    let never = judged d c.loop-id.database beside c.loop-id.beside.items images c.in-Some.id (λ Shown n. Shown n → ⊥) kept.0 kept.1 opened.1 in
    judging_open d.live c.args.end c.args.opened.now (map.values d.live ++ beside) images c.loop-id.touched c.in-Some.id kept.2 c.in-Some.ensures.least opened.0 never

pub returns-clause-shown : goal.returns-clause-shown
returns-clause-shown g c =
    let d : Constraints = c.args.database.now in
    judging_end d.live c.args.end c.args.opened.now (map.values d.live ++ c.args.beside.now.items) c.args.witness.now c.loop-id.touched c.loop-id.invariant.2 c.in_default.ensures.least
