use Rattle.std.proofs.Common.{◌≡◌, ◌+◌, refl, List, [], ◌∷◌, ◌++◌, Bool, Option, Some, IfSome, take, sym, ap, subst, ◌∙◌}
use Rattle.std.proofs.lemmas.Bool.{false≢true}
use Rattle.linear.specs.Opb.{Opb}
use Rattle.proof_rules.specs.Claim.{IsSolution}
use Rattle.proof_rules.specs.Justified.{IsBest}
use Rattle.solutions.specs.Logged.{Logged}
use Rattle.solutions.proofs.Best.{looked_at, best_stays, best_changes}
use Rattle.solutions.proofs.log.SolutionLog.best.Goals as goal
use Rattle.solutions.proofs.log.SolutionLog.best.Goals.{then-is_better, else-is_better}

pub loop-packed-preserved : goal.loop-packed-preserved
loop-packed-preserved c =
    let p : Opb = c.args.problem.now in
    let all : List (List Bool) = c.args.self.now.logged in
    let i = c.loop-packed.packed-index in
    let item : List Bool = c.packed-item.result in
    let solution : List Bool = c.in_ok-solution.solution in
    let same : item ≡ solution = sym c.in_ok-solution.ensures in
    let old : Option (List Bool) = c.loop-packed.best in
    let look = looked_at p all c.as_slice-packed-items.result.now i item (c.as_slice-packed-items.ensures.value ∙ ap (λ (l : Logged). l.logged) c.self.view_is)
    c.loop-packed-test.true c.packed-item.is c.requires in
    let more : take (i + 1) all ≡ take i all ++ solution ∷ [] = look.0 ∙ ap (λ s. take i all ++ s ∷ []) same in
    let Keeps : Option (List Bool) → Type 0 = λ best. IsBest p (take (i + 1) all) best × IfSome best (IsSolution p) in
    elim c.if-is_better.branch as (λ _. Keeps c.if-is_better.best) [
      | then-is_better w ↦ subst Keeps (sym w.best-is)
          (subst (λ xs. IsBest p xs (Some solution)) (sym more) (best_changes p (take i all) solution old c.loop-packed.invariant.0 (w.if-is_better.ensures.0 refl)), subst (IsSolution p) same look.1)
      | else-is_better w ↦ subst Keeps (sym w.best-is)
          (subst (λ xs. IsBest p xs old) (sym more) (best_stays p (take i all) solution old c.loop-packed.invariant.0 (λ a. false≢true (w.if-is_better.ensures.1 a))), c.loop-packed.invariant.1)
    ]
