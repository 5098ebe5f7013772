-- At the greatest level all literals are listed.
use Rattle.std.proofs.Common.{List, sym, subst, arith}
use Rattle.linear.specs.declared.term.Lit.{Lit}
use Rattle.analysis.specs.Biting.{Bites}
use Rattle.analysis.proofs.Trails.{all_up_to}
use Rattle.analysis.proofs.under.bites_under.Goals as goal

pub returns : goal.returns
returns c =
    let n = c.args.constraint.now in
    let all = all_up_to c.open_decisions.result c.args.trail.now.entries (omega (arith, c.open_decisions.ensures)) in (
      λ yes. subst (λ (xs : List Lit). Bites xs n) all (c.bites.ensures.0 yes),
      λ h. c.bites.ensures.1 (subst (λ (xs : List Lit). Bites xs n) (sym all) h),
    )
