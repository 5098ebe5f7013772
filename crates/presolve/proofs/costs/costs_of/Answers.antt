use Rattle.std.proofs.Common.{◌≤◌, List, length, sym, ap, subst, ◌∙◌}
use Rattle.std.specs.Prelude.{IfSome, Option}
use Rattle.std.specs.Option.{option_copied}
use Rattle.linear.specs.Limits.{IsSumWithin}
use Rattle.linear.specs.declared.term.Term.{Term}
use Rattle.normal_form.specs.Normal.{largest_sum}
use Rattle.normal_form.specs.NormalOf.{size_sum}
use Rattle.presolve.proofs.Noting.{sum_small}
use Rattle.presolve.proofs.costs.costs_of.Goals as goal

pub nets_of-requires : goal.nets_of-requires
nets_of-requires c =
    let n = length c.args.problem.now.names in
    let is = sym c.objective.ensures ∙ ap option_copied c.in-Some.is in
    let within = subst (λ (o : Option (List Term)). IfSome o (IsSumWithin n)) is c.names.ensures.within.objective in
    subst (λ (terms : List Term). size_sum terms ≤ largest_sum) (sym c.as_slice.ensures) (sum_small n c.in-Some.objective.now within)
