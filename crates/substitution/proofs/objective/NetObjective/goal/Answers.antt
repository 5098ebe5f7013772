-- The net terms are within the limits, and have the goal of the whole objective.
use Rattle.std.proofs.Common.{◌≡◌, ◌≤◌, List, Option, Some, None, IsSomeAnd, MatchOption, length, sym, ap, subst, ◌∙◌}
use Rattle.linear.specs.declared.term.Term.{Term}
use Rattle.linear.specs.declared.constraint.Signed.{Signed}
use Rattle.linear.specs.Largest.{largest_objective}
use Rattle.normal_form.specs.Normal.{NormalConstraint}
use Rattle.normal_form.specs.NormalOf.{size_sum, IsNormalOf}
use Rattle.normal_form.proofs.NormalForm.{small_never}
use Rattle.substitution.specs.Objective.{net_terms, not_raised, IsObjectiveGoal}
use Rattle.substitution.proofs.Regrouped.{nets_small, goal_of_nets}
use Rattle.substitution.proofs.objective.NetObjective.goal.Goals as goal

pub difference-requires : goal.difference-requires
difference-requires c =
    let o = c.self.inside in
    let images = c.args.substitution.now in
    let terms : c.as_slice-2.result.now ≡ net_terms o.nets.items images = c.as_slice-2.ensures.value ∙ c.in_ok-terms.ensures ∙ ap (λ ns. net_terms ns images) c.as_slice.ensures.value in
    subst (λ ts. size_sum ts ≤ largest_objective) (sym terms)
    (nets_small (length o.problem.now.names) o.problem.now.objective c.in-Some._objective.now o.nets.items images c.in-Some.ensures c.self.invariant c.reveal.ensures.objective c.reveal-2.ensures)

pub normalize_fitting-requires-clause-fits : goal.normalize_fitting-requires-clause-fits
normalize_fitting-requires-clause-fits c = small_never c.in_ok-signed.signed c.in_ok-signed.ensures.small

pub returns-clause-goal : goal.returns-clause-goal
returns-clause-goal c =
    let o = c.self.inside in
    let images = c.args.substitution.now in
    let n : NormalConstraint = c.in_ok-normalize_fitting.field-0 in
    let terms : c.as_slice-2.result.now ≡ net_terms o.nets.items images = c.as_slice-2.ensures.value ∙ c.in_ok-terms.ensures ∙ ap (λ ns. net_terms ns images) c.as_slice.ensures.value in
    let form : IsObjectiveGoal (net_terms o.nets.items images) images n = subst (λ (s : Signed). IsNormalOf s n) (c.in_ok-signed.ensures.value ∙ ap (λ ts. not_raised ts images) terms) c.in_ok-normalize_fitting.ensures.form in
    subst (λ (p : Option (List Term)). MatchOption p (◌≡◌ {A = Option NormalConstraint} (Some n) None) (λ ts. IsSomeAnd (Some n) (IsObjectiveGoal ts images))) c.self.view_is
    (goal_of_nets o.problem.now.objective c.in-Some._objective.now o.nets.items images n (◌≡◌ {A = Option NormalConstraint} (Some n) None) c.in-Some.ensures c.self.invariant c.reveal-2.ensures form)
