-- The sizes of the terms and of what is constant are within the limit.
use Rattle.std.proofs.Common.{◌≡◌, ◌≤◌, ap, ◌∙◌, to_z, of_z, arith}
use Rattle.std.specs.Prelude.{ℤ, pos, neg_ℤ, ◌-ℤ◌, unsigned_abs}
use Rattle.std.proofs.lemmas.Int.{ints}
use mir.Syntax.{w128}
use Rattle.normal_form.specs.NormalOf.{size_sum}
use Rattle.substitution.specs.Under.{constant_under}
use Rattle.linear.specs.Largest.{largest_objective}
use Rattle.substitution.specs.Objective.{not_raised}
use Rattle.substitution.proofs.PuttingIn.{same_signed}
use Rattle.substitution.proofs.Difference.{constant_size, difference_small}
use Rattle.substitution.proofs.objective.difference.Goals as goal

kept : (z right : ℤ) → neg_ℤ z ≡ right → unsigned_abs right ≤ largest_objective → to_z w128 (of_z w128 (pos 0 -ℤ to_z w128 (of_z w128 z))) ≡ right
kept z right e h =
    let inner : to_z w128 (of_z w128 z) ≡ z = omega (arith, ints, e, h) in
    rw inner (omega (arith, ints, e, h))

pub overflow_sub-result : goal.overflow_sub-result
overflow_sub-result c =
    omega (arith, ints, c.in_ok-partial.ensures.constant, constant_size c.args.substitution.now c.args.objective.now, c.requires)

pub returns-clause-value : goal.returns-clause-value
returns-clause-value c =
    let size = constant_size c.args.substitution.now c.args.objective.now in
    let right = kept c.in_ok-partial.partial.constant (constant_under c.args.substitution.now c.args.objective.now) c.in_ok-partial.ensures.constant (omega (arith, size, c.requires)) in
    same_signed c.from_vec.result (not_raised c.args.objective.now c.args.substitution.now).terms _ (constant_under c.args.substitution.now c.args.objective.now) (c.from_vec.ensures ∙ c.in_ok-partial.ensures.terms) right

pub returns-clause-small : goal.returns-clause-small
returns-clause-small c =
    let size = constant_size c.args.substitution.now c.args.objective.now in
    let right = kept c.in_ok-partial.partial.constant (constant_under c.args.substitution.now c.args.objective.now) c.in_ok-partial.ensures.constant (omega (arith, size, c.requires)) in
    let terms = ap size_sum (c.from_vec.ensures ∙ c.in_ok-partial.ensures.terms) in
    let small = difference_small c.args.substitution.now c.args.objective.now in
    let same = ap unsigned_abs right in
    omega (arith, terms, same, small, c.requires)
