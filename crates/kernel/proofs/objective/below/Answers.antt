use Rattle.std.proofs.Common.{◌≡◌, ◌≤◌, IfOk, map, ap, subst, ◌∙◌, arith, to_z, of_z}
use Rattle.std.specs.Prelude.{ℤ, pos, ◌-ℤ◌, unsigned_abs}
use Rattle.std.proofs.lemmas.Int.{ints}
use mir.Syntax.{w128}
use Rattle.normal_form.specs.NormalOf.{IsNormalOf, sign_changed, size_sum}
use Rattle.normal_form.proofs.SignChanges.{sign_changed_sizes}
use Rattle.linear.specs.Largest.{largest_objective}
use Rattle.substitution.proofs.PuttingIn.{same_signed}
use Rattle.kernel.proofs.Improving.{number_kept}
use Rattle.kernel.proofs.objective.below.Goals as goal

pub small_form-requires-clause-small : goal.small_form-requires-clause-small
small_form-requires-clause-small c =
    let sizes = sign_changed_sizes c.args.objective.now in
    let terms = ap size_sum (c.from_vec.ensures ∙ c.in_ok-negated.ensures) in
    omega (arith, ints, sizes, terms, c.requires.objective, c.requires.value)

turned : (v : ℤ) → unsigned_abs v ≤ largest_objective → to_z w128 (of_z w128 (pos 1 -ℤ to_z w128 (of_z w128 v))) ≡ pos 0 -ℤ (v -ℤ pos 1)
turned v h =
    let inner : to_z w128 (of_z w128 v) ≡ v = number_kept v h in
    rw inner (omega (arith, ints, h))

pub returns : goal.returns
returns c =
    let terms = c.from_vec.ensures ∙ c.in_ok-negated.ensures in
    subst (λ x. IfOk c.small_form.result (IsNormalOf x))
    (same_signed c.from_vec.result (map sign_changed c.args.objective.now) _ (pos 0 -ℤ (c.args.value -ℤ pos 1)) terms (turned c.args.value c.requires.value))
    c.small_form.ensures
