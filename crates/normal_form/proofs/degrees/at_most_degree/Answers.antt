-- The sum is kept within the type, which changes it only above the limit.
use Rattle.std.proofs.Common.{rules, map, neg_ℤ, ◌≡◌, ◌≤◌, ℤ, ◌+ℤ◌, ◌-ℤ◌, pos, unsigned_abs, to_z, of_z, ap, ◌∙◌, FitsSigned, arith}
use mir.Syntax.{w128}
use Rattle.std.proofs.lemmas.Int.{ints, to_z-of_z, fits_signed_from_abs}
use Rattle.normal_form.specs.Normal.{sum_over, largest_sum}
use Rattle.normal_form.specs.NormalOf.{negated_sum, at_least_zero, sign_changed}
use Rattle.normal_form.proofs.SignChanges.{sign_changed_negated}
use Rattle.normal_form.proofs.Floors.{floor_of}
use Rattle.normal_form.proofs.degrees.at_most_degree.Goals as goal

lift_fits : (t n : ℤ) → unsigned_abs t ≤ largest_sum → unsigned_abs n ≤ largest_sum → FitsSigned w128 (t +ℤ n)
lift_fits t n h k = fits_signed_from_abs w128 (t +ℤ n) (omega (arith, ints, h, k))

pub returns : goal.returns
returns c =
    let r : to_z w128 (of_z w128 c.args.right) ≡ c.args.right = to_z-of_z w128 c.args.right c.ranges.right in
    let t : to_z w128 (of_z w128 c.negated_total.result) ≡ c.negated_total.result = to_z-of_z w128 c.negated_total.result (search rules) in
    let n : to_z w128 (of_z w128 c.negated_sum.result) ≡ c.negated_sum.result = to_z-of_z w128 c.negated_sum.result (search rules) in
    let fits : FitsSigned w128 (to_z w128 (of_z w128 c.negated_total.result) +ℤ to_z w128 (of_z w128 c.negated_sum.result)) = lift_fits (to_z w128 (of_z w128 c.negated_total.result)) (to_z w128 (of_z w128 c.negated_sum.result)) (omega (arith, ints, t, c.negated_total.ensures.size)) (omega (arith, ints, n, c.negated_sum.ensures.size)) in
    let lift : to_z w128 (of_z w128 (to_z w128 (of_z w128 c.negated_total.result) +ℤ to_z w128 (of_z w128 c.negated_sum.result))) ≡ to_z w128 (of_z w128 c.negated_total.result) +ℤ to_z w128 (of_z w128 c.negated_sum.result) = to_z-of_z w128 (to_z w128 (of_z w128 c.negated_total.result) +ℤ to_z w128 (of_z w128 c.negated_sum.result)) fits in
    let s : to_z w128 (of_z w128 c.saturating_sub.result) ≡ c.saturating_sub.result = to_z-of_z w128 c.saturating_sub.result (search rules) in
    floor_of (to_z w128 (of_z w128 (to_z w128 (of_z w128 c.negated_total.result) +ℤ to_z w128 (of_z w128 c.negated_sum.result))) -ℤ to_z w128 (of_z w128 c.args.right)) ((neg_ℤ c.args.right -ℤ negated_sum (map sign_changed c.args.terms.now)) +ℤ pos (sum_over (λ _ negated. negated) c.args.merged.now)) c.at_least_zero.result (omega (arith, ints, r, t, n, lift, c.negated_total.ensures.value, c.negated_sum.ensures.value, sign_changed_negated c.args.terms.now)) (c.at_least_zero.ensures ∙ ap at_least_zero (s ∙ c.saturating_sub.ensures))
