-- The sum so far is at most that of all coefficients, which is within the limit.
use Rattle.std.proofs.Common.{◌≡◌, ℕ, ◌+◌, ◌<◌, ◌≤◌, pos, length, take, get_or, cond, ap, subst, ◌∙◌, List, to_z, arith}
use mir.Syntax.{w128}
use Rattle.std.proofs.lemmas.Int.{ints, to_z_pos, fits_signed_from_abs}
use Rattle.std.proofs.lemmas.List.{take_all}
use Rattle.normal_form.specs.declared.term.NormalTerm.{NormalTerm}
use Rattle.normal_form.specs.Normal.{sum_over, total, largest_sum}
use Rattle.normal_form.proofs.Sums.{sum_over_more, sum_over_take}
use Rattle.normal_form.proofs.degrees.negated_total.Goals as goal

one_more : (ts : List NormalTerm) (i sum more : ℕ) (t : NormalTerm) → i < length ts → sum ≡ sum_over (λ _ negated. negated) (take i ts) → t ≡ get_or ts i t → more ≡ cond t.negated t.coef 0 → sum + more ≡ sum_over (λ _ negated. negated) (take (i + 1) ts)
one_more ts i sum more t h s is m =
    let here : cond t.negated t.coef 0 ≡ cond (get_or ts i t).negated (get_or ts i t).coef 0 = ap (λ (u : NormalTerm). cond u.negated u.coef 0) is in
    omega (arith, sum_over_more (λ _ negated. negated) ts i t h, s, m, here)

bounded : (ts : List NormalTerm) (i sum : ℕ) → sum ≡ sum_over (λ _ negated. negated) (take i ts) → total ts ≤ largest_sum → sum ≤ largest_sum
bounded ts i sum s h = omega (arith, sum_over_take (λ _ negated. negated) i ts, s, h)

pub overflow_add-sum : goal.overflow_add-sum
overflow_add-sum c =
    let small : c.loop-place.sum + c.negated_coefficient-sum.result ≤ largest_sum = bounded c.args.terms.now (c.loop-place.place + 1) _ (one_more c.args.terms.now c.loop-place.place c.loop-place.sum c.negated_coefficient-sum.result c.get.result (subst (λ n. c.loop-place.place < n) c.len-place-end.ensures c.loop-place-test.true) c.loop-place.invariant c.get.ensures c.negated_coefficient-sum.ensures) c.requires in
    record { fits = omega (arith, small) }

pub loop-place-preserved : goal.loop-place-preserved
loop-place-preserved c = one_more c.args.terms.now c.loop-place.place c.loop-place.sum c.negated_coefficient-sum.result c.get.result (subst (λ n. c.loop-place.place < n) c.len-place-end.ensures c.loop-place-test.true) c.loop-place.invariant c.get.ensures c.negated_coefficient-sum.ensures

pub overflow_cast-result : goal.overflow_cast-result
overflow_cast-result c = let small : c.loop-place.sum ≤ largest_sum = bounded c.args.terms.now c.loop-place.place c.loop-place.sum c.loop-place.invariant c.requires in
    fits_signed_from_abs w128 (pos c.loop-place.sum) (omega (arith, small))

is_pos : (ts : List NormalTerm) (i sum : ℕ) → sum ≡ sum_over (λ _ negated. negated) (take i ts) → total ts ≤ largest_sum → to_z w128 sum ≡ pos sum
is_pos ts i sum s h = let small : sum ≤ largest_sum = bounded ts i sum s h in to_z_pos w128 sum (omega (arith, small))

pub returns-clause-value : goal.returns-clause-value
returns-clause-value c =
    is_pos c.args.terms.now c.loop-place.place c.loop-place.sum c.loop-place.invariant c.requires
    ∙ ap pos (c.loop-place.invariant ∙ ap (sum_over (λ _ negated. negated)) (take_all c.loop-place.place c.args.terms.now (subst (λ n. n ≤ c.loop-place.place) c.len-place-end.ensures c.loop-place-test.false)))

pub returns-clause-size : goal.returns-clause-size
returns-clause-size c =
    let is : to_z w128 c.loop-place.sum ≡ pos c.loop-place.sum = is_pos c.args.terms.now c.loop-place.place c.loop-place.sum c.loop-place.invariant c.requires in
    let small : c.loop-place.sum ≤ largest_sum = bounded c.args.terms.now c.loop-place.place c.loop-place.sum c.loop-place.invariant c.requires in
    omega (arith, ints, is, small)
