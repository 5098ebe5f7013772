-- The merged terms with this degree are the sum.
use Rattle.std.proofs.Common.{◌≡◌, ℕ, ◌+◌, ◌-◌, ◌/◌, arith}
use Rattle.linear.specs.Valuation.{Valuation}
use Rattle.normal_form.specs.Normal.{NormalConstraint, IsNormal, Fits, Holds}
use Rattle.normal_form.proofs.FormDegrees.{if_ok_from}
use Rattle.cut_rules.specs.Rules.{IsSum, cancelled}
use Rattle.cut_rules.proofs.Sum.{sum_at, sum_total, sum_keeps, sum_from, sum_too_large, sum_within}
use Rattle.cut_rules.proofs.addition.with_degree.Goals as goal

-- twice what cancels is what the coefficient sum falls by
halved : (both sum c : ℕ) → sum + (c + c) ≡ both → (both - sum) / 2 ≡ c
halved both sum c e = omega (arith, e)

pub overflow_sub-cancelled : goal.overflow_sub-cancelled
overflow_sub-cancelled c = omega (arith, sum_total c.args.left.now c.args.right.now c.args.merged (sum_at c.args.left.now c.args.right.now c.args.merged c.requires.rises c.requires.balance), c.capped_sum.ensures, c.sum.ensures.normal.fits.sum, c.sum-2.ensures.normal.fits.sum, c.sum.ensures.value, c.sum-2.ensures.value)

degree_is : (c : goal.After-finish) → c.saturating_sub-degree.result ≡ (c.args.left.now.degree + c.args.right.now.degree) - cancelled c.args.left.now c.args.right.now
degree_is c =
    let twice : c.capped_sum.result + (cancelled c.args.left.now c.args.right.now + cancelled c.args.left.now c.args.right.now) ≡ c.sum.result + c.sum-2.result = omega (arith, sum_total c.args.left.now c.args.right.now c.args.merged (sum_at c.args.left.now c.args.right.now c.args.merged c.requires.rises c.requires.balance), c.capped_sum.ensures, c.sum.ensures.normal.fits.sum, c.sum-2.ensures.normal.fits.sum, c.sum.ensures.value, c.sum-2.ensures.value) in
    let half : (c.sum.result + c.sum-2.result - c.capped_sum.result) / 2 ≡ cancelled c.args.left.now c.args.right.now = halved (c.sum.result + c.sum-2.result) c.capped_sum.result (cancelled c.args.left.now c.args.right.now) twice in
    omega (arith, c.saturating_sub-degree.ensures, c.degree.ensures.value, c.degree-2.ensures.value, half)

sum_of : (c : goal.After-finish) (r : NormalConstraint) → r.terms ≡ c.args.merged → r.degree ≡ c.saturating_sub-degree.result → IsSum c.args.left.now c.args.right.now r
sum_of c r t d = sum_from c.args.left.now c.args.right.now r c.args.merged c.saturating_sub-degree.result c.requires.rises c.requires.balance (degree_is c) t d

pub returns-clause-sum : goal.returns-clause-sum
returns-clause-sum c = if_ok_from c.finish.result (λ r. r.terms ≡ c.args.merged) (λ r. r.degree ≡ c.saturating_sub-degree.result) IsNormal (IsSum c.args.left.now c.args.right.now) (λ r t d normal. sum_of c r t d) c.finish.ensures.terms c.finish.ensures.degree c.finish.ensures.normal

pub returns-clause-keeps : goal.returns-clause-keeps
returns-clause-keeps c = if_ok_from c.finish.result (λ r. r.terms ≡ c.args.merged) (λ r. r.degree ≡ c.saturating_sub-degree.result) IsNormal (λ r. (a : Valuation) → Holds a c.args.left.now → Holds a c.args.right.now → Holds a r) (λ r t d normal. sum_keeps c.args.left.now c.args.right.now r (sum_of c r t d)) c.finish.ensures.terms c.finish.ensures.degree c.finish.ensures.normal

pub returns-clause-too_large : goal.returns-clause-too_large
returns-clause-too_large c e = sum_too_large c.args.left.now c.args.right.now c.args.merged c.saturating_sub-degree.result c.requires.rises c.requires.balance (degree_is c) (c.finish.ensures.too_large.0 e)

pub returns-clause-within : goal.returns-clause-within
returns-clause-within c = if_ok_from c.finish.result (λ r. r.terms ≡ c.args.merged) (λ r. r.degree ≡ c.saturating_sub-degree.result) IsNormal (λ _. (r : NormalConstraint) → IsSum c.args.left.now c.args.right.now r → Fits r) (λ r t d normal. sum_within c.args.left.now c.args.right.now r (sum_of c r t d) normal.fits) c.finish.ensures.terms c.finish.ensures.degree c.finish.ensures.normal
