-- The sum that is kept is that of all coefficients.
use Rattle.std.proofs.Common.{rules, ◌≡◌, ℕ, ◌*◌, ◌≤◌, true, false, subst, sym}
use Rattle.std.specs.Prelude.{IsTrue}
use Rattle.normal_form.specs.Normal.{largest_sum, total}
use Rattle.accumulate.proofs.Totals.{kept_total}
use Rattle.accumulate.proofs.accumulator.Accumulator.multiple_fits.Goals as goal

within : (k a b : ℕ) → a ≡ b → k * a ≤ largest_sum → k * b ≤ largest_sum
within k a b e h = subst (λ (n : ℕ). k * n ≤ largest_sum) e h

always : IsTrue true
always = search rules

never : IsTrue false → ⊥
never h = search rules

pub returns-then-product_fits-clause-fits : goal.returns-then-product_fits-clause-fits
returns-then-product_fits-clause-fits c =
    let kept = kept_total c.self.inside.nets.items c.self.inside.touched.items c.self.inside.sum c.self.inside.degree c.args.self.now c.self.view_is c.self.invariant.0 in (
      λ yes. (within c.args.factor c.self.inside.sum (total c.args.self.now.terms) (kept.0) (c.if-product_fits.ensures.0 always), within c.args.factor c.self.inside.degree c.args.self.now.degree (kept.1) (c.product_fits-then-product_fits.ensures.0 yes)),
      λ both. c.product_fits-then-product_fits.ensures.1 (within c.args.factor c.args.self.now.degree c.self.inside.degree (sym (kept.1)) (both.1)),
    )

pub returns-then-product_fits-clause-normal : goal.returns-then-product_fits-clause-normal
returns-then-product_fits-clause-normal c = (kept_total c.self.inside.nets.items c.self.inside.touched.items c.self.inside.sum c.self.inside.degree c.args.self.now c.self.view_is c.self.invariant.0).2

pub returns-else-product_fits-clause-fits : goal.returns-else-product_fits-clause-fits
returns-else-product_fits-clause-fits c =
    let kept = kept_total c.self.inside.nets.items c.self.inside.touched.items c.self.inside.sum c.self.inside.degree c.args.self.now c.self.view_is c.self.invariant.0 in (
      λ yes. absurd (never (subst IsTrue c.if-product_fits.false yes)),
      λ both. c.product_fits.ensures.1 (within c.args.factor (total c.args.self.now.terms) c.self.inside.sum (sym (kept.0)) (both.0)),
    )

pub returns-else-product_fits-clause-normal : goal.returns-else-product_fits-clause-normal
returns-else-product_fits-clause-normal c = (kept_total c.self.inside.nets.items c.self.inside.touched.items c.self.inside.sum c.self.inside.degree c.args.self.now c.self.view_is c.self.invariant.0).2
