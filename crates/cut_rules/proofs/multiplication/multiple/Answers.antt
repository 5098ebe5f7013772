-- The scaled terms with the scaled degree are the multiple.
use Rattle.std.proofs.Common.{rules, ◌≡◌, ℕ, ◌≤◌, ◌*◌, true, false, ap}
use Rattle.std.specs.Prelude.{IsTrue}
use Rattle.std.proofs.lemmas.Result.{IfOk-weaker}
use Rattle.linear.specs.Valuation.{Valuation}
use Rattle.normal_form.specs.Normal.{NormalConstraint, IsNormal, Fits, Holds, total, largest_sum}
use Rattle.normal_form.proofs.FormDegrees.{if_ok_from}
use Rattle.cut_rules.specs.Rules.{IsMultiple}
use Rattle.cut_rules.proofs.Meaning.{multiple_law}
use Rattle.cut_rules.proofs.OneOperand.{multiple_from, multiple_within, multiple_too_large, multiple_fits}
use Rattle.cut_rules.proofs.multiplication.multiple.Goals as goal

never : IsTrue false → ⊥
never h = search rules

always : IsTrue true
always = search rules

pub returns-then-not-multiple_fits-clause-too_large : goal.returns-then-not-multiple_fits-clause-too_large
returns-then-not-multiple_fits-clause-too_large c e =
    multiple_too_large c.args.factor c.args.constraint.now c.multiple_fits.ensures.normal.rises (λ p. never (c.if-not-multiple_fits.ensures.fits.1 p))

degree_is : (c : goal.After-finish) → c.args.factor * c.degree.result ≡ c.args.factor * c.args.constraint.now.degree
degree_is c = ap (λ (x : ℕ). c.args.factor * x) c.degree.ensures.value

multiple_of : (c : goal.After-finish) (r : NormalConstraint) → r.terms ≡ c.in_ok-terms.terms → r.degree ≡ c.args.factor * c.degree.result → IsMultiple c.args.factor c.args.constraint.now r
multiple_of c r t d = multiple_from c.args.factor c.args.constraint.now r c.in_ok-terms.terms (c.args.factor * c.degree.result) c.degree.ensures.normal.rises c.in_ok-terms.ensures (degree_is c) t d

pub returns-clause-multiple : goal.returns-clause-multiple
returns-clause-multiple c = if_ok_from c.finish.result (λ r. r.terms ≡ c.in_ok-terms.terms) (λ r. r.degree ≡ c.args.factor * c.degree.result) IsNormal (IsMultiple c.args.factor c.args.constraint.now) (λ r t d normal. multiple_of c r t d) c.finish.ensures.terms c.finish.ensures.degree c.finish.ensures.normal

pub returns-clause-keeps : goal.returns-clause-keeps
returns-clause-keeps c = IfOk-weaker c.finish.result (IsMultiple c.args.factor c.args.constraint.now) (λ r. (a : Valuation) → Holds a c.args.constraint.now → Holds a r) (multiple_law c.args.factor c.args.constraint.now) (returns-clause-multiple c)

pub returns-clause-too_large : goal.returns-clause-too_large
returns-clause-too_large c e =
    let p : (c.args.factor * total c.args.constraint.now.terms ≤ largest_sum) × (c.args.factor * c.args.constraint.now.degree ≤ largest_sum) = c.if-not-multiple_fits.ensures.fits.0 always in
    absurd (c.finish.ensures.too_large.0 e (multiple_fits c.args.factor c.args.constraint.now c.in_ok-terms.terms (c.args.factor * c.degree.result) c.in_ok-terms.ensures (degree_is c) p.0 p.1))

pub returns-clause-within : goal.returns-clause-within
returns-clause-within c = if_ok_from c.finish.result (λ r. r.terms ≡ c.in_ok-terms.terms) (λ r. r.degree ≡ c.args.factor * c.degree.result) IsNormal (λ _. (r : NormalConstraint) → IsMultiple c.args.factor c.args.constraint.now r → Fits r) (λ r t d normal. multiple_within c.args.factor c.args.constraint.now r (multiple_of c r t d) normal.fits) c.finish.ensures.terms c.finish.ensures.degree c.finish.ensures.normal
