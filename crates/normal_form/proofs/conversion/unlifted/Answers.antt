-- Where the negated terms count what the negated literals do, the right side is the degree.
use Rattle.std.proofs.Common.{rules, ◌≡◌, ◌∙◌, ◌-◌, ◌^◌, ℕ, min, ap, sym, List, FitsSigned, to_z, of_z, arith}
use mir.Syntax.{w128}
use Rattle.std.specs.Prelude.{ℤ, pos, negsuc}
use Rattle.std.proofs.lemmas.Int.{ints, to_z-of_z}
use Rattle.linear.specs.declared.constraint.Signed.{Signed}
use Rattle.normal_form.specs.declared.term.NormalTerm.{NormalTerm}
use Rattle.normal_form.specs.Normal.{IsNormal, sum_over}
use Rattle.normal_form.specs.NormalOf.{IsNormalOf, IsTooLarge, at_least_zero, negated_sum}
use Rattle.normal_form.proofs.FromBalance.{raised}
use Rattle.normal_form.proofs.NormalForm.{not_too_large}
use Rattle.normal_form.proofs.FormDegrees.{if_ok_from, on_err_from, result_form, result_too_large}
use Rattle.normal_form.proofs.conversion.unlifted.Goals as goal

-- a number of the code's type is no greater than the largest one
least : (z : ℤ) → FitsSigned w128 z → at_least_zero z ≡ min (at_least_zero z) (2 ^ 127 - 1)
least (pos n) h = omega (arith, ints, h)
least (negsuc n) h = omega arith

degree : (c : Signed) (ts : List NormalTerm) (right : ℤ) (d : ℕ) → negated_sum c.terms ≡ pos (sum_over (λ _ negated. negated) ts) → FitsSigned w128 c.right → right ≡ c.right → d ≡ at_least_zero right
    → d ≡ min (at_least_zero (raised c.right c.terms ts)) (2 ^ 127 - 1)
degree c ts right d lift fits same is =
    let all : raised c.right c.terms ts ≡ c.right = omega (arith, ints, lift) in
    is ∙ ap at_least_zero same ∙ least c.right fits ∙ ap (λ (z : ℤ). min (at_least_zero z) (2 ^ 127 - 1)) (sym all)

degree_is : (c : goal.After-finish) → c.at_least_zero.result ≡ min (at_least_zero (raised c.args.constraint.now.right c.args.constraint.now.terms c.args.merged)) (2 ^ 127 - 1)
degree_is c =
    let fits : FitsSigned w128 c.args.constraint.now.right = search rules in
    let back : to_z w128 (of_z w128 c.args.constraint.now.right) ≡ c.args.constraint.now.right = to_z-of_z w128 c.args.constraint.now.right fits in
    degree c.args.constraint.now c.args.merged (to_z w128 (of_z w128 c.args.constraint.now.right)) c.at_least_zero.result c.requires.lift fits back c.at_least_zero.ensures

pub returns-clause-form : goal.returns-clause-form
returns-clause-form c = if_ok_from c.finish.result (λ n. n.terms ≡ c.args.merged) (λ n. n.degree ≡ c.at_least_zero.result) IsNormal (IsNormalOf c.args.constraint.now)
    (λ n t d normal. result_form c.args.constraint.now n c.args.merged c.at_least_zero.result c.requires.balance (degree_is c) t d normal) c.finish.ensures.terms c.finish.ensures.degree c.finish.ensures.normal

pub returns-clause-too_large : goal.returns-clause-too_large
returns-clause-too_large c = on_err_from c.finish.result
    (λ e. (result_too_large c.args.constraint.now c.args.merged c.at_least_zero.result c.requires.rises c.requires.balance (degree_is c) (c.finish.ensures.too_large.0 e), e)) c.finish.ensures.others

pub returns-clause-within : goal.returns-clause-within
returns-clause-within c = if_ok_from c.finish.result (λ n. n.terms ≡ c.args.merged) (λ n. n.degree ≡ c.at_least_zero.result) IsNormal (λ _. IsTooLarge c.args.constraint.now → ⊥)
    (λ n t d normal. not_too_large c.args.constraint.now n (result_form c.args.constraint.now n c.args.merged c.at_least_zero.result c.requires.balance (degree_is c) t d normal) normal.fits c.requires.sizes)
    c.finish.ensures.terms c.finish.ensures.degree c.finish.ensures.normal
