-- What fits is the form, and where it does not fit the form does not.
use Rattle.std.proofs.Common.{rules, ◌≡◌, ◌≤◌, ◌-◌, ◌^◌, min, ap, subst, sym, List, neg_ℤ, map, FitsSigned, to_z, of_z, arith}
use mir.Syntax.{w128}
use Rattle.std.proofs.lemmas.Int.{to_z-of_z}
use Rattle.linear.specs.declared.term.Term.{Term}
use Rattle.normal_form.specs.declared.term.NormalTerm.{NormalTerm}
use Rattle.normal_form.specs.Normal.{IsNormal, total, largest_sum}
use Rattle.normal_form.specs.NormalOf.{IsNormalOf, IsTooLarge, at_least_zero, signs_changed, sign_changed}
use Rattle.normal_form.proofs.FromBalance.{raised}
use Rattle.normal_form.proofs.NormalForm.{not_too_large}
use Rattle.normal_form.proofs.SignChanges.{sign_changed_sizes}
use Rattle.normal_form.proofs.FormDegrees.{merged_total, result_form, result_too_large, degree_same, if_ok_from, on_err_from}
use Rattle.normal_form.proofs.conversion.at_most.Goals as goal

pub at_most_degree-degree-requires-clause-sum : goal.at_most_degree-degree-requires-clause-sum
at_most_degree-degree-requires-clause-sum c = subst (λ (ts : List NormalTerm). total ts ≤ largest_sum) (sym c.terms.ensures.value) (merged_total (signs_changed c.args.constraint.now) c.args.merged c.terms.ensures.rises c.requires.balance (omega (arith, sign_changed_sizes c.args.constraint.now.terms, c.requires.sizes)))

degree_is : (c : goal.After-finish) → c.at_most_degree-degree.result ≡ min (at_least_zero (raised (signs_changed c.args.constraint.now).right (signs_changed c.args.constraint.now).terms c.args.merged)) (2 ^ 127 - 1)
degree_is c =
    let fits : FitsSigned w128 c.args.constraint.now.right = search rules in
    let back : to_z w128 (of_z w128 c.args.constraint.now.right) ≡ c.args.constraint.now.right = to_z-of_z w128 c.args.constraint.now.right fits in
    degree_same (neg_ℤ (to_z w128 (of_z w128 c.args.constraint.now.right))) (neg_ℤ c.args.constraint.now.right) (map sign_changed c.as_slice.result.now) (map sign_changed c.args.constraint.now.terms) c.terms.result.now c.args.merged c.at_most_degree-degree.result (ap neg_ℤ back) (ap (λ (ts : List Term). map sign_changed ts) c.as_slice.ensures) c.terms.ensures.value c.at_most_degree-degree.ensures

pub returns-clause-form : goal.returns-clause-form
returns-clause-form c = if_ok_from c.finish.result (λ n. n.terms ≡ c.args.merged) (λ n. n.degree ≡ c.at_most_degree-degree.result) IsNormal (IsNormalOf (signs_changed c.args.constraint.now)) (λ n t d normal. result_form (signs_changed c.args.constraint.now) n c.args.merged c.at_most_degree-degree.result c.requires.balance (degree_is c) t d normal) c.finish.ensures.terms c.finish.ensures.degree c.finish.ensures.normal

pub returns-clause-too_large : goal.returns-clause-too_large
returns-clause-too_large c = on_err_from c.finish.result (λ e. (result_too_large (signs_changed c.args.constraint.now) c.args.merged c.at_most_degree-degree.result c.terms.ensures.rises c.requires.balance (degree_is c) (c.finish.ensures.too_large.0 e), e)) c.finish.ensures.others

pub returns-clause-within : goal.returns-clause-within
returns-clause-within c = if_ok_from c.finish.result (λ n. n.terms ≡ c.args.merged) (λ n. n.degree ≡ c.at_most_degree-degree.result) IsNormal (λ _. IsTooLarge (signs_changed c.args.constraint.now) → ⊥) (λ n t d normal. not_too_large (signs_changed c.args.constraint.now) n (result_form (signs_changed c.args.constraint.now) n c.args.merged c.at_most_degree-degree.result c.requires.balance (degree_is c) t d normal) normal.fits (omega (arith, sign_changed_sizes c.args.constraint.now.terms, c.requires.sizes))) c.finish.ensures.terms c.finish.ensures.degree c.finish.ensures.normal
