-- What fits is the form, and where it does not fit the form does not.
use Rattle.std.proofs.Common.{rules, ◌≡◌, ◌≤◌, ◌-◌, ◌^◌, min, subst, sym, List, FitsSigned, to_z, of_z}
use mir.Syntax.{w128}
use Rattle.std.proofs.lemmas.Int.{to_z-of_z}
use Rattle.normal_form.specs.declared.term.NormalTerm.{NormalTerm}
use Rattle.normal_form.specs.Normal.{IsNormal, total, largest_sum}
use Rattle.normal_form.specs.NormalOf.{IsNormalOf, IsTooLarge, at_least_zero}
use Rattle.normal_form.proofs.FromBalance.{raised}
use Rattle.normal_form.proofs.NormalForm.{not_too_large}
use Rattle.normal_form.proofs.FormDegrees.{merged_total, result_form, result_too_large, degree_same, if_ok_from, on_err_from}
use Rattle.normal_form.proofs.conversion.at_least.Goals as goal

pub at_least_degree-degree-requires-clause-sum : goal.at_least_degree-degree-requires-clause-sum
at_least_degree-degree-requires-clause-sum c = subst (λ (ts : List NormalTerm). total ts ≤ largest_sum) (sym c.terms.ensures.value) (merged_total (c.args.constraint.now) c.args.merged c.terms.ensures.rises c.requires.balance c.requires.sizes)

degree_is : (c : goal.After-finish) → c.at_least_degree-degree.result ≡ min (at_least_zero (raised (c.args.constraint.now).right (c.args.constraint.now).terms c.args.merged)) (2 ^ 127 - 1)
degree_is c =
    let fits : FitsSigned w128 c.args.constraint.now.right = search rules in
    let back : to_z w128 (of_z w128 c.args.constraint.now.right) ≡ c.args.constraint.now.right = to_z-of_z w128 c.args.constraint.now.right fits in
    degree_same (to_z w128 (of_z w128 c.args.constraint.now.right)) c.args.constraint.now.right c.as_slice.result.now c.args.constraint.now.terms c.terms.result.now c.args.merged c.at_least_degree-degree.result back c.as_slice.ensures c.terms.ensures.value c.at_least_degree-degree.ensures

pub returns-clause-form : goal.returns-clause-form
returns-clause-form c = if_ok_from c.finish.result (λ n. n.terms ≡ c.args.merged) (λ n. n.degree ≡ c.at_least_degree-degree.result) IsNormal (IsNormalOf (c.args.constraint.now)) (λ n t d normal. result_form (c.args.constraint.now) n c.args.merged c.at_least_degree-degree.result c.requires.balance (degree_is c) t d normal) c.finish.ensures.terms c.finish.ensures.degree c.finish.ensures.normal

pub returns-clause-too_large : goal.returns-clause-too_large
returns-clause-too_large c = on_err_from c.finish.result (λ e. (result_too_large (c.args.constraint.now) c.args.merged c.at_least_degree-degree.result c.terms.ensures.rises c.requires.balance (degree_is c) (c.finish.ensures.too_large.0 e), e)) c.finish.ensures.others

pub returns-clause-within : goal.returns-clause-within
returns-clause-within c = if_ok_from c.finish.result (λ n. n.terms ≡ c.args.merged) (λ n. n.degree ≡ c.at_least_degree-degree.result) IsNormal (λ _. IsTooLarge (c.args.constraint.now) → ⊥) (λ n t d normal. not_too_large (c.args.constraint.now) n (result_form (c.args.constraint.now) n c.args.merged c.at_least_degree-degree.result c.requires.balance (degree_is c) t d normal) normal.fits c.requires.sizes) c.finish.ensures.terms c.finish.ensures.degree c.finish.ensures.normal
