-- What the form means, and that a form is not too large and within the limits, are laws.
use Rattle.std.proofs.Common.{◌≡◌, ◌∙◌, ◌+◌, ◌≤◌, ◌↔◌, List, map, ap, sym, subst, arith, Result, IfOk, OnErr, IsErrOf}
use Rattle.std.specs.Prelude.{pos, unsigned_abs}
use Rattle.std.specs.List.Sorted.{IsPermutation}
use Rattle.linear.specs.declared.term.Term.{Term}
use Rattle.linear.specs.declared.constraint.Relation.TheVariants.{AtLeast}
use Rattle.linear.specs.declared.constraint.Signed.{Signed}
use Rattle.linear.specs.Valuation.{Valuation}
use Rattle.linear.specs.Sum.{Meets}
use Rattle.normal_form.specs.declared.fault.CutFault.{CutFault}
use Rattle.normal_form.specs.declared.fault.CutFault.TheVariants as faults
use Rattle.normal_form.specs.declared.term.NormalTerm.{NormalTerm}
use Rattle.normal_form.specs.Normal.{Holds, IsNormal, NormalConstraint, largest_sum, sum_over}
use Rattle.normal_form.specs.NormalOf.{IsNormalOf, IsTooLarge, negated_sum, size_sum}
use Rattle.normal_form.specs.Balance.{Balances}
use Rattle.normal_form.specs.Plain.{ArePlain, plain_term}
use Rattle.normal_form.proofs.NormalForm.{form_meaning, small_never}
use Rattle.normal_form.proofs.FormDegrees.{if_ok_from, on_err_at}
use Rattle.normal_form.proofs.PlainTerms.{negated_same, plain_balances}
use Rattle.normal_form.proofs.Reorder.{same_balance, same_negated, same_sizes}
use Rattle.normal_form.proofs.conversion.form_of.Goals as goal

meaning : (c : Signed) (r : Result NormalConstraint CutFault) → c.relation ≡ AtLeast → IfOk r (IsNormalOf c) → IfOk r IsNormal → IfOk r (λ n. (a : Valuation) → Holds a n ↔ Meets a c)
meaning c r relation form normal = if_ok_from r (IsNormalOf c) IsNormal IsNormal (λ n. (a : Valuation) → Holds a n ↔ Meets a c) (λ n f _ _. form_meaning c n relation f) form normal normal

never : (c : Signed) (r : Result NormalConstraint CutFault) → OnErr r (IsTooLarge c × IsErrOf r faults.TooLarge) → size_sum c.terms + unsigned_abs c.right ≤ largest_sum → IsErrOf r faults.TooLarge → ⊥
never c r large small e = small_never c small ((on_err_at (IsTooLarge c × IsErrOf r faults.TooLarge) r faults.TooLarge e large).0)

-- plain terms balance those that they are in another order, and lift no degree
plain_balance : (ts us : List Term) (made : List NormalTerm) → IsPermutation ts us → ArePlain 0 us → made ≡ map plain_term us → Balances ts made
plain_balance ts us made p a e = same_balance ts us made p (subst (λ (ns : List NormalTerm). Balances us ns) (sym e) (plain_balances 0 us a))

plain_lift : (ts us : List Term) (made : List NormalTerm) → IsPermutation ts us → ArePlain 0 us → made ≡ map plain_term us → negated_sum ts ≡ pos (sum_over (λ _ negated. negated) made)
plain_lift ts us made p a e = sym (same_negated ts us p) ∙ sym (negated_same 0 us a) ∙ ap (λ (ns : List NormalTerm). pos (sum_over (λ _ negated. negated) ns)) (sym e)

pub unlifted-requires-clause-balance : goal.unlifted-requires-clause-balance
unlifted-requires-clause-balance c = plain_balance c.args.constraint.now.terms c.args.ordered.now c.in_ok-plain_terms.field-0 c.requires.same (c.are_plain.ensures c.if-are_plain.true) c.in_ok-plain_terms.ensures

pub unlifted-requires-clause-lift : goal.unlifted-requires-clause-lift
unlifted-requires-clause-lift c = plain_lift c.args.constraint.now.terms c.args.ordered.now c.in_ok-plain_terms.field-0 c.requires.same (c.are_plain.ensures c.if-are_plain.true) c.in_ok-plain_terms.ensures

pub merge_runs-requires-clause-sizes : goal.merge_runs-requires-clause-sizes
merge_runs-requires-clause-sizes c = omega (arith, same_sizes c.args.constraint.now.terms c.args.ordered.now c.requires.same, c.requires.sizes)

pub at_least-requires-clause-balance : goal.at_least-requires-clause-balance
at_least-requires-clause-balance c = same_balance c.args.constraint.now.terms c.args.ordered.now c.in_ok-merge_runs.field-0 c.requires.same c.in_ok-merge_runs.ensures

pub returns-then-are_plain-clause-same : goal.returns-then-are_plain-clause-same
returns-then-are_plain-clause-same c = meaning c.args.constraint.now c.unlifted.result c.requires.relation c.unlifted.ensures.form c.unlifted.ensures.normal

pub returns-then-are_plain-clause-small : goal.returns-then-are_plain-clause-small
returns-then-are_plain-clause-small c = never c.args.constraint.now c.unlifted.result c.unlifted.ensures.too_large

pub returns-clause-same : goal.returns-clause-same
returns-clause-same c = meaning c.args.constraint.now c.at_least.result c.requires.relation c.at_least.ensures.form c.at_least.ensures.normal

pub returns-clause-small : goal.returns-clause-small
returns-clause-small c = never c.args.constraint.now c.at_least.result c.at_least.ensures.too_large
