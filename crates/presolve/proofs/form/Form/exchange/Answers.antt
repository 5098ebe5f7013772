use Rattle.std.proofs.Common.{rules, subst, ap, ◌∙◌, refl}
use Rattle.std.specs.List.Sorted.{IsPermutation}
use Rattle.std.proofs.lemmas.List.Sorted.{IsNonDecreasingBy-from_sort_by_key}
use Rattle.normal_form.specs.declared.term.NormalTerm.{NormalTerm}
use Rattle.normal_form.specs.Normal.{only}
use Rattle.presolve.specs.Forms.{terms_exchanged}
use Rattle.presolve.proofs.Exchanging.{exchanged_rises, exchanged_sum, same_sum}
use Rattle.presolve.proofs.form.Form.exchange.Goals as goal

-- what is sorted are the exchanged terms
moved : (c : goal.In_ok-sort_by_key) → IsPermutation (terms_exchanged (c.args.x.0) (c.args.y.0) c.args.self.now.terms.items) c.sort_by_key.new.self.items
moved c = subst (λ us. IsPermutation us c.sort_by_key.new.self.items) (c.in_ok-terms.ensures ∙ ap (terms_exchanged (c.args.x.0) (c.args.y.0)) c.as_slice.ensures.value) c.sort_by_key.ensures.permutation

pub returns-clause-exchange : goal.returns-clause-exchange
returns-clause-exchange c = record {
  coefficients = λ v s. same_sum (only v s) (terms_exchanged (c.args.x.0) (c.args.y.0) c.args.self.now.terms.items) c.sort_by_key.new.self.items (moved c)
      ∙ exchanged_sum (c.args.x.0) (c.args.y.0) v s c.args.self.now.terms.items;
  degree = refl;
}

pub returns-clause-rises : goal.returns-clause-rises
returns-clause-rises c =
    exchanged_rises (c.args.x.0) (c.args.y.0) c.args.self.now.terms.items c.sort_by_key.new.self.items c.requires (moved c)
    (IsNonDecreasingBy-from_sort_by_key (λ (t : NormalTerm). t.var.0) _ c.in_ok-sort_by_key.ensures.sorted (λ a r q k. search rules))
