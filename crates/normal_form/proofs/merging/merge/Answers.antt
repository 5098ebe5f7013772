-- What balances the terms in order balances them as they were given.
use Rattle.std.proofs.Common.{◌≡◌, List, sym, subst, arith}
use Rattle.std.specs.List.Sorted.{IsPermutation}
use Rattle.std.proofs.lemmas.Result.{IfOk-weaker}
use Rattle.linear.specs.declared.term.Term.{Term}
use Rattle.normal_form.specs.Balance.{Balances}
use Rattle.normal_form.proofs.Reorder.{same_sizes, same_balance}
use Rattle.normal_form.proofs.merging.merge.Goals as goal

seen : (ts put read : List Term) → IsPermutation ts put → read ≡ put → IsPermutation ts read
seen ts put read p e = subst (λ (us : List Term). IsPermutation ts us) (sym e) p

pub merge_runs-requires-2-clause-sizes : goal.merge_runs-requires-2-clause-sizes
merge_runs-requires-2-clause-sizes c = omega (arith, same_sizes c.args.terms.now c.as_slice.result.now (seen c.args.terms.now c.put_in_order.new.sorted.items c.as_slice.result.now c.in_ok-put_in_order.ensures.same c.as_slice.ensures.value), c.requires)

pub returns : goal.returns
returns c = IfOk-weaker c.merge_runs-2.result (Balances c.as_slice.result.now) (Balances c.args.terms.now) (λ b h. same_balance c.args.terms.now c.as_slice.result.now b (seen c.args.terms.now c.put_in_order.new.sorted.items c.as_slice.result.now c.in_ok-put_in_order.ensures.same c.as_slice.ensures.value) h) c.merge_runs-2.ensures
