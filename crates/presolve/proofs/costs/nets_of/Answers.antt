use Rattle.std.proofs.Common.{rules, ◌≡◌, ◌==◌, ◌+◌, ◌<◌, ℕ, List, cond, false, length, get_or, take, sym, ap, subst, ◌∙◌, arith}
use Rattle.std.specs.Prelude.{ℤ, pos, ◌+ℤ◌}
use Rattle.linear.specs.declared.term.Term.{Term}
use Rattle.normal_form.specs.NormalOf.{net, slope}
use Rattle.presolve.proofs.NetSums.{net_fits, net_more}
use Rattle.presolve.proofs.Places.{written_back}
use Rattle.presolve.proofs.costs.nets_of.Goals as goal

none : Term
none = record { coef = pos 0; var = record { 0 = 0 }; negated = false }

pub note_term-requires : goal.note_term-requires
unfolding none
note_term-requires c inside =
    let ts : List Term = c.args.objective.now in
    let i = c.loop-term.term-index in
    let nets : List ℤ = c.loop-term.nets.items in
    let v = (get_or ts i none).var.0 in
    let below : v < c.args.count = subst (λ n. v < n) c.loop-term.invariant.0 (subst (λ (xs : List ℤ). v < length xs) c.as_mut_slice.ensures.value inside) in
    let here : get_or c.as_mut_slice.result.now v (pos 0) ≡ net (take i ts) v = ap (λ xs. get_or xs v (pos 0)) c.as_mut_slice.ensures.value ∙ c.loop-term.invariant.1 v below in
    omega (arith, net_fits v ts i none (get_or c.as_mut_slice.result.now v (pos 0)) c.loop-term-test.true here, c.requires)

pub loop-term-preserved : goal.loop-term-preserved
unfolding none
loop-term-preserved c =
    let ts : List Term = c.args.objective.now in
    let i = c.loop-term.term-index in
    let old : List ℤ = c.loop-term.nets.items in
    let new : List ℤ = c.note_term.new.nets in
    let long : length new ≡ length old = search rules in
    let back = written_back new old c.loop-term.nets.len (search rules) in
    let part = λ (v : ℕ). cond ((get_or ts i none).var.0 == v) (slope (get_or ts i none)) (pos 0) in
    subst (λ (xs : List ℤ). (length xs ≡ c.args.count) × ((v : ℕ) → v < c.args.count → get_or xs v (pos 0) ≡ net (take (i + 1) ts) v)) (sym back) (
      long ∙ c.loop-term.invariant.0,
      λ v h.
          let inside : v < length c.as_mut_slice.result.now = subst (λ (xs : List ℤ). v < length xs) (sym c.as_mut_slice.ensures.value) (subst (λ n. v < n) (sym c.loop-term.invariant.0) h) in
          c.note_term.ensures v inside
          ∙ ap (λ (xs : List ℤ). get_or xs v (pos 0) +ℤ part v) c.as_mut_slice.ensures.value
          ∙ ap (λ z. z +ℤ part v) (c.loop-term.invariant.1 v h)
          ∙ sym (net_more v ts i none c.loop-term-test.true),
    )
