-- Between the last variable and this one all cells are 0.
use Rattle.std.proofs.Common.{◌≡◌, ℕ, ◌<◌, ◌≤◌, ◌++◌, List, ℤ, slice_index_or, length, take, arith, ap, ◌∙◌, to_z, of_z}
use mir.Syntax.{w128}
use Rattle.std.proofs.lemmas.Int.{ints}
use Rattle.std.specs.Prelude.{unsigned_abs}
use Rattle.normal_form.specs.Normal.{largest_sum}
use Rattle.normal_form.specs.declared.term.NormalTerm.{NormalTerm}
use Rattle.normal_form.specs.Balance.{net_term}
use Rattle.accumulate.specs.Nets.{terms_from, sizes}
use Rattle.accumulate.proofs.NetTerms.{size_below}
use Rattle.accumulate.proofs.Taking.{next_cell, bound_take}
use Rattle.accumulate.proofs.reading.push_cell.Goals as goal

pub push_net-requires : goal.push_net-requires
push_net-requires c = omega (arith, bound_take c.args.nets.now.items c.args.next c.args.terms.now c.requires.made, c.if-place-next.false)

back : (z : ℤ) → unsigned_abs z ≤ largest_sum → to_z w128 (of_z w128 z) ≡ z
back z h = omega (arith, ints, h)

wrapped : (z : ℤ) (ns : List ℤ) (i : ℕ) → i < length ns → z ≡ slice_index_or ns i z → sizes ns ≤ largest_sum → to_z w128 (of_z w128 z) ≡ z
wrapped z ns i h e f = back z (omega (arith, size_below ns i z h, ap unsigned_abs e, f))

pub returns-clause-made : goal.returns-clause-made
returns-clause-made c =
    let same : to_z w128 (of_z w128 c.index.result.now) ≡ c.index.result.now = wrapped c.index.result.now c.args.nets.now.items c.args.var c.requires.room c.index.ensures c.requires.small in
    let start : c.args.terms.now ++ net_term c.args.var c.index.result.now ≡ terms_from 0 (take c.args.next c.args.nets.now.items) ++ net_term c.args.var c.index.result.now = ap (λ (ts : List NormalTerm). ts ++ net_term c.args.var c.index.result.now) c.requires.made in
    c.in_ok-push_net.ensures.ok ∙ ap (λ (z : ℤ). c.args.terms.now ++ net_term c.args.var z) same ∙ start ∙ next_cell c.args.nets.now.items c.args.next c.args.var c.index.result.now (omega (arith, c.if-place-next.false)) c.requires.room c.requires.gap c.index.ensures
