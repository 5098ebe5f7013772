-- Each step adds the term at this place.
use Rattle.std.proofs.Common.{true, ◌≡◌, ℕ, ◌<◌, ◌≤◌, List, ap, arith, ℤ, unsigned_abs, length, get_or, to_z, of_z, ◌∙◌}
use mir.Syntax.{w128}
use Rattle.std.proofs.lemmas.Int.{ints}
use Rattle.normal_form.specs.declared.term.NormalTerm.{NormalTerm}
use Rattle.normal_form.specs.Normal.{total, largest_sum}
use Rattle.normal_form.proofs.Sums.{sum_over_take}
use Rattle.cut_rules.proofs.MergeSteps.{coefficient_at}
use Rattle.accumulate.specs.Nets.{nets_of}
use Rattle.accumulate.proofs.NetTerms.{gives_more, total_more, room_at}
use Rattle.accumulate.proofs.Marks.{name_at}
use Rattle.accumulate.proofs.cells.apply.Goals as goal

pub change_of-net-requires : goal.change_of-net-requires
change_of-net-requires c = omega (arith, coefficient_at c.args.other.now.terms c.loop-place.place c.term-term.result (omega (arith, c.loop-place-test.true, c.len-place-end.ensures.value)) c.term-term.ensures.value, c.len-place-end.ensures.normal.fits.sum)

pub add_net-all-requires-clause-room : goal.add_net-all-requires-clause-room
add_net-all-requires-clause-room c = room_at c.args.other.now.terms c.loop-place.place (length c.loop-place.nets.items) c.term-term.result (omega (arith, c.loop-place-test.true, c.len-place-end.ensures.value)) c.term-term.ensures.value (omega (arith, c.requires.room, c.loop-place.invariant.same_length))

pub add_net-all-requires-clause-small : goal.add_net-all-requires-clause-small
add_net-all-requires-clause-small c = omega (arith, c.loop-place.invariant.small, sum_over_take (λ _ _. true) c.loop-place.place c.args.other.now.terms, c.requires.small, c.len-place-end.ensures.normal.fits.sum)

back : (z : ℤ) → unsigned_abs z ≤ largest_sum → to_z w128 (of_z w128 z) ≡ z
back z h = omega (arith, ints, h)

back_at : (net : ℤ) (ts : List NormalTerm) (i : ℕ) (t : NormalTerm) → i < length ts → t ≡ get_or ts i t → total ts ≤ largest_sum → unsigned_abs net ≡ t.coef → to_z w128 (of_z w128 net) ≡ net
back_at net ts i t h e f g = back net (omega (arith, coefficient_at ts i t h e, f, g))

pub add_net-all-requires-clause-size : goal.add_net-all-requires-clause-size
add_net-all-requires-clause-size c =
    let here : c.loop-place.place < length c.args.other.now.terms = omega (arith, c.loop-place-test.true, c.len-place-end.ensures.value) in
    let b : to_z w128 (of_z w128 c.change_of-net.result) ≡ c.change_of-net.result = back_at c.change_of-net.result c.args.other.now.terms c.loop-place.place c.term-term.result here c.term-term.ensures.value c.len-place-end.ensures.normal.fits.sum c.change_of-net.ensures.size in
    omega (arith, ap unsigned_abs b, c.change_of-net.ensures.size, coefficient_at c.args.other.now.terms c.loop-place.place c.term-term.result here c.term-term.ensures.value, c.len-place-end.ensures.normal.fits.sum)

pub loop-place-preserved : goal.loop-place-preserved
loop-place-preserved c =
    let here : c.loop-place.place < length c.args.other.now.terms = omega (arith, c.loop-place-test.true, c.len-place-end.ensures.value) in
    let b : to_z w128 (of_z w128 c.change_of-net.result) ≡ c.change_of-net.result = back_at c.change_of-net.result c.args.other.now.terms c.loop-place.place c.term-term.result here c.term-term.ensures.value c.len-place-end.ensures.normal.fits.sum c.change_of-net.ensures.size in
    record {
      same_length = c.add_net-all.ensures.same_length ∙ c.loop-place.invariant.same_length;
      sum = c.add_net-all.ensures.sum;
      small = total_more c.loop-place.all c.add_net-all.result (unsigned_abs (to_z w128 (of_z w128 c.change_of-net.result))) c.args.sum c.args.other.now.terms c.loop-place.place c.term-term.result here c.term-term.ensures.value c.loop-place.invariant.small c.add_net-all.ensures.small (ap unsigned_abs b ∙ c.change_of-net.ensures.size);
      gives = λ set. gives_more c.args.change set (nets_of set 0 c.args.nets.now.items) (nets_of set 0 c.loop-place.nets.items) (nets_of set 0 c.add_net-all.new.nets.items) (to_z w128 (of_z w128 c.change_of-net.result)) c.args.other.now.terms c.loop-place.place c.term-term.result here c.term-term.ensures.value (c.loop-place.invariant.gives set) (c.add_net-all.ensures.gives set) (b ∙ c.change_of-net.ensures.value);
      marks = λ level marks named m. c.add_net-all.ensures.marks level marks (name_at marks c.args.other.now.terms c.loop-place.place c.term-term.result here c.term-term.ensures.value named) (c.loop-place.invariant.marks level marks named m);
    }
