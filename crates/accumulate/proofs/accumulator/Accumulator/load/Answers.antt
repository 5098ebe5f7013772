-- What is added to an empty array is what it stands for. Before all memory is taken nothing has changed.
use Rattle.std.proofs.Common.{ℕ, ◌<◌, List, [], length, ap, sym, subst, arith}
use Rattle.std.specs.Prelude.{ℤ, All, Contains}
use Rattle.accumulate.specs.Nets.{IsMarked}
use Rattle.normal_form.specs.Normal.{largest_sum}
use Rattle.accumulate.proofs.Levels.{marked_low}
use Rattle.accumulate.proofs.Totals.{loaded, sizes_same}
use Rattle.accumulate.proofs.accumulator.Accumulator.load.Goals as goal

-- an array that needs no marks may have any that it has room for
any_marks : (marks : List ℕ) (ns : List ℤ) → IsMarked [] ns → All (λ v. v < length ns) marks → IsMarked marks ns
any_marks marks ns m room = record {
  covers = λ v p. let none : Contains [] v = m.covers v p in absurd (omega (arith, none.1));
  room = room;
}

pub invariant_of-self : goal.invariant_of-self
invariant_of-self c = (
  record {
    marked = subst (λ (ms : List ℕ). IsMarked ms c.make_room.new.nets.items) (sym c.make_room.ensures.touched) (c.make_room.ensures.marks 0 c.self.inside.touched.items c.self.invariant.0.marked);
    summed = sizes_same c.self.inside.nets.items c.make_room.new.nets.items c.self.inside.sum c.make_room.ensures.terms c.self.invariant.0.summed;
    small = c.self.invariant.0.small;
    low = c.self.invariant.0.low;
  },
  c.make_room.ensures.marks c.self.inside.level c.self.inside.recent.items c.self.invariant.1,
)

pub clear-requires : goal.clear-requires
clear-requires c = record {
  marks = subst (λ (ms : List ℕ). IsMarked ms c.make_room.new.nets.items) (sym c.make_room.ensures.touched) (c.make_room.ensures.marks 0 c.self.inside.touched.items c.self.invariant.0.marked);
}

pub apply-self-inside-requires-clause-room : goal.apply-self-inside-requires-clause-room
apply-self-inside-requires-clause-room c = omega (arith, c.in_ok-make_room.ensures.room, c.clear.ensures.same_length)

pub invariant_of-self-2 : goal.invariant_of-self-2
invariant_of-self-2 c =
    let room : All (λ v. v < length c.clear.new.nets.items) c.mark_reserved.new.touched.items = c.mark_reserved.ensures.below (length c.clear.new.nets.items) (omega (arith, c.in_ok-make_room.ensures.room, c.clear.ensures.same_length)) (λ k d h. absurd (omega (arith, h, ap (λ (xs : List ℕ). length xs) c.clear-2.ensures.items))) in (
      record {
        marked = c.apply-self-inside.ensures.marks 0 c.mark_reserved.new.touched.items c.mark_reserved.ensures.names (any_marks c.mark_reserved.new.touched.items c.clear.new.nets.items c.clear.ensures.marks room);
        summed = c.apply-self-inside.ensures.sum;
        small = omega (arith, c.apply-self-inside.ensures.small, c.degree-self-inside.ensures.normal.fits.sum);
        low = omega (arith, c.degree-self-inside.ensures.value, c.degree-self-inside.ensures.normal.fits.degree);
      },
      marked_low largest_sum c.clear-3.new.self.items c.apply-self-inside.new.nets.items (omega (arith, c.apply-self-inside.ensures.sum, c.apply-self-inside.ensures.small, c.degree-self-inside.ensures.normal.fits.sum)) (λ k d h. absurd (omega (arith, h, ap (λ (xs : List ℕ). length xs) c.clear-3.ensures.items))),
    )

pub returns-clause-value : goal.returns-clause-value
returns-clause-value c = loaded c.clear.new.nets.items c.apply-self-inside.new.nets.items c.args.other.now c.degree-self-inside.result c.clear.ensures.terms c.apply-self-inside.ensures.gives c.degree-self-inside.ensures.normal.rises c.degree-self-inside.ensures.value
