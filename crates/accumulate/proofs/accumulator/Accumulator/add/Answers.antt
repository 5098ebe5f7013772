-- The array after the terms were added is the sum; after they were taken back, what it was.
use Rattle.std.proofs.Common.{rules, arith, ◌≡◌, ◌≤◌, true, false, ◌∙◌}
use Rattle.std.specs.Prelude.{IsTrue}
use Rattle.normal_form.specs.Normal.{largest_sum, variable_bound}
use Rattle.cut_rules.proofs.Sum.{sum_keeps, sum_within}
use Rattle.accumulate.specs.Nets.{constraint_of, terms_from}
use Rattle.accumulate.proofs.Totals.{same_of, sizes_same, taken_back, sum_given, too_large_given, added_normal}
use Rattle.accumulate.proofs.Levels.{marked_either, marked_noted}
use Rattle.accumulate.proofs.accumulator.Accumulator.add.Goals as goal

never : IsTrue false → ⊥
never h = search rules

always : IsTrue true
always = search rules

pub invariant_of-self : goal.invariant_of-self
invariant_of-self c = (
  record {
    marked = c.prepare.ensures.marks;
    summed = sizes_same c.self.inside.nets.items c.prepare.new.nets.items c.self.inside.sum c.prepare.ensures.terms c.self.invariant.0.summed;
    small = c.self.invariant.0.small;
    low = c.self.invariant.0.low;
  },
  c.prepare.ensures.above c.self.inside.level c.self.inside.recent.items c.self.invariant.1,
)

pub invariant_of-self-in_err-note : goal.invariant_of-self-in_err-note
invariant_of-self-in_err-note c = (
  record {
    marked = c.prepare.ensures.marks;
    summed = sizes_same c.self.inside.nets.items c.prepare.new.nets.items c.self.inside.sum c.prepare.ensures.terms c.self.invariant.0.summed;
    small = c.self.invariant.0.small;
    low = c.self.invariant.0.low;
  },
  marked_noted c.self.inside.level (variable_bound c.args.other.now.terms) c.self.inside.recent.items c.note.new.recent.items c.prepare.new.nets.items c.in_ok-prepare.ensures.room c.note.ensures.kept c.note.ensures.below (c.prepare.ensures.above c.self.inside.level c.self.inside.recent.items c.self.invariant.1),
)

pub invariant_of-self-2 : goal.invariant_of-self-2
invariant_of-self-2 c = (
  record {
    marked = c.apply-sum.ensures.marks 0 c.prepare.new.touched.items c.in_ok-prepare.ensures.names c.prepare.ensures.marks;
    summed = c.apply-sum.ensures.sum;
    small = (c.if-not-fits.ensures.0 always).0;
    low = (c.if-not-fits.ensures.0 always).1;
  },
  marked_either c.self.inside.level c.note.new.recent.items c.apply-sum.new.nets.items (omega (arith, c.apply-sum.ensures.sum, (c.if-not-fits.ensures.0 always).0)) (λ k d h. omega (arith, (marked_noted c.self.inside.level (variable_bound c.args.other.now.terms) c.self.inside.recent.items c.note.new.recent.items c.prepare.new.nets.items c.in_ok-prepare.ensures.room c.note.ensures.kept c.note.ensures.below (c.prepare.ensures.above c.self.inside.level c.self.inside.recent.items c.self.invariant.1)).room k d h, c.apply-sum.ensures.same_length)) (λ h. c.apply-sum.ensures.marks c.self.inside.level c.note.new.recent.items (c.in_ok-note.ensures.names h) (marked_noted c.self.inside.level (variable_bound c.args.other.now.terms) c.self.inside.recent.items c.note.new.recent.items c.prepare.new.nets.items c.in_ok-prepare.ensures.room c.note.ensures.kept c.note.ensures.below (c.prepare.ensures.above c.self.inside.level c.self.inside.recent.items c.self.invariant.1))),
)

pub apply-sum-requires-clause-sum : goal.apply-sum-requires-clause-sum
apply-sum-requires-clause-sum c = sizes_same c.self.inside.nets.items c.prepare.new.nets.items c.self.inside.sum c.prepare.ensures.terms c.self.invariant.0.summed

pub invariant_of-self-then-not-fits : goal.invariant_of-self-then-not-fits
invariant_of-self-then-not-fits c =
    let back : terms_from 0 c.apply.new.nets.items ≡ terms_from 0 c.prepare.new.nets.items = taken_back c.prepare.new.nets.items c.apply-sum.new.nets.items c.apply.new.nets.items c.args.other.now.terms c.apply-sum.ensures.gives c.apply.ensures.gives in (
      record {
        marked = c.apply.ensures.marks 0 c.prepare.new.touched.items c.in_ok-prepare.ensures.names (c.apply-sum.ensures.marks 0 c.prepare.new.touched.items c.in_ok-prepare.ensures.names c.prepare.ensures.marks);
        summed = sizes_same c.self.inside.nets.items c.apply.new.nets.items c.self.inside.sum (back ∙ c.prepare.ensures.terms) c.self.invariant.0.summed;
        small = c.self.invariant.0.small;
        low = c.self.invariant.0.low;
      },
      marked_either c.self.inside.level c.note.new.recent.items c.apply.new.nets.items (omega (arith, sizes_same c.self.inside.nets.items c.apply.new.nets.items c.self.inside.sum (back ∙ c.prepare.ensures.terms) c.self.invariant.0.summed, c.self.invariant.0.small)) (λ k d h. omega (arith, (marked_noted c.self.inside.level (variable_bound c.args.other.now.terms) c.self.inside.recent.items c.note.new.recent.items c.prepare.new.nets.items c.in_ok-prepare.ensures.room c.note.ensures.kept c.note.ensures.below (c.prepare.ensures.above c.self.inside.level c.self.inside.recent.items c.self.invariant.1)).room k d h, c.apply-sum.ensures.same_length, c.apply.ensures.same_length)) (λ h. c.apply.ensures.marks c.self.inside.level c.note.new.recent.items (c.in_ok-note.ensures.names h) (c.apply-sum.ensures.marks c.self.inside.level c.note.new.recent.items (c.in_ok-note.ensures.names h) (marked_noted c.self.inside.level (variable_bound c.args.other.now.terms) c.self.inside.recent.items c.note.new.recent.items c.prepare.new.nets.items c.in_ok-prepare.ensures.room c.note.ensures.kept c.note.ensures.below (c.prepare.ensures.above c.self.inside.level c.self.inside.recent.items c.self.invariant.1)))),
    )

pub returns-then-not-fits-clause-unchanged : goal.returns-then-not-fits-clause-unchanged
returns-then-not-fits-clause-unchanged c =
    let back : terms_from 0 c.apply.new.nets.items ≡ terms_from 0 c.prepare.new.nets.items = taken_back c.prepare.new.nets.items c.apply-sum.new.nets.items c.apply.new.nets.items c.args.other.now.terms c.apply-sum.ensures.gives c.apply.ensures.gives in
    same_of c.self.inside.nets.items c.apply.new.nets.items c.self.inside.degree (back ∙ c.prepare.ensures.terms) ∙ c.self.view_is

pub returns-then-not-fits-clause-too_large : goal.returns-then-not-fits-clause-too_large
returns-then-not-fits-clause-too_large c e = too_large_given c.args.self.now c.args.other.now c.prepare.new.nets.items c.apply-sum.new.nets.items c.self.inside.degree c.self.inside.sum c.apply-sum.result c.degree_after-degree.result (same_of c.self.inside.nets.items c.prepare.new.nets.items c.self.inside.degree c.prepare.ensures.terms ∙ c.self.view_is) c.apply-sum.ensures.gives (sizes_same c.self.inside.nets.items c.prepare.new.nets.items c.self.inside.sum c.prepare.ensures.terms c.self.invariant.0.summed) c.apply-sum.ensures.sum c.degree_after-degree.ensures.value (λ p. never (c.if-not-fits.ensures.1 p))

pub returns-clause-sum : goal.returns-clause-sum
returns-clause-sum c = sum_given c.args.self.now c.args.other.now c.prepare.new.nets.items c.apply-sum.new.nets.items c.self.inside.degree c.self.inside.sum c.apply-sum.result c.degree_after-degree.result (same_of c.self.inside.nets.items c.prepare.new.nets.items c.self.inside.degree c.prepare.ensures.terms ∙ c.self.view_is) c.apply-sum.ensures.gives (sizes_same c.self.inside.nets.items c.prepare.new.nets.items c.self.inside.sum c.prepare.ensures.terms c.self.invariant.0.summed) c.apply-sum.ensures.sum c.degree_after-degree.ensures.value

pub returns-clause-normal : goal.returns-clause-normal
returns-clause-normal c =
    let p : (c.apply-sum.result ≤ largest_sum) × (c.degree_after-degree.result ≤ largest_sum) = c.if-not-fits.ensures.0 always in
    added_normal c.apply-sum.new.nets.items c.apply-sum.result c.degree_after-degree.result c.apply-sum.ensures.sum p.0 p.1

pub returns-clause-keeps : goal.returns-clause-keeps
returns-clause-keeps c = sum_keeps c.args.self.now c.args.other.now (constraint_of c.apply-sum.new.nets.items c.degree_after-degree.result) (returns-clause-sum c)

pub returns-clause-within : goal.returns-clause-within
returns-clause-within c = sum_within c.args.self.now c.args.other.now (constraint_of c.apply-sum.new.nets.items c.degree_after-degree.result) (returns-clause-sum c) (returns-clause-normal c).fits
