-- The marks are tidied, and each cell is scaled.
use Rattle.std.proofs.Common.{◌≡◌, ◌≤◌, ℕ, List, ap, sym, subst, ◌∙◌, arith}
use Rattle.std.specs.Prelude.{ℤ}
use Rattle.normal_form.specs.Normal.{NormalConstraint, coefficient, largest_sum, total}
use Rattle.accumulate.specs.Nets.{ScalesWithin, constraint_of, scaled, sizes}
use Rattle.accumulate.specs.declared.scaling.Scaling.{Scaling}
use Rattle.accumulate.proofs.NetTerms.{terms_total}
use Rattle.accumulate.proofs.Resized.{resized_coefficients, resized_marked}
use Rattle.accumulate.proofs.Scaled.{none_of, scaled_small, zero_stays}
use Rattle.accumulate.proofs.Tidied.{in_order}
use Rattle.accumulate.proofs.Totals.{added_normal}
use Rattle.accumulate.proofs.accumulator.Accumulator.scale.Goals as goal

pub scale_all-self-inside-requires-clause-marks : goal.scale_all-self-inside-requires-clause-marks
scale_all-self-inside-requires-clause-marks c = c.tidy.ensures.marks

pub scale_all-self-inside-requires-clause-order : goal.scale_all-self-inside-requires-clause-order
scale_all-self-inside-requires-clause-order c = in_order c.tidy.new.touched.items c.self.inside.nets.items c.in_ok-tidy.ensures.tidy

pub scale_all-self-inside-requires-clause-within : goal.scale_all-self-inside-requires-clause-within
scale_all-self-inside-requires-clause-within c = subst (ScalesWithin c.args.scaling) (ap (λ (d : NormalConstraint). total d.terms) (sym c.self.view_is) ∙ terms_total 0 c.self.inside.nets.items) c.requires.sum

low_of : (s : Scaling) (degree result : ℕ) (ns : List ℤ) (d : NormalConstraint) → constraint_of ns degree ≡ d → degree ≤ largest_sum → ScalesWithin s d.degree → result ≡ scaled s degree → result ≤ largest_sum
low_of s degree result ns d is low within e = omega (arith, e, scaled_small s degree low (subst (ScalesWithin s) (ap (λ (d : NormalConstraint). d.degree) (sym is)) within))

pub invariant_of-self-2 : goal.invariant_of-self-2
invariant_of-self-2 c =
    let zero : scaled c.args.scaling 0 ≡ 0 = zero_stays c.args.scaling c.args.self.now.degree c.requires.degree in
    let small : sizes c.scale_all-self-inside.new.nets.items ≤ largest_sum = omega (arith, c.scale_all-self-inside.ensures.sum, c.scale_all-self-inside.ensures.small) in (
      record {
        marked = resized_marked (scaled c.args.scaling) 0 0 c.tidy.new.touched.items c.self.inside.nets.items c.scale_all-self-inside.new.nets.items c.scale_all-self-inside.ensures.same_length c.scale_all-self-inside.ensures.scaled small
            (λ n h l. none_of (scaled c.args.scaling) zero n h)
            c.tidy.ensures.marks;
        summed = c.scale_all-self-inside.ensures.sum;
        small = c.scale_all-self-inside.ensures.small;
        low = low_of c.args.scaling c.self.inside.degree c.scaled-self-inside.result c.self.inside.nets.items c.args.self.now c.self.view_is c.self.invariant.0.low c.requires.degree c.scaled-self-inside.ensures;
      },
      resized_marked (scaled c.args.scaling) c.self.inside.level c.scaled_level-self-inside.result c.self.inside.recent.items c.self.inside.nets.items c.scale_all-self-inside.new.nets.items c.scale_all-self-inside.ensures.same_length c.scale_all-self-inside.ensures.scaled small c.scaled_level-self-inside.ensures c.self.invariant.1,
    )

pub returns-clause-coefficients : goal.returns-clause-coefficients
returns-clause-coefficients c v s = resized_coefficients (scaled c.args.scaling) (zero_stays c.args.scaling c.args.self.now.degree c.requires.degree) c.self.inside.nets.items c.scale_all-self-inside.new.nets.items c.self.inside.degree c.scaled-self-inside.result c.scale_all-self-inside.ensures.scaled v s ∙ ap (λ (d : NormalConstraint). scaled c.args.scaling (coefficient d v s)) c.self.view_is

pub returns-clause-normal : goal.returns-clause-normal
returns-clause-normal c = added_normal c.scale_all-self-inside.new.nets.items c.scale_all-self-inside.result c.scaled-self-inside.result c.scale_all-self-inside.ensures.sum c.scale_all-self-inside.ensures.small (low_of c.args.scaling c.self.inside.degree c.scaled-self-inside.result c.self.inside.nets.items c.args.self.now c.self.view_is c.self.invariant.0.low c.requires.degree c.scaled-self-inside.ensures)
