use Rattle.std.proofs.Common.{ℕ, List, length, ap, arith}
use Rattle.cut_rules.proofs.Meaning.{saturation_law}
use Rattle.accumulate.specs.Nets.{constraint_of}
use Rattle.accumulate.proofs.CappedCells.{saturated}
use Rattle.accumulate.proofs.Levels.{none_above}
use Rattle.accumulate.proofs.accumulator.Accumulator.saturate.Goals as goal

pub invariant_of-self : goal.invariant_of-self
invariant_of-self c = (
  record {
    marked = c.cap_all-self-inside.ensures.marks;
    summed = c.cap_all-self-inside.ensures.sum;
    small = omega (arith, c.cap_all-self-inside.ensures.less, c.self.invariant.0.small);
    low = c.self.invariant.0.low;
  },
  none_above c.self.inside.degree c.clear.new.self.items c.self.inside.nets.items c.cap_all-self-inside.new.nets.items c.cap_all-self-inside.ensures.capped (λ k d h. absurd (omega (arith, h, ap (λ (xs : List ℕ). length xs) c.clear.ensures.items))),
)

pub returns-clause-saturation : goal.returns-clause-saturation
returns-clause-saturation c = saturated c.args.self.now c.self.inside.nets.items c.cap_all-self-inside.new.nets.items c.self.inside.degree c.self.view_is c.cap_all-self-inside.ensures.capped

pub returns-clause-keeps : goal.returns-clause-keeps
returns-clause-keeps c = saturation_law c.args.self.now (constraint_of c.cap_all-self-inside.new.nets.items c.self.inside.degree) (returns-clause-saturation c)
