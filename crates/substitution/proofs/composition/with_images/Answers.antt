-- The image read is that of a variable which had none before, and the value written is its value at the assignment.
use Rattle.std.proofs.Common.{false, arith, length-set}
use Rattle.linear.specs.Valuation.{valuation_of}
use Rattle.linear.specs.declared.term.Var.{Var}
use Rattle.substitution.specs.declared.image.Image.{Image}
use Rattle.substitution.specs.declared.image.Image.TheVariants.{Lit}
use Rattle.substitution.proofs.Values.{values_at}
use Rattle.substitution.proofs.composition.with_images.Goals as goal

pub loop-pair-preserved : goal.loop-pair-preserved
loop-pair-preserved c =
    let d : Var × Image = (record { 0 = 0 }, Lit (record { var = record { 0 = 0 }; negated = false })) in
    let images = c.args.images.now in
    let i = c.loop-pair.pair-index in
    let below = c.requires.below i d (omega arith) in (
      simp length-set c.loop-pair.invariant.0,
      values_at (valuation_of c.args.assignment.now) images i d c.loop-pair.values.items c.is_true.result c.requires.once (omega arith) (omega (arith, below, c.loop-pair.invariant.0)) c.is_true.ensures c.loop-pair.invariant.1,
    )
