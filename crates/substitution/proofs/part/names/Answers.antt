-- One image more.
use Rattle.std.proofs.Common.{ap, length, arith}
use Rattle.substitution.proofs.Named.{names_step}
use Rattle.substitution.proofs.part.names.Goals as goal

pub loop-pair-preserved : goal.loop-pair-preserved
loop-pair-preserved c =
    let images = c.as_slice-pair-items.ensures.images in
    let count = ap length images in
    names_step c.args.substitution.now c.as_slice-pair-items.result.now c.loop-pair.pair-index c.loop-pair.variables.items c.push_names.new.variables.items images (omega (arith, count)) c.loop-pair.invariant c.in_ok-push_names.ensures
