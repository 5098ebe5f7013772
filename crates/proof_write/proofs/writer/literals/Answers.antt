use Rattle.std.proofs.Common.{◌<◌, length, arith}
use Rattle.std.proofs.lemmas.List.{get_or_default}
use Rattle.proof_write.specs.Writing.{lit_words}
use Rattle.proof_write.proofs.WordsAppended.{next_part}
use Rattle.proof_write.proofs.writer.literals.Goals as goal

pub loop-next-preserved : goal.loop-next-preserved
loop-next-preserved c =
    let xs = c.args.lits.now in
    let i = c.loop-next.next-index in
    let within : i < length xs = omega arith in
    next_part (lit_words c.args.names.now) xs i _ c.args.out.now.items c.loop-next.out.items c.literal.new.out.items within (get_or_default xs i _ _ within) c.loop-next.invariant c.in_ok-literal.ensures.ok
