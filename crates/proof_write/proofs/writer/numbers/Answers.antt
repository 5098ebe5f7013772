use Rattle.std.proofs.Common.{◌<◌, ◌++◌, ℤ, pos, length, get_or, ap, ◌∙◌, FitsSigned, rules, arith}
use Rattle.std.proofs.lemmas.Int.{to_z-of_z}
use Rattle.std.proofs.lemmas.List.{get_or_default}
use mir.Syntax.{w128}
use Rattle.proof_write.specs.Writing.{spaced, number_words}
use Rattle.proof_write.proofs.WordsAppended.{next_part}
use Rattle.proof_write.proofs.writer.numbers.Goals as goal

pub loop-next-preserved : goal.loop-next-preserved
loop-next-preserved c =
    let xs = c.args.numbers.now in
    let i = c.loop-next.next-index in
    let within : i < length xs = omega arith in
    let x : ℤ = get_or xs i (pos 0) in
    let fits : FitsSigned w128 x = search rules in
    let b = c.loop-next.out.items in
    next_part number_words xs i x c.args.out.now.items b c.number.new.out.items within (get_or_default xs i (pos 0) x within) c.loop-next.invariant
    (c.in_ok-number.ensures.ok ∙ ap (λ v. b ++ spaced (number_words v)) (to_z-of_z w128 x fits))
