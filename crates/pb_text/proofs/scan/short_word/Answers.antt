use Rattle.std.proofs.Common.{arith}
use Rattle.pb_text.proofs.ScannedWords.{short_first}
use Rattle.pb_text.proofs.scan.short_word.Goals as goal

pub returns : goal.returns
returns c =
    short_first c.short_digits-run.result.size c.short_digits-run.result.number c.in-Some.first.now c.args.text.now c.in-Some.rest.now c.short_digits-run.result.rest.now
    c.in-Some.ensures.cases.0 c.in-120.is c.short_digits-run.ensures.run c.short_digits-run.ensures.number (omega (arith, c.if-run-eq0.false)) (c.ends_word.ensures.0 c.if-not-ends_word.false)
