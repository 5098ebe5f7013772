use Rattle.std.proofs.Common.{sym, ◌∙◌, arith}
use Rattle.pb_text.proofs.ScannedWords.{plain_name}
use Rattle.pb_text.proofs.scan.name_word.Goals as goal

pub returns : goal.returns
returns c =
    plain_name c.name_bytes-run.result.size c.in-Some.first.now c.args.text.now c.in-Some.rest.now c.name_bytes-run.result.rest.now
    c.in-Some.ensures.cases.0 (sym c.begins_name.ensures ∙ c.if-not-begins_name.false) c.name_bytes-run.ensures (omega (arith, c.if-run-eq0.false)) (c.ends_word.ensures.0 c.if-not-ends_word.false)
