use Rattle.pb_text.specs.Name.{continues_name}
use Rattle.pb_text.proofs.BytesRead.{name_byte, run_longer}
use Rattle.pb_text.proofs.runs.name_bytes.Goals as goal

pub loop-b-preserved : goal.loop-b-preserved
loop-b-preserved c =
    let b = c.in-Some.b.now in
    let tail = c.in-Some.tail.now in
    let is = c.is_name_byte.ensures.continues c.if-not-is_name_byte.false in
    let word = name_byte b tail is (c.is_name_byte.ensures.other c.if-not-is_name_byte.false) in
    run_longer continues_name c.loop-b.size b c.args.text.now c.loop-b.rest.now tail (c.in-Some.ensures.cases.0) c.loop-b.invariant is word
