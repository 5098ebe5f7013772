use Rattle.std.proofs.Common.{◌≡◌, ◌<◌, true, sym, ◌∙◌, arith}
use Rattle.pb_text.specs.Name.{is_digit}
use Rattle.pb_text.proofs.BytesRead.{digit_test, digit_byte, run_none, run_longer}
use Rattle.pb_text.proofs.ShortNameRead.{nothing_read, short_longer}
use Rattle.pb_text.proofs.runs.short_digits.Goals as goal

pub loop-b-init : goal.loop-b-init
loop-b-init c = record { run = run_none is_digit c.args.text.now; number = nothing_read }

pub loop-b-preserved : goal.loop-b-preserved
loop-b-preserved c =
    let now = c.loop-b.invariant in
    let text = c.args.text.now in
    let b = c.in-Some.b.now in
    let tail = c.in-Some.tail.now in
    let e = c.in-Some.ensures.cases.0 in
    let digit : is_digit b ≡ true = digit_test b c.if-b-lt48.false c.if-b-gt57.false in
    let within : (47 < b) × (b < 58) = (omega (arith, c.if-b-lt48.false), omega (arith, c.if-b-gt57.false)) in
    record {
      run = run_longer is_digit c.loop-b.size b text c.loop-b.rest.now tail e now.run digit (digit_byte b tail digit);
      number = short_longer c.loop-b.size c.loop-b.number b c.from.result text tail (sym now.run.behind ∙ e) now.number within c.from.ensures;
    }
