use Rattle.std.proofs.Common.{◌≡◌, true, ◌+◌, ◌-◌, ◌*◌, sym, ◌∙◌, arith, take}
use Rattle.pb_text.specs.Name.{is_digit}
use Rattle.pb_text.specs.Number.{digits_value}
use Rattle.pb_text.proofs.BytesRead.{digit_test, digit_byte, run_longer, value_longer}
use Rattle.pb_text.proofs.runs.digits.Goals as goal

pub loop-b-preserved : goal.loop-b-preserved
loop-b-preserved c =
    let now = c.loop-b.invariant in
    let text = c.args.text.now in
    let b = c.in-Some.b.now in
    let tail = c.in-Some.tail.now in
    let e = c.in-Some.ensures.cases.0 in
    let digit : is_digit b ≡ true = digit_test b c.if-b-lt48.false c.if-b-gt57.false in
    let value : digits_value (take (c.loop-b.size + 1) text) ≡ digits_value (take c.loop-b.size text) * 10 + (b - 48) = value_longer c.loop-b.size b text tail (sym now.run.behind ∙ e) in
    record {
      run = run_longer is_digit c.loop-b.size b text c.loop-b.rest.now tail e now.run digit (digit_byte b tail digit);
      value = omega (arith, c.from.ensures, now.value, value);
      small = omega (arith, c.from.ensures, c.if-value-ge-MANY.false, c.if-b-gt57.false);
    }
