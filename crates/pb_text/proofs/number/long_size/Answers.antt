use Rattle.std.proofs.Common.{◌≡◌, ◌+◌, ◌*◌, ◌^◌, length, arith}
use Rattle.pb_text.specs.Number.{digits_value}
use Rattle.pb_text.proofs.Digits.{digits_after, value_after, at_least_read}
use Rattle.pb_text.proofs.number.long_size.Goals as goal

pub loop-b-preserved : goal.loop-b-preserved
loop-b-preserved c =
    let e = c.in-Some.ensures.cases.0 in
    record {
      digits = digits_after c.in-Some.b.now c.loop-b.rest.now c.in-Some.tail.now e c.loop-b.invariant.digits;
      value = value_after c.loop-b.value c.in-Some.b.now c.from.result _ c.loop-b.rest.now c.in-Some.tail.now e c.from.ensures c.loop-b.invariant.value;
      small = c.if-value-gt-LARGEST_NUMBER.false;
    }

pub returns-then-value-gt-LARGEST_NUMBER : goal.returns-then-value-gt-LARGEST_NUMBER
returns-then-value-gt-LARGEST_NUMBER c small =
    let read = c.loop-b.value * 10 + c.from.result in
    let e : read * 10 ^ length c.in-Some.tail.now + digits_value c.in-Some.tail.now ≡ digits_value c.args.digits.now =
    value_after c.loop-b.value c.in-Some.b.now c.from.result _ c.loop-b.rest.now c.in-Some.tail.now c.in-Some.ensures.cases.0 c.from.ensures c.loop-b.invariant.value in
    omega (arith, small, e, at_least_read read c.in-Some.tail.now, c.if-value-gt-LARGEST_NUMBER.true)
