use Rattle.std.proofs.Common.{◌≡◌, ℕ, ◌+◌, ◌-◌, ◌*◌, ◌^◌, length, refl, ap, ◌∙◌}
use Rattle.pb_text.specs.Number.{digits_value}
use Rattle.pb_text.proofs.Digits.{digits_after, value_after}
use Rattle.pb_text.proofs.number.short_size.Goals as goal

pub loop-b-preserved : goal.loop-b-preserved
loop-b-preserved c =
    let e = c.in-Some.ensures.cases.0 in
    let b = c.in-Some.b.now in
    let tail = c.in-Some.tail.now in
    let read : c.in_ok-value.value ≡ c.loop-b.value * 10 + (b - 48) = c.in_ok-value.ensures in
    record {
      digits = digits_after b c.loop-b.rest.now tail e c.loop-b.invariant.digits;
      value = ap (λ (v : ℕ). v * 10 ^ length tail + digits_value tail) read ∙ value_after c.loop-b.value b (b - 48) _ c.loop-b.rest.now tail e refl c.loop-b.invariant.value;
    }
