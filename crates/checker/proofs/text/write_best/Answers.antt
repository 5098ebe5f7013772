use Rattle.std.proofs.Common.{◌≡◌, length, refl, ap, inr, arith}
use Rattle.linear.specs.Opb.{Opb}
use Rattle.checker.proofs.ValueLine.{none_named}
use Rattle.checker.proofs.text.write_best.Goals as goal

pub returns-then-len : goal.returns-then-len
returns-then-len c =
    let p : Opb = c.in-Ok.problem in
    let names_are : length c.names-names.result.now ≡ length p.names = ap length c.names-names.ensures.names in
    inr (none_named c.args.opb.now c.args.best.now p c.in-Ok.ensures.spells (λ h. omega (arith, c.if-len.true, c.len.ensures.len, names_are, h, c.len-2.ensures)), refl)
