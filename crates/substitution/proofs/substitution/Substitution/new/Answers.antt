-- The map is as large as the list exactly where no variable stands twice, and then it looks up the images.
use Rattle.std.proofs.Common.{arith}
use Rattle.substitution.proofs.Distinct.{once_from_length, twice_from_length, images_from_length, collected_from}
use Rattle.substitution.proofs.substitution.Substitution.new.Goals as goal

pub returns-then-len-clause-none : goal.returns-then-len-clause-none
returns-then-len-clause-none c =
    let images = c.args.images.items in
    let found = c.in_ok-by_variable.by_variable in
    let made = collected_from c.as_slice-2.result.now images found c.as_slice-2.ensures.value c.in_ok-by_variable.ensures in
    λ _. twice_from_length images found made (omega (arith, c.args.images.ok.0))

pub invariant_of-result-2 : goal.invariant_of-result-2
invariant_of-result-2 c =
    let images = c.args.images.items in
    let found = c.in_ok-by_variable.by_variable in
    let made = collected_from c.as_slice-2.result.now images found c.as_slice-2.ensures.value c.in_ok-by_variable.ensures in
    let whole = images_from_length images found made (omega (arith, c.args.images.ok.0)) in
    (once_from_length images found made (omega (arith, c.args.images.ok.0)), rw (c.in_ok-new.ensures.ok) whole)
