use Rattle.std.proofs.Common.{ℕ, List, ◌∷◌, ◌++◌, [], ◌+◌, ◌*◌, ◌<◌, take, get_or, sym, subst, arith}
use Rattle.std.proofs.lemmas.List.{take_more, take_all}
use Rattle.linear.specs.ShortNames.{IsShort}
use Rattle.pb_text.proofs.ShortNameRead.{nothing_read, digit_read}
use Rattle.linear.proofs.short_names.number_of_digits.Goals as goal

pub loop-digit-init : goal.loop-digit-init
loop-digit-init c = nothing_read

pub loop-digit-preserved : goal.loop-digit-preserved
loop-digit-preserved c =
    let digits : List ℕ = c.args.digits.now in
    let i : ℕ = c.loop-digit.digit-index in
    let number : ℕ = c.loop-digit.number in
    let d : ℕ = get_or digits i 0 in
    let is : (47 < d) × (d < 58) = (omega (arith, c.if-digit-lt48.false), omega (arith, c.if-digit-gt57.false)) in
    let next = digit_read (take i digits) number d c.loop-digit.invariant is in
    subst (λ xs. IsShort (120 ∷ xs) (number * 11 + c.from.result)) (sym (take_more digits i 0 c.loop-digit-test.true))
    (subst (λ k. IsShort (120 ∷ (take i digits ++ d ∷ [])) (number * 11 + k)) (sym c.from.ensures) next)

pub returns : goal.returns
returns c = subst (λ xs. IsShort (120 ∷ xs) c.loop-digit.number) (take_all c.loop-digit.digit-index c.args.digits.now c.loop-digit-test.false) c.loop-digit.invariant
