use Rattle.std.proofs.Common.{◌≡◌, [], ◌∷◌, ◌++◌, refl, ◌∙◌, arith}
use Rattle.std.proofs.lemmas.Grind.{common_steps}
use Rattle.std.proofs.lemmas.Result.{err_from_is_err_and}
use Rattle.proof_text.specs.Forms.{are_integers, integers_of}
use Rattle.proof_text.specs.Next.{IsFirst, IsNumber}
use Rattle.proof_text.proofs.PartsInTurn.{one_more, next_number, denied_left, all_read}
use Rattle.proof_text.proofs.values.numbers.Invariants.{none}
use Rattle.proof_text.proofs.values.numbers.Goals as goal

pub returns-in_err-number-clause-denies : goal.returns-in_err-number-clause-denies
returns-in_err-number-clause-denies c =
    let l = c.loop-numbers in
    let f = c.in_err-number.field-0.0 in
    let p = err_from_is_err_and c.from_residual.result c.from_residual.ensures.1 in
    rw (p.1, p.2) (denied_left are_integers (λ names. integers_of) none c.args.words l.numbers.items none l.words f l.invariant c.in_err-number.ensures.denies)

pub loop-numbers-preserved : goal.loop-numbers-preserved
loop-numbers-preserved c =
    let l = c.loop-numbers in
    let x = c.in-Some.number in
    let rest = c.next_number.new.words in
    let items : c.push.new.self.items ≡ l.numbers.items ++ x ∷ [] = grind (arith, common_steps) in
    let f : IsFirst (IsNumber x) l.words rest = rw c.in-Some.is at c.in_ok-number.ensures.next in
    one_more are_integers (λ names. integers_of) none c.args.words l.numbers.items c.push.new.self.items x none none l.words rest l.invariant
    (next_number none f.word l.words rest x f.first f.passed.integer f.passed.value f.passed.small)
    items

pub returns-clause-values : goal.returns-clause-values
returns-clause-values c =
    let l = c.loop-numbers in
    let ends : l.words ≡ [] = rw c.in_default.is at c.in_ok-number.ensures.next in
    let r = all_read are_integers (λ names. integers_of) none c.args.words l.numbers.items none l.words l.invariant ends (λ n. refl) in
    c.short_lived.ensures ∙ r.parts []
