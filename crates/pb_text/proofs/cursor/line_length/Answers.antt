use Rattle.std.proofs.Common.{ℕ, sym, ◌==◌, ◌≡◌, arith, refl, length, ◌∙◌}
use Rattle.std.proofs.lemmas.List.Sums.{position_or_len_is}
use Rattle.pb_text.proofs.cursor.line_length.Goals as goal

pub returns-then-b-eq10-clause-line : goal.returns-then-b-eq10-clause-line
returns-then-b-eq10-clause-line c =
    sym (position_or_len_is (λ (b : ℕ). b == 10) c.args.text.now c.loop-i.i 0 c.loop-i.auto.i-end c.loop-i.invariant (λ _. rw c.if-b-eq10.true refl))

pub returns-clause-line : goal.returns-clause-line
returns-clause-line c =
    let e : c.loop-i.i ≡ length c.args.text.now = omega (arith, c.loop-i.auto.i-end, c.loop-i-test.false) in
    sym (position_or_len_is (λ (b : ℕ). b == 10) c.args.text.now c.loop-i.i 0 c.loop-i.auto.i-end c.loop-i.invariant (λ l. absurd (omega (arith, l, c.loop-i-test.false))) ∙ e)
