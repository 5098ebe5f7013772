-- At the end no mark is ahead, so all further cells are 0.
use Rattle.std.proofs.Common.{◌≡◌, ℕ, ◌<◌, length, take, arith, ap, ◌∙◌, sym, slice_index_or}
use Rattle.std.specs.Prelude.{pos, unsigned_abs}
use Rattle.std.proofs.lemmas.List.{take_all}
use Rattle.accumulate.specs.Nets.{terms_from, IsAhead}
use Rattle.accumulate.proofs.Taking.{gap}
use Rattle.accumulate.proofs.reading.collect.Goals as goal

zero_unless : (n : ℕ) → (0 < n → ⊥) → n ≡ 0
zero_unless n h = omega (arith, h)

pub returns : goal.returns
returns c =
    let rest : terms_from 0 (take (length c.args.nets.now.items) c.args.nets.now.items) ≡ terms_from 0 (take c.loop-var.next c.args.nets.now.items) = gap c.args.nets.now.items c.loop-var.next (length c.args.nets.now.items) c.loop-var.invariant.room (omega arith) (λ v p q. zero_unless (unsigned_abs (slice_index_or c.args.nets.now.items v (pos 0))) (λ h. let a : IsAhead c.loop-var.var-index c.args.touched.now.items v = c.loop-var.invariant.ahead v p h in omega (arith, a.1, a.2, c.loop-var-test.false, ap length c.deref-var-items.ensures.value))) in
    c.loop-var.invariant.made ∙ sym rest ∙ ap (terms_from 0) (take_all (length c.args.nets.now.items) c.args.nets.now.items (omega arith))
