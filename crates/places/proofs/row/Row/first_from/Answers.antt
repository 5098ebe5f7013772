-- One offset after another.
use Rattle.std.proofs.Common.{◌≡◌, ◌≤◌, ℕ, List, None, subst, arith}
use Rattle.places.specs.Places.{IsFirstPlaced, place_of}
use Rattle.places.proofs.Placed.{found_next, none_found, none_more}
use Rattle.places.proofs.row.Row.first_from.Goals as goal

pub returns-then-index-gt0 : goal.returns-then-index-gt0
returns-then-index-gt0 c =
    let next = c.loop-next.next in
    subst (λ (es : List (ℕ × ℕ)). IsFirstPlaced es c.args.offset next) c.self.view_is
    (found_next c.self.inside.numbers.items c.args.offset next c.index.result.now (omega (arith, c.loop-next.auto.next)) (omega (arith, c.loop-next-test.true, c.len-next-end.ensures, c.self.inside.numbers.ok)) c.index.ensures c.if-index-gt0.true c.loop-next.invariant)

pub loop-next-preserved : goal.loop-next-preserved
loop-next-preserved c =
    none_more c.self.inside.numbers.items c.args.offset c.loop-next.next c.index.result.now (omega (arith, c.loop-next-test.true, c.len-next-end.ensures, c.self.inside.numbers.ok)) c.index.ensures c.if-index-gt0.false c.loop-next.invariant

pub returns : goal.returns
returns c =
    subst (λ (es : List (ℕ × ℕ)). (k : ℕ) → c.args.offset ≤ k → place_of es k ≡ None) c.self.view_is
    (none_found c.self.inside.numbers.items c.args.offset c.loop-next.next (omega (arith, c.loop-next-test.false, c.len-next-end.ensures, c.self.inside.numbers.ok)) c.loop-next.invariant)
