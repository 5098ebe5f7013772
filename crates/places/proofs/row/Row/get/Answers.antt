-- The place before the number of the offset.
use Rattle.std.proofs.Common.{◌≡◌, ◌∙◌, ℕ, List, None, subst, sym, arith}
use Rattle.places.specs.Places.{place_of}
use Rattle.places.proofs.Placed.{not_placed, placed_there}
use Rattle.places.proofs.row.Row.get.Goals as goal

pub returns-then-len-offset : goal.returns-then-len-offset
returns-then-len-offset c =
    let ns = c.self.inside.numbers in
    sym (subst (λ (es : List (ℕ × ℕ)). place_of es c.args.offset ≡ None) c.self.view_is (not_placed ns.items c.args.offset (omega (arith, c.if-len-offset.true, c.len.ensures, ns.ok))))

pub returns : goal.returns
returns c =
    let ns = c.self.inside.numbers in
    subst (λ (es : List (ℕ × ℕ)). c.place_before.result ≡ place_of es c.args.offset) c.self.view_is
    (c.place_before.ensures ∙ placed_there ns.items c.args.offset c.index.result.now (omega (arith, c.if-len-offset.false, c.len.ensures, ns.ok)) c.index.ensures)
