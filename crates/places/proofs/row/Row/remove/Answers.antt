-- The place before the number of the offset, which is 0 from then on.
use Rattle.std.proofs.Common.{◌≡◌, ◌∙◌, ◌<◌, ℕ, List, None, cond, length, ap, subst, sym, arith}
use Rattle.std.specs.BTreeMap.{is_at}
use Rattle.std.specs.Ordering.{nat_cmp}
use Rattle.std.proofs.lemmas.List.{length-set}
use Rattle.places.specs.Places.{place_of}
use Rattle.places.proofs.Placed.{given_number, not_placed, nothing_taken, one_counted, placed_there}
use Rattle.places.proofs.row.Row.remove.Goals as goal

pub returns-then-len-offset-clause-value : goal.returns-then-len-offset-clause-value
returns-then-len-offset-clause-value c =
    let ns = c.self.inside.numbers in
    sym (subst (λ (es : List (ℕ × ℕ)). place_of es c.args.offset ≡ None) c.self.view_is (not_placed ns.items c.args.offset (omega (arith, c.if-len-offset.true, c.len.ensures, ns.ok))))

pub returns-then-len-offset-clause-taken : goal.returns-then-len-offset-clause-taken
returns-then-len-offset-clause-taken c q =
    let ns = c.self.inside.numbers in
    subst (λ (es : List (ℕ × ℕ)). place_of es q ≡ cond (is_at (nat_cmp c.args.offset) q) None (place_of es q)) c.self.view_is
    (nothing_taken ns.items c.args.offset (omega (arith, c.if-len-offset.true, c.len.ensures, ns.ok)) q)

pub overflow_sub-self : goal.overflow_sub-self
overflow_sub-self c =
    let ns = c.self.inside.numbers in
    let there : c.args.offset < length ns.items = omega (arith, c.if-len-offset.false, c.len.ensures, ns.ok) in
    omega (arith, one_counted ns.items c.args.offset c.index-number.result.now c.count_before.result c.self.inside.placed there c.index-number.ensures c.count_before.ensures c.self.invariant.1 0)

pub invariant_of-self : goal.invariant_of-self
invariant_of-self c =
    let ns = c.self.inside.numbers in
    let there : c.args.offset < length ns.items = omega (arith, c.if-len-offset.false, c.len.ensures, ns.ok) in
    let one = one_counted ns.items c.args.offset c.index-number.result.now c.count_before.result c.self.inside.placed there c.index-number.ensures c.count_before.ensures c.self.invariant.1 0 in
    (omega (arith, length-set ns.items c.args.offset 0, c.self.invariant.0), omega (arith, one))

pub returns-clause-value : goal.returns-clause-value
returns-clause-value c =
    let ns = c.self.inside.numbers in
    subst (λ (es : List (ℕ × ℕ)). c.place_before.result ≡ place_of es c.args.offset) c.self.view_is
    (c.place_before.ensures ∙ placed_there ns.items c.args.offset c.index-number.result.now (omega (arith, c.if-len-offset.false, c.len.ensures, ns.ok)) c.index-number.ensures)

pub returns-clause-taken : goal.returns-clause-taken
returns-clause-taken c q =
    let ns = c.self.inside.numbers in
    given_number ns.items c.args.offset 0 (omega (arith, c.if-len-offset.false, c.len.ensures, ns.ok)) q
    ∙ ap (λ (es : List (ℕ × ℕ)). cond (is_at (nat_cmp c.args.offset) q) None (place_of es q)) c.self.view_is
