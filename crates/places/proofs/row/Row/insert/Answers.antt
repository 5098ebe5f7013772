-- The offset has the number behind its place.
use Rattle.std.proofs.Common.{◌≡◌, ◌∙◌, ℕ, List, Option, Some, cond, length, ap, sym, arith}
use Rattle.std.specs.BTreeMap.{is_at}
use Rattle.std.specs.Ordering.{nat_cmp}
use Rattle.std.proofs.lemmas.List.{length-set}
use Rattle.places.specs.Places.{place_of}
use Rattle.places.specs.Placed.{entries_from, one_if_placed}
use Rattle.places.proofs.Placed.{before_next, few_placed, given_number, one_behind, one_counted}
use Rattle.places.proofs.row.Row.insert.Goals as goal

pub overflow_add-self : goal.overflow_add-self
overflow_add-self c = omega (arith, c.self.invariant.0, c.self.invariant.1, few_placed 0 c.self.inside.numbers.items)

pub overflow_sub-self : goal.overflow_sub-self
overflow_sub-self c =
    let ns = c.make_room.new.numbers.items in
    let one = one_counted ns c.args.offset c.index.result.now c.count_before.result c.self.inside.placed c.in_ok-make_room.ensures.long c.index.ensures c.count_before.ensures
    (c.self.invariant.1 ∙ ap (length {A = ℕ × ℕ}) (sym (c.in_ok-make_room.ensures.same 0))) 0 in
    omega (arith, one)

pub invariant_of-self-2 : goal.invariant_of-self-2
invariant_of-self-2 c =
    let ns = c.make_room.new.numbers.items in
    let one = one_counted ns c.args.offset c.index.result.now c.count_before.result c.self.inside.placed c.in_ok-make_room.ensures.long c.index.ensures c.count_before.ensures
    (c.self.invariant.1 ∙ ap (length {A = ℕ × ℕ}) (sym (c.in_ok-make_room.ensures.same 0))) c.in-Some.number in
    let given : one_if_placed c.in-Some.number ≡ 1 = one_behind c.in-Some.number c.args.place c.in-Some.ensures in
    (omega (arith, length-set ns c.args.offset c.in-Some.number, c.in_ok-make_room.ensures.no_longer, c.self.invariant.0, c.requires), omega (arith, one, given))

pub returns-clause-given : goal.returns-clause-given
returns-clause-given c q =
    given_number c.make_room.new.numbers.items c.args.offset c.in-Some.number c.in_ok-make_room.ensures.long q
    ∙ ap (λ (o : Option ℕ). cond (is_at (nat_cmp c.args.offset) q) o (place_of (entries_from 0 c.make_room.new.numbers.items) q)) (before_next c.in-Some.number c.args.place c.in-Some.ensures)
    ∙ ap (λ (es : List (ℕ × ℕ)). cond (is_at (nat_cmp c.args.offset) q) (Some c.args.place) (place_of es q)) (c.in_ok-make_room.ensures.same 0 ∙ c.self.view_is)
