-- One literal more, with its reason.
use Rattle.std.proofs.Common.{◌≡◌, ◌∙◌, ◌+◌, ◌<◌, false, List, arith, get_or, ap, sym, length}
use Rattle.std.proofs.lemmas.List.{get_or_default}
use Rattle.linear.specs.declared.term.Lit.{Lit}
use Rattle.ledger.specs.Ledgers.{shown}
use Rattle.watch.proofs.ToldTail.{tail_more}
use Rattle.watch.proofs.continuing.tell_behind.Goals as goal

abbrev none : Lit
none = record { var = record { 0 = 0 }; negated = false }

pub loop-index-preserved : goal.loop-index-preserved
loop-index-preserved c =
    let s = c.args.ledger.now in
    let k = c.loop-index.index in
    let l : Lit = get_or c.literals-literals.result.now k none in
    let low : k < length s.assigned = omega (arith, c.loop-index-test.true, c.len-end.ensures.value) in
    let is : get_or s.assigned k l ≡ l = get_or_default s.assigned k l none low ∙ ap (λ (xs : List Lit). get_or xs k none) (sym c.literals-literals.ensures.assigned) in
    rw c.in_ok-push.ensures.items (tail_more (shown s.slots) s.assigned s.reasons (c.args.last + 1) k c.in-Some.place l c.loop-index.steps.items c.len-end.ensures.reasons low is (sym c.reason.ensures ∙ c.in-Some.is) c.loop-index.invariant.0 c.loop-index.invariant.1)
