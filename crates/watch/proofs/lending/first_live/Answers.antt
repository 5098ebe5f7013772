use Rattle.std.proofs.Common.{◌≡◌, ◌<◌, false, None, ℕ, get_or, is_some, length, ap, sym, ◌∙◌, rules, arith}
use Rattle.std.proofs.lemmas.List.Elements.{All-get_or}
use Rattle.occurrences.specs.declared.occurrence.Occurrence.{Occurrence}
use Rattle.ledger.specs.Entered.{all_of}
use Rattle.watch.proofs.LentIds.{live_at}
use Rattle.watch.proofs.lending.first_live.Goals as goal

pub get-requires : goal.get-requires
get-requires c =
    let d : Occurrence = record { place = 0; coef = 0 } in
    let low = All-get_or (λ (e : Occurrence). e.place < length c.args.ledger.now.slots) (all_of c.args.entries) c.loop-index.index d (omega (arith, c.loop-index-test.true, c.len-index-end.ensures)) c.requires.places in
    omega (arith, low, c.place.ensures d)

pub loop-index-preserved : goal.loop-index-preserved
loop-index-preserved c =
    let d : Occurrence = record { place = 0; coef = 0 } in
    let there : is_some (get_or c.args.ledger.now.slots c.place.result None) ≡ false = search (rules, c.get.ensures, c.is_some.ensures, c.if-is_some.false) in
    let dead : is_some (get_or c.args.ledger.now.slots (get_or (all_of c.args.entries) c.loop-index.index d).place None) ≡ false = ap (λ (k : ℕ). is_some (get_or c.args.ledger.now.slots k None)) (sym (c.place.ensures d)) ∙ there in
    c.loop-index.invariant ∙ live_at c.args.ledger.now.slots (all_of c.args.entries) c.loop-index.index d false (omega (arith, c.loop-index-test.true, c.len-index-end.ensures)) dead
