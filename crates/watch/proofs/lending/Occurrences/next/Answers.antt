use Rattle.std.proofs.Common.{◌<◌, length, arith, rules}
use Rattle.std.proofs.lemmas.List.Elements.{All-get_or}
use Rattle.occurrences.specs.declared.occurrence.Occurrence.{Occurrence}
use Rattle.ledger.specs.Entered.{all_of}
use Rattle.watch.proofs.lending.Occurrences.next.Goals as goal

pub bounds-self-inside-place : goal.bounds-self-inside-place
bounds-self-inside-place c =
    let d : Occurrence = record { place = 0; coef = 0 } in
    let low = All-get_or (λ (e : Occurrence). e.place < length c.self.inside.ledger.now.slots) (all_of c.self.inside.entries) c.in_ok-index.index d c.in_ok-index.ensures.found.0 c.self.invariant.2 in
    omega (arith, low, c.place.ensures d, c.self.invariant.1)

pub offset_bounds-self-inside-place : goal.offset_bounds-self-inside-place
offset_bounds-self-inside-place c =
    let low = bounds-self-inside-place c in
    search (rules, low)
