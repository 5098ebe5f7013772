-- One place after another.
use Rattle.std.proofs.Common.{◌≡◌, ◌∙◌, ℕ, MatchOption, get_or, subst, sym, arith}
use Rattle.std.proofs.lemmas.List.{get_or_default}
use Rattle.std.specs.FinMap as map
use Rattle.std.specs.Option.{option_copied}
use Rattle.propagate.specs.Content.{Content}
use Rattle.watch.proofs.MadeAnew.{IsFilledTo, filled, filled_first, filled_more}
use Rattle.watch.proofs.watch_propagator.WatchPropagator.fill_from.Goals as goal

pub loop-place-init : goal.loop-place-init
loop-place-init c = subst (λ (m : Content). IsFilledTo c.other.inside.closure c.other.inside.ids.items m 0) (sym c.requires) (filled_first c.other.inside.closure c.other.inside.ids.items)

pub loop-place-preserved : goal.loop-place-preserved
loop-place-preserved c =
    let e = c.other.inside in
    let place = c.loop-place.place in
    let id : c.index.result.now ≡ get_or e.ids.items place 0 = c.index.ensures ∙ sym (get_or_default e.ids.items place 0 c.index.result.now (omega (arith, c.loop-place-test.true, c.len-place-end.ensures, e.ids.ok))) in
    let more = subst (λ (k : ℕ). MatchOption (option_copied c.get.result) (c.put_copy.new.self ≡ c.loop-place.self) (λ n. c.put_copy.new.self ≡ map.insert c.loop-place.self k n)) id c.in_ok-put_copy.ensures in
    filled_more e.closure e.places e.ids.items c.loop-place.self c.put_copy.new.self place (option_copied c.get.result) c.other.invariant c.loop-place.invariant c.get.ensures more

pub returns : goal.returns
returns c =
    let e = c.other.inside in
    filled e.closure e.places e.ids.items c.loop-place.self c.loop-place.place c.other.invariant (omega (arith, c.loop-place-test.false, c.len-place-end.ensures, c.other.invariant.as_many, e.ids.ok)) c.loop-place.invariant
    ∙ c.other.view_is
