-- An id has the constraint at its place.
use Rattle.std.proofs.Common.{◌≡◌, ◌∙◌, None, ap, get_or, subst, sym}
use Rattle.std.specs.FinMap as map
use Rattle.std.specs.Option.{option_copied}
use Rattle.propagate.specs.Content.{Content}
use Rattle.watch.proofs.NamedPlaces.{got, got_none}
use Rattle.watch.proofs.watch_propagator.WatchPropagatorPropagator.get.Goals as goal

pub returns-in_err-place : goal.returns-in_err-place
returns-in_err-place c =
    let e = c.self.inside in
    let none = got_none e.closure e.places c.args.id (sym c.in_err-place.ensures) in
    ap option_copied c.from_residual.ensures ∙ sym (subst (λ (m : Content). map.get m c.args.id ≡ None) c.self.view_is none)

pub returns : goal.returns
returns c =
    let e = c.self.inside in
    let k = c.in_ok-place.place in
    let it = got e.closure e.places e.ids.items c.args.id k c.self.invariant (sym c.in_ok-place.ensures) in
    c.get-2.ensures ∙ subst (λ (m : Content). get_or e.closure k None ≡ map.get m c.args.id) c.self.view_is it
