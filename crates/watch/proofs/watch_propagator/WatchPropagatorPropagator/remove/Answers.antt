-- The id and the constraint at its place go together.
use Rattle.std.proofs.Common.{◌≡◌, ◌∙◌, List, Option, None, ap, get_or, subst, sym}
use Rattle.std.specs.FinMap as map
use Rattle.normal_form.specs.Normal.{NormalConstraint}
use Rattle.propagate.specs.Content.{Content}
use Rattle.watch.specs.Named.{content_at}
use Rattle.watch.proofs.NamedPlaces.{content_fewer, content_without, got, got_none, named_fewer, place_there}
use Rattle.watch.proofs.watch_propagator.WatchPropagatorPropagator.remove.Goals as goal

pub returns-in_err-place-clause-value : goal.returns-in_err-place-clause-value
returns-in_err-place-clause-value c =
    let e = c.self.inside in
    let none = got_none e.closure e.places c.args.id (sym c.in_err-place.ensures.value) in
    c.from_residual.ensures ∙ sym (subst (λ (m : Content). map.get m c.args.id ≡ None) c.self.view_is none)

pub returns-in_err-place-clause-removed : goal.returns-in_err-place-clause-removed
returns-in_err-place-clause-removed c =
    let e = c.self.inside in
    content_without e.closure e.places c.remove.new.self c.args.id c.in_err-place.ensures.taken ∙ ap (λ (m : Content). map.remove m c.args.id) c.self.view_is

pub remove-requires-2 : goal.remove-requires-2
remove-requires-2 c =
    let e = c.self.inside in
    place_there e.closure e.places e.ids.items c.args.id c.in_ok-place.place c.self.invariant (sym c.in_ok-place.ensures.value)

pub invariant_of-self-2 : goal.invariant_of-self-2
invariant_of-self-2 c =
    let e = c.self.inside in
    rw c.remove-2.ensures.slots (named_fewer e.closure e.places c.remove.new.self e.ids.items c.args.id c.in_ok-place.place c.self.invariant (sym c.in_ok-place.ensures.value) c.in_ok-place.ensures.taken)

pub returns-clause-value : goal.returns-clause-value
returns-clause-value c =
    let e = c.self.inside in
    let k = c.in_ok-place.place in
    let it = got e.closure e.places e.ids.items c.args.id k c.self.invariant (sym c.in_ok-place.ensures.value) in
    c.remove-2.ensures.value ∙ subst (λ (m : Content). get_or e.closure k None ≡ map.get m c.args.id) c.self.view_is it

pub returns-clause-removed : goal.returns-clause-removed
returns-clause-removed c =
    let e = c.self.inside in
    let fs = c.remove.new.self in
    ap (λ (os : List (Option NormalConstraint)). content_at os fs) c.remove-2.ensures.slots
    ∙ content_fewer e.closure e.places fs e.ids.items c.args.id c.in_ok-place.place c.self.invariant (sym c.in_ok-place.ensures.value) c.in_ok-place.ensures.taken
    ∙ ap (λ (m : Content). map.remove m c.args.id) c.self.view_is
