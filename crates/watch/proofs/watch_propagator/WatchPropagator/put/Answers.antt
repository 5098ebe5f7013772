-- The id and the constraint at the next place come together, or neither does.
use Rattle.std.proofs.Common.{◌≡◌, ◌∙◌, ℕ, List, Option, None, ap, length, subst, sym, arith}
use Rattle.std.specs.FinMap as map
use Rattle.normal_form.specs.Normal.{NormalConstraint}
use Rattle.propagate.specs.Content.{Content}
use Rattle.watch.specs.Named.{content_at}
use Rattle.watch.proofs.NamedPlaces.{content_again, content_more, named_again, named_more, places_again}
use Rattle.watch.proofs.watch_propagator.WatchPropagator.put.Goals as goal

pub invariant_of-self-in-Err : goal.invariant_of-self-in-Err
invariant_of-self-in-Err c =
    let e = c.self.inside in
    let free = subst (λ (m : Content). map.get m c.args.id ≡ None) (sym c.self.view_is) c.requires in
    let same = places_again e.closure e.places c.insert.new.self c.remove.new.self c.args.id c.len-place.result free c.in_ok-insert.ensures.given c.remove.ensures.taken in
    rw (c.in_ok-reserve.ensures.items, c.in-Err.ensures.err) (named_again e.closure e.places c.remove.new.self e.ids.items same c.self.invariant)

pub returns-in-Err-clause-err : goal.returns-in-Err-clause-err
returns-in-Err-clause-err c =
    let e = c.self.inside in
    let gs = c.remove.new.self in
    let free = subst (λ (m : Content). map.get m c.args.id ≡ None) (sym c.self.view_is) c.requires in
    let same = places_again e.closure e.places c.insert.new.self gs c.args.id c.len-place.result free c.in_ok-insert.ensures.given c.remove.ensures.taken in
    ap (λ (os : List (Option NormalConstraint)). content_at os gs) c.in-Err.ensures.err ∙ content_again e.closure e.places gs same ∙ c.self.view_is

pub invariant_of-self-2 : goal.invariant_of-self-2
invariant_of-self-2 c =
    let e = c.self.inside in
    let free = subst (λ (m : Content). map.get m c.args.id ≡ None) (sym c.self.view_is) c.requires in
    let last : c.len-place.result ≡ length e.closure = omega (arith, c.len-place.ensures, ap (length {A = ℕ}) c.in_ok-reserve.ensures.items, c.self.invariant.as_many, c.reserve.new.self.ok) in
    rw (c.push_reserved.ensures.items, c.in_ok-reserve.ensures.items, c.in-Ok.ensures.ok) (named_more e.closure e.places c.insert.new.self e.ids.items c.args.id c.len-place.result c.args.constraint last c.self.invariant free c.in_ok-insert.ensures.given)

pub returns-clause-ok : goal.returns-clause-ok
returns-clause-ok c =
    let e = c.self.inside in
    let fs = c.insert.new.self in
    let last : c.len-place.result ≡ length e.closure = omega (arith, c.len-place.ensures, ap (length {A = ℕ}) c.in_ok-reserve.ensures.items, c.self.invariant.as_many, c.reserve.new.self.ok) in
    ap (λ (os : List (Option NormalConstraint)). content_at os fs) c.in-Ok.ensures.ok
    ∙ content_more e.closure e.places fs e.ids.items c.args.id c.len-place.result c.args.constraint last c.self.invariant c.in_ok-insert.ensures.given
    ∙ ap (λ (m : Content). map.insert m c.args.id c.args.constraint) c.self.view_is
