-- One entry after another.
use Rattle.std.proofs.Common.{subst, sym, ◌∙◌}
use Rattle.propagate.proofs.Entries.{Entries, rise}
use Rattle.propagate.proofs.Gathered.{IsGathering, gathering_first, gathering_more, gathered}
use Rattle.propagate.proofs.scan_propagator.ScanPropagatorPropagator.with_occurrences.Goals as goal

pub loop-id-init : goal.loop-id-init
loop-id-init c =
    let all : Entries = c.args.self.now.all.entries in
    subst (λ (rest : Entries). IsGathering all c.args.literal c.args.ids rest c.args.ids) (sym (c.into_iter-id-iterator.ensures.into_iter_gives ∙ c.iter-id-items.ensures.rest))
    (gathering_first all c.args.literal c.args.ids (rise all c.iter-id-items.ensures.ordered))

pub loop-id-preserved : goal.loop-id-preserved
loop-id-preserved c =
    let all : Entries = c.args.self.now.all.entries in
    let before = c.args.ids in
    gathering_more all c.args.literal before (c.in-Some.id.now, c.in-Some.constraint.now) c.next.new.self c.loop-id.gathered c.add_if_it_has.new.ids
    (subst (λ (rest : Entries). IsGathering all c.args.literal before rest c.loop-id.gathered) c.in-Some.ensures.steps c.loop-id.invariant)
    c.in_ok-add_if_it_has.ensures.there c.in_ok-add_if_it_has.ensures.absent

pub returns-clause-added : goal.returns-clause-added
returns-clause-added c =
    let all : Entries = c.args.self.now.all.entries in
    gathered all c.args.literal c.args.ids c.loop-id.gathered
    (subst (λ (rest : Entries). IsGathering all c.args.literal c.args.ids rest c.loop-id.gathered) (c.in-None.ensures.steps).0 c.loop-id.invariant)
