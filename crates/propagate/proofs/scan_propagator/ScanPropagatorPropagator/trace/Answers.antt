-- The constraints and ids that are lent stand beside one another, as the entries of the content.
use Rattle.std.proofs.Common.{List, map, ◌∙◌}
use Rattle.std.proofs.lemmas.Result.{IfOk-weaker}
use Rattle.std.specs.FinMap as fin
use Rattle.normal_form.specs.Normal.{NormalConstraint}
use Rattle.propagate.specs.Content.{IsTrace}
use Rattle.propagate.specs.TraceByPlaces.{IsTraceByPlaces}
use Rattle.propagate.proofs.Entries.{content_of, rise, lengths}
use Rattle.propagate.proofs.SeenLists.{seen_same}
use Rattle.propagate.proofs.TracesById.{trace_from}
use Rattle.propagate.proofs.scan_propagator.ScanPropagatorPropagator.trace.Goals as goal

pub of-requires-clause-count : goal.of-requires-clause-count
of-requires-clause-count c =
    let all = c.args.self.now.all.entries in
    let same = seen_same (λ n. n.now) c.as_slice.result.now c.in_ok-constraints.constraints.items (fin.values (content_of all)) c.as_slice.ensures.value c.in_ok-constraints.ensures.constraints in
    lengths (λ n. n.now) c.as_slice.result.now c.as_slice-2.result.now all (rise all c.in_ok-constraints.ensures.rise) same (c.as_slice-2.ensures.value ∙ c.in_ok-ids.ensures)

pub returns-clause-value : goal.returns-clause-value
returns-clause-value c =
    let all = c.args.self.now.all.entries in
    let ns : List NormalConstraint = map (λ n. n.now) c.as_slice.result.now in
    let same = seen_same (λ n. n.now) c.as_slice.result.now c.in_ok-constraints.constraints.items (fin.values (content_of all)) c.as_slice.ensures.value c.in_ok-constraints.ensures.constraints in
    IfOk-weaker c.of.result (IsTraceByPlaces ns c.as_slice-2.result.now c.args.given.now) (IsTrace (content_of all) c.args.given.now)
    (λ t h. trace_from all (rise all c.in_ok-constraints.ensures.rise) ns c.as_slice-2.result.now c.args.given.now t same (c.as_slice-2.ensures.value ∙ c.in_ok-ids.ensures) h) c.of.ensures
