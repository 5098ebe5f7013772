-- The constraints that are lent are the content's.
use Rattle.std.proofs.Common.{subst, List, map}
use Rattle.std.proofs.lemmas.Result.{IfOk-weaker}
use Rattle.std.specs.FinMap as fin
use Rattle.normal_form.specs.Normal.{NormalConstraint}
use Rattle.propagate.specs.Reach.{IsReach}
use Rattle.propagate.proofs.Entries.{content_of}
use Rattle.propagate.proofs.SeenLists.{seen_same}
use Rattle.propagate.proofs.scan_propagator.ScanPropagatorPropagator.extend.Goals as goal

pub returns-clause-value : goal.returns-clause-value
returns-clause-value c =
    let same = seen_same (λ n. n.now) c.as_slice.result.now c.in_ok-constraints.constraints.items (fin.values (content_of c.args.self.now.all.entries)) c.as_slice.ensures.value c.in_ok-constraints.ensures.constraints in
    IfOk-weaker c.of.result (IsReach (map (λ n. n.now) c.as_slice.result.now) c.args.given.now) (IsReach (fin.values (content_of c.args.self.now.all.entries)) c.args.given.now)
    (λ r h. subst (λ (ns : List NormalConstraint). IsReach ns c.args.given.now r) same h) c.of.ensures
