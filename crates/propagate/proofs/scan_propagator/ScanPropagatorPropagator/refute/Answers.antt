-- The constraints that are lent are the content's, and the extra ones.
use Rattle.std.proofs.Common.{◌↔◌, ◌++◌, IsTrue, subst, List, map}
use Rattle.std.proofs.lemmas.Result.{IfOk-weaker}
use Rattle.std.specs.FinMap as fin
use Rattle.normal_form.specs.Normal.{NormalConstraint}
use Rattle.propagate.specs.Chain.{IsRefuted}
use Rattle.propagate.proofs.Entries.{content_of}
use Rattle.propagate.proofs.SeenLists.{seen_same}
use Rattle.propagate.proofs.scan_propagator.ScanPropagatorPropagator.refute.Goals as goal

pub returns-clause-value : goal.returns-clause-value
returns-clause-value c =
    let same = seen_same (λ n. n.now) c.as_slice.result.now c.in_ok-constraints.constraints.items (fin.values (content_of c.args.self.now.all.entries) ++ c.args.extras.now) c.as_slice.ensures.value c.in_ok-constraints.ensures in
    IfOk-weaker c.refuted.result (λ yes. IsTrue yes ↔ IsRefuted (map (λ n. n.now) c.as_slice.result.now))
    (λ yes. IsTrue yes ↔ IsRefuted (fin.values (content_of c.args.self.now.all.entries) ++ c.args.extras.now))
    (λ yes h. subst (λ (ns : List NormalConstraint). IsTrue yes ↔ IsRefuted ns) same h) c.refuted.ensures
