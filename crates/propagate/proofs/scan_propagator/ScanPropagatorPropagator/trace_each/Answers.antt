-- A whole trace leaves nothing out.
use Rattle.std.proofs.Common.{◌≡◌, ◌∙◌, [], ◌∷◌, List, subst, sym}
use Rattle.std.proofs.lemmas.Result.{IfOk-weaker}
use Rattle.propagate.specs.declared.trace.Decided.{Decided}
use Rattle.propagate.specs.Content.{AreDecided}
use Rattle.propagate.proofs.Entries.{content_of}
use Rattle.propagate.proofs.LastTraced.{whole_last}
use Rattle.propagate.proofs.scan_propagator.ScanPropagatorPropagator.trace_each.Goals as goal

pub returns-clause-decided : goal.returns-clause-decided
returns-clause-decided c =
    let content = content_of c.args.self.now.all.entries in
    let before = c.args.before.now in
    let first = c.args.first in
    let t = c.in_ok-trace.trace in
    let one : Decided = record { literal = first; trace = t } in
    IfOk-weaker c.decided_alone.result (λ v. v.items ≡ one ∷ []) (λ v. AreDecided content before v.items)
    (λ v h. subst (λ (ds : List Decided). AreDecided content before ds) (sym h)
    (c.requires, whole_last content before c.as_slice.result.now first t (c.as_slice.ensures.value ∙ c.in_ok-given.ensures) c.in_ok-trace.ensures.value, tt)) c.decided_alone.ensures
