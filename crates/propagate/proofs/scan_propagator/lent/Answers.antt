-- The entries of a map rise by their ids.
use Rattle.std.proofs.Common.{◌++◌, map, List, sym, ◌∙◌, ap, append-nil}
use Rattle.normal_form.specs.Normal.{NormalConstraint}
use Rattle.propagate.proofs.Entries.{rise, values_are}
use Rattle.propagate.proofs.scan_propagator.lent.Goals as goal

pub returns-clause-constraints : goal.returns-clause-constraints
returns-clause-constraints c =
    let all = c.args.all.now.entries in
    let whole = c.loop-constraint.invariant in
    let ended = (c.in-None.ensures.steps).0 in
    sym (append-nil _) ∙ sym (ap (λ (rest : List NormalConstraint). map (λ n. n.now) c.loop-constraint.constraints.items ++ rest) ended) ∙ whole ∙ sym (values_are all (rise all c.len.ensures.ordered))
