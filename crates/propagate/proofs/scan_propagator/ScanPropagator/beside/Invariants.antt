-- What is there so far is the content, and the extra constraints before this one.
use Rattle.std.proofs.Common.{◌≡◌, ◌++◌, map, take}
use Rattle.std.specs.FinMap as fin
use Rattle.propagate.proofs.Entries.{content_of}
use Rattle.propagate.proofs.scan_propagator.ScanPropagator.beside.Given as goal

abbrev pub invariant-loop-constraint : goal.invariant-loop-constraint
invariant-loop-constraint l = map (λ n. n.now) l.constraints.items ≡ fin.values (content_of l.self.all.entries) ++ take l.constraint-index l.extras
