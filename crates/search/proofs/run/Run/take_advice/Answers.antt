-- The line is a `pol` step that is derived, and can be written.
use Rattle.std.proofs.Common.{sym, subst}
use Rattle.kernel.specs.Held.{HasAtLeast}
use Rattle.proof_log.specs.Kept.{Spares}
use Rattle.proof_log.specs.Log.{ImprovesIfAsked, ImprovesNothing, IsLegal, StandsAlone}
use Rattle.search.proofs.Stepping.{pol_legal}
use Rattle.search.proofs.run.Run.take_advice.Goals as goal

pub take-requires-clause-writable : goal.take-requires-clause-writable
take-requires-clause-writable g c = c.requires.derived.1.writable

pub take-requires-clause-relation : goal.take-requires-clause-relation
take-requires-clause-relation g c = subst HasAtLeast (sym c.requires.derived.1.value.1) tt

pub take-requires-clause-alone : goal.take-requires-clause-alone
take-requires-clause-alone g c = subst StandsAlone (sym c.requires.derived.1.value.1) tt

pub take-requires-clause-other : goal.take-requires-clause-other
take-requires-clause-other g c = subst ImprovesNothing (sym c.requires.derived.1.value.1) tt

pub take-requires-clause-asked : goal.take-requires-clause-asked
take-requires-clause-asked g c = subst (ImprovesIfAsked c.args.self.now.log.problem) (sym c.requires.derived.1.value.1) tt

pub take-requires-clause-spares : goal.take-requires-clause-spares
take-requires-clause-spares g c = subst (Spares c.args.self.now.log) (sym c.requires.derived.1.value.1) tt

pub take-requires-clause-legal : goal.take-requires-clause-legal
take-requires-clause-legal g c =
    let line = c.requires.derived.1.value in
    subst (IsLegal c.args.self.now.log) (sym line.1) (pol_legal c.args.self.now.log line.0 c.requires.derived.0 line.2 c.requires.room)
