use Rattle.std.proofs.Common.{sym, ap, ◌∙◌}
use Rattle.database.specs.Database.{removed}
use Rattle.database.proofs.Between.{none_between, one_between}
use Rattle.database.proofs.database.Database.remove_between.Goals as goal

pub loop-id-init : goal.loop-id-init
loop-id-init g c = sym (none_between c.args.self.now c.args.first)

pub loop-id-preserved : goal.loop-id-preserved
loop-id-preserved g c =
    let at = c.loop-id in
    c.remove_id.ensures ∙ ap (removed at.id) at.invariant ∙ one_between c.args.self.now c.args.first at.id at.auto.id
