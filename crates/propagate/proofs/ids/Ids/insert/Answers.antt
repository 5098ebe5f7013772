use Rattle.std.proofs.Common.{ap, ◌∙◌}
use Rattle.std.specs.FinSet as set
use Rattle.propagate.proofs.Members.{inserted}
use Rattle.propagate.proofs.ids.Ids.insert.Goals as goal

pub returns-clause-ok : goal.returns-clause-ok
returns-clause-ok c =
    inserted c.self.inside.members.keys c.insert.new.self.keys c.args.id c.in_ok-insert.ensures.updates.0
    ∙ ap (λ s. set.insert s c.args.id) c.self.view_is
