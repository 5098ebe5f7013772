use Rattle.propagate.proofs.Members.{popped, popped_least}
use Rattle.propagate.proofs.ids.Ids.pop_first.Goals as goal

pub returns-clause-least : goal.returns-clause-least
returns-clause-least c =
    popped_least c.self.inside.members.keys c.pop_first.result c.args.self.now c.self.view_is c.pop_first.ensures.variant c.pop_first.ensures.member c.pop_first.ensures.least

pub returns-clause-removed : goal.returns-clause-removed
returns-clause-removed c =
    popped c.self.inside.members c.pop_first.new.self c.pop_first.result c.args.self.now c.self.view_is c.pop_first.ensures.updates c.pop_first.ensures.unchanged
