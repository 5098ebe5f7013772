use Rattle.std.proofs.Common.{ap, sym, ◌∙◌}
use Rattle.std.specs.FinSet as set
use Rattle.std.specs.Cmp.{nat_cmp_total}
use Rattle.propagate.proofs.ids.Ids.contains.Goals as goal

pub returns : goal.returns
returns c =
    c.contains.ensures
    ∙ sym (set.contains-from_list nat_cmp_total c.self.inside.members.keys c.args.id)
    ∙ ap (λ s. set.contains s c.args.id) c.self.view_is
