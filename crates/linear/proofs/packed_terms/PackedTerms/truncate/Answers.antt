use Rattle.std.proofs.Common.{ap, sym, take, map, ◌∙◌}
use Rattle.std.proofs.lemmas.List.{take-map}
use Rattle.linear.specs.Packed.{term_of}
use Rattle.linear.proofs.packed_terms.PackedTerms.truncate.Goals as goal

pub returns : goal.returns
returns c =
    ap (map (term_of c.self.inside.large.items)) c.truncate.ensures.items
    ∙ sym (take-map (term_of c.self.inside.large.items) c.args.len c.self.inside.packed.items)
    ∙ ap (take c.args.len) c.self.view_is
