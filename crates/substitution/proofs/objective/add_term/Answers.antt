use Rattle.std.proofs.Common.{◌≡◌, get_or, ap, ◌∙◌}
use Rattle.std.specs.Prelude.{pos, ◌+ℤ◌}
use Rattle.std.proofs.lemmas.List.{get_or_default}
use Rattle.normal_form.specs.NormalOf.{slope}
use Rattle.substitution.proofs.NetTables.{sum_kept, value_kept, noted}
use Rattle.substitution.proofs.objective.add_term.Goals as goal

pub returns-clause-added : goal.returns-clause-added
returns-clause-added c = λ before are.
    let nets = c.args.nets.now.items in
    let t = c.args.term in
    let old : c.index.result.now ≡ get_or nets (t.var.0) (pos 0) = c.index.ensures ∙ get_or_default nets (t.var.0) c.index.result.now (pos 0) c.requires.place in
    let read = value_kept c.index.result.now (get_or nets (t.var.0) (pos 0)) t.coef old c.requires.room in
    noted before nets t _ c.requires.place (sum_kept (get_or nets (t.var.0) (pos 0)) t.coef c.with_term.result c.requires.room t.negated (c.with_term.ensures ∙ ap (λ z. z +ℤ slope t) read)) are
