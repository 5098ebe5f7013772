use Rattle.std.proofs.Common.{◌≡◌, true, take, ap, subst, ◌∙◌}
use Rattle.std.proofs.lemmas.List.Elements.{All-get_or}
use Rattle.pb_text.specs.Name.{is_name}
use Rattle.linear.specs.Table.{IsTable, has_name, with_name}
use Rattle.linear.proofs.Tables.{fresh_name, name_at, with_name-take}
use Rattle.linear.proofs.names.Names.copy.Goals as goal

pub add-requires-clause-spelled : goal.add-requires-clause-spelled
add-requires-clause-spelled c =
    let table = subst IsTable c.self.view_is c.self.invariant.0 in
    let name = c.as_slice.result.now in
    let here = name_at (λ v. v.items) c.self.inside.set.keys c.as_slice-name-items.result.now c.args.self.now c.name-item.result name c.loop-name.name-index
    c.self.view_is c.as_slice-name-items.ensures.keys c.loop-name-test.true c.name-item.is c.as_slice.ensures.value in
    ap is_name here.name_is ∙ All-get_or (λ n. is_name n ≡ true) c.args.self.now c.loop-name.name-index name here.within table.spelled

pub add-requires-clause-unknown : goal.add-requires-clause-unknown
add-requires-clause-unknown c =
    let table = subst IsTable c.self.view_is c.self.invariant.0 in
    let name = c.as_slice.result.now in
    let here = name_at (λ v. v.items) c.self.inside.set.keys c.as_slice-name-items.result.now c.args.self.now c.name-item.result name c.loop-name.name-index
    c.self.view_is c.as_slice-name-items.ensures.keys c.loop-name-test.true c.name-item.is c.as_slice.ensures.value in
    ap (λ names. has_name names name) c.loop-name.invariant
    ∙ ap (has_name (take c.loop-name.name-index c.args.self.now)) here.name_is
    ∙ fresh_name c.args.self.now c.loop-name.name-index name table.distinct here.within

pub loop-name-preserved : goal.loop-name-preserved
loop-name-preserved c =
    let table = subst IsTable c.self.view_is c.self.invariant.0 in
    let name = c.as_slice.result.now in
    let here = name_at (λ v. v.items) c.self.inside.set.keys c.as_slice-name-items.result.now c.args.self.now c.name-item.result name c.loop-name.name-index
    c.self.view_is c.as_slice-name-items.ensures.keys c.loop-name-test.true c.name-item.is c.as_slice.ensures.value in
    c.in_ok-add.ensures.ok
    ∙ ap (λ names. with_name names name) c.loop-name.invariant
    ∙ ap (with_name (take c.loop-name.name-index c.args.self.now)) here.name_is
    ∙ with_name-take c.args.self.now c.loop-name.name-index name table.distinct here.within
