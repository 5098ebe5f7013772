use Rattle.std.proofs.Common.{◌++◌, ◌≤◌, length, arith, length-append}
use Rattle.linear.specs.Largest.{most_names}
use Rattle.proof_text.proofs.NamesBehind.{number_before, number_behind, number_within, table_behind}
use Rattle.proof_text.proofs.line_names.interned.Goals as goal

pub returns-in-Some-find-clause-cases : goal.returns-in-Some-find-clause-cases
returns-in-Some-find-clause-cases c = (number_before c.args.file.now c.args.added.now c.args.name.now c.in-Some-find.var.0 c.in-Some-find.ensures.0 c.in-Some-find.ensures.1).1

pub behind-requires : goal.behind-requires
behind-requires c =
    let e = c.in_ok-var.ensures in
    let number = rw c.in-Some-2.is at e.cases in
    let added = rw c.in-Some-2.is at e.some in
    let all : length (c.args.file.now ++ c.args.added.now) ≤ most_names = c.requires.table.numbered in
    let few = e.few (omega (arith, all, c.len.ensures.len, length-append c.args.file.now c.args.added.now)) in
    number_within c.args.file.now c.args.added.now c.intern_within.new.self c.args.name.now c.in-Some-2.var.0 c.requires.table added
    (omega (arith, all, few, c.len.ensures.len, length-append c.args.file.now c.args.added.now)) number

pub returns-in-Some-2-clause-cases : goal.returns-in-Some-2-clause-cases
returns-in-Some-2-clause-cases c =
    let number = rw c.in-Some-2.is at c.in_ok-var.ensures.cases in
    number_behind c.args.file.now c.args.added.now c.args.name.now c.in-Some-2.var.0 c.behind.result.0 c.in_default-find.ensures number c.behind.ensures

pub returns-in-Some-2-clause-table : goal.returns-in-Some-2-clause-table
returns-in-Some-2-clause-table c =
    let e = c.in_ok-var.ensures in
    let added = rw c.in-Some-2.is at e.some in
    let all : length (c.args.file.now ++ c.args.added.now) ≤ most_names = c.requires.table.numbered in
    let few = e.few (omega (arith, all, c.len.ensures.len, length-append c.args.file.now c.args.added.now)) in
    table_behind c.args.file.now c.args.added.now c.intern_within.new.self c.args.name.now c.requires.table c.requires.name c.in_default-find.ensures added
    (omega (arith, all, few, c.len.ensures.len, length-append c.args.file.now c.args.added.now))
