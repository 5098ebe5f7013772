use Rattle.std.proofs.Common.{◌≡◌, ◌+◌, ◌++◌, ◌∙◌, ap, arith, take}
use Rattle.linear.specs.Largest.{most_names}
use Rattle.linear.specs.Table.{place_of, IsFullFor}
use Rattle.proof_text.specs.NamesMet.{but_last, met}
use Rattle.proof_text.proofs.NamesBehind.{those_before_stay, met_found}
use Rattle.proof_text.proofs.NamesNumbered.{found_number, beyond_number}
use Rattle.proof_text.proofs.line_names.LineNames.lit.Goals as goal

pub returns-in-Some-clause-met : goal.returns-in-Some-clause-met
returns-in-Some-clause-met c =
    let e = c.in_ok-var.ensures in
    let k = c.self.inside in
    let file = k.file.now in
    let new = c.interned.new.added in
    let name = c.args.literal.name.now in
    let added = rw c.in-Some.is at e.some in
    met_found (file ++ take k.before new) (file ++ take k.before k.added) (file ++ k.added) (file ++ new) k.full name (those_before_stay file k.added new name k.before c.self.invariant.0 added) added c.self.invariant.2 e.table.numbered
    ∙ ap (λ k. met k name) c.self.view_is

pub returns-in-Some-clause-variable : goal.returns-in-Some-clause-variable
returns-in-Some-clause-variable c =
    let e = c.in_ok-var.ensures in
    let k = c.self.inside in
    let added = rw c.in-Some.is at e.some in
    let number = rw c.in-Some.is at e.cases in
    found_number (k.file.now ++ k.added) (k.file.now ++ c.interned.new.added) k.full c.args.literal.name.now (c.in-Some.var.0) added c.self.invariant.2 e.table.numbered number

pub returns-in-None-clause-variable : goal.returns-in-None-clause-variable
returns-in-None-clause-variable c =
    let e = c.in_ok-var.ensures in
    let k = c.self.inside in
    let names = k.file.now ++ k.added in
    let new = k.file.now ++ c.interned.new.added in
    let name = c.args.literal.name.now in
    let full : IsFullFor names most_names name = rw c.in-None.is at e.cases in
    let last : 1 + place_of (but_last new) name ≡ most_names = beyond_number names new name full c.self.invariant.1.numbered (ap (λ ns. k.file.now ++ ns) (e.none c.in-None.is)) in
    omega (arith, last)
