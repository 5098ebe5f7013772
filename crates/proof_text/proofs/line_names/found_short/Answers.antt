use Rattle.std.proofs.Common.{◌∙◌}
use Rattle.proof_text.proofs.NamesBehind.{number_before, found_behind}
use Rattle.proof_text.proofs.line_names.found_short.Goals as goal

pub returns-in-Some : goal.returns-in-Some
returns-in-Some c = number_before c.args.file.now c.args.added.now c.args.name.now c.in-Some.var.0 c.in-Some.ensures.found.0 c.in-Some.ensures.found.1

pub behind-requires : goal.behind-requires
behind-requires c = (found_behind c.args.file.now c.args.added.now c.args.name.now c.in_ok-var.var.0 c.requires.table c.in_ok-var.ensures.found.0 c.in_ok-var.ensures.found.1).room

pub returns : goal.returns
returns c =
    let b = found_behind c.args.file.now c.args.added.now c.args.name.now c.in_ok-var.var.0 c.requires.table c.in_ok-var.ensures.found.0 c.in_ok-var.ensures.found.1 in
    (b.known, c.behind.ensures ∙ b.number)
