use Rattle.std.proofs.Common.{ℕ, ◌+◌, List, take, ap, sym, ◌∙◌, arith}
use Rattle.std.proofs.lemmas.List.{take_rest}
use Rattle.proof_lines.specs.Lines.{Numbered, onto, counting_from, breaks}
use Rattle.proof_lines.proofs.LinesParted.{whole_unbroken, first_unbroken, last_line, last_breaks, ended_line, ended_breaks}
use Rattle.proof_lines.proofs.numbered_lines.LineCursor.line.Goals as goal

pub returns-in-None-clause-lines : goal.returns-in-None-clause-lines
returns-in-None-clause-lines c = last_line c.args.self.number c.args.self.rest.now c.in-None.ensures

pub returns-in-None-clause-last : goal.returns-in-None-clause-last
returns-in-None-clause-last c = omega (arith, last_breaks c.args.self.rest.now c.in-None.ensures)

pub returns-in-Some-clause-lines : goal.returns-in-Some-clause-lines
returns-in-Some-clause-lines c =
    let text = c.args.self.rest.now in
    let k = c.in-Some.end in
    let line : Numbered = record { number = c.args.self.number; text = take k text } in
    ended_line c.args.self.number k text c.in-Some.ensures.0 c.in-Some.ensures.1
    ∙ ap (λ (rest : List ℕ). onto line (counting_from (c.args.self.number + 1) rest)) (sym (take_rest text (k + 1)))

pub returns-in-Some-clause-last : goal.returns-in-Some-clause-last
returns-in-Some-clause-last c =
    let text = c.args.self.rest.now in
    let k = c.in-Some.end in
    let e = ended_breaks k text c.in-Some.ensures.0 c.in-Some.ensures.1 in
    omega (arith, e, ap breaks (take_rest text (k + 1)))

pub returns-in-None-clause-unbroken : goal.returns-in-None-clause-unbroken
returns-in-None-clause-unbroken c = whole_unbroken c.args.self.rest.now c.in-None.ensures

pub returns-in-Some-clause-unbroken : goal.returns-in-Some-clause-unbroken
returns-in-Some-clause-unbroken c = first_unbroken c.in-Some.end c.args.self.rest.now c.in-Some.ensures.0
