use Rattle.proof_text.proofs.pol.item.Goals as goal

pub returns-in_ok-lit-in-Literal-clause-takes : goal.returns-in_ok-lit-in-Literal-clause-takes
returns-in_ok-lit-in-Literal-clause-takes c =
    let e = c.in_ok-lit-in-Literal.ensures in
    c.literal_item.ensures c.args.token.text.now c.args.table.now c.lit.new.table (record { literal = e.literal; value = e.value; known = e.met })
