use Rattle.std.proofs.Common.{◌≡◌, sym, subst, ◌∙◌}
use Rattle.proof_text.specs.Forms.{are_items, items_of}
use Rattle.proof_text.specs.Next.{IsMetLit}
use Rattle.proof_text.specs.PartsRead.{Takes}
use Rattle.proof_text.proofs.NextWord.{met_literal}
use Rattle.proof_text.proofs.pol.next_item.Goals as goal

pub returns-in-Some-clause-next : goal.returns-in-Some-clause-next
returns-in-Some-clause-next c =
    let k = c.args.table.now in
    subst (λ ws. Takes are_items items_of k ws c.in-Some.item k c.plain_number_item.new.words) c.pass_gap.ensures (c.in-Some.ensures.takes k)

pub returns-in-Some-operation-clause-next : goal.returns-in-Some-operation-clause-next
returns-in-Some-operation-clause-next c =
    let k = c.args.table.now in
    subst (λ ws. Takes are_items items_of k ws c.in-Some-operation.item k c.operation.new.words) (c.plain_number_item.ensures.none c.in_default.is ∙ c.pass_gap.ensures) (c.in-Some-operation.ensures.takes k)

pub returns-in-Some-take_literal-clause-next : goal.returns-in-Some-take_literal-clause-next
returns-in-Some-take_literal-clause-next c =
    let k = c.args.table.now in
    let new = c.lit.new.self in
    let f = c.in-Some-take_literal.ensures in
    let e = c.in_ok-lit.ensures in
    let read = c.in-Some-take_literal.read in
    let here = (c.operation.ensures.none c.in_default-operation.is).0 ∙ c.plain_number_item.ensures.none c.in_default.is ∙ c.pass_gap.ensures in
    let lit : IsMetLit k c.in_ok-lit.lit new f.word = met_literal k new c.in_ok-lit.lit read.literal.negated read.literal.name.now read.said f.word f.passed e.met e.variable e.sign in
    subst (λ ws. Takes are_items items_of k ws c.literal_item.result new c.literal_item.new.words) (sym f.first ∙ here)
    (c.literal_item.ensures f.word k new lit)
