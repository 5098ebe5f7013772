use Rattle.std.proofs.Common.{◌≡◌, [], ◌∷◌, ◌++◌, arith}
use Rattle.std.proofs.lemmas.Grind.{common_steps}
use Rattle.std.proofs.lemmas.Result.{err_from_is_err_and}
use Rattle.proof_text.specs.Forms.{are_literals, literals_of}
use Rattle.proof_text.specs.Next.{IsFirst, IsMetLit}
use Rattle.proof_text.proofs.PartsInTurn.{one_more, next_lit, denied_left}
use Rattle.proof_text.proofs.values.lits.Goals as goal

pub returns-in_err-lit-clause-denies : goal.returns-in_err-lit-clause-denies
returns-in_err-lit-clause-denies c =
    let l = c.loop-lits in
    let f = c.in_err-lit.field-0.0 in
    let p = err_from_is_err_and c.from_residual.result c.from_residual.ensures.1 in
    rw (p.1, p.2) (denied_left are_literals literals_of c.args.table.now c.args.words l.lits.items l.table l.words f l.invariant c.in_err-lit.ensures.denies)

pub loop-lits-preserved : goal.loop-lits-preserved
loop-lits-preserved c =
    let l = c.loop-lits in
    let x = c.in-Some.lit in
    let k = c.next_lit.new.table in
    let rest = c.next_lit.new.words in
    let items : c.push.new.self.items ≡ l.lits.items ++ x ∷ [] = grind (arith, common_steps) in
    let f : IsFirst (IsMetLit l.table x k) l.words rest = rw c.in-Some.is at c.in_ok-lit.ensures.next in
    one_more are_literals literals_of c.args.table.now c.args.words l.lits.items c.push.new.self.items x l.table k l.words rest l.invariant
    (next_lit l.table k f.word l.words rest x f.first f.passed.literal f.passed.known f.passed.value)
    items
