use Rattle.std.proofs.Common.{true}
use Rattle.std.proofs.lemmas.Result.{err_from_is_err_and}
use Rattle.proof_text.proofs.ConstraintsRead.{denied_number}
use Rattle.proof_text.proofs.constraint.right_side.Goals as goal

pub returns-in_err-right-clause-denies : goal.returns-in_err-right-clause-denies
returns-in_err-right-clause-denies c =
    let f = c.in_err-right.field-0.0 in
    let p = err_from_is_err_and c.from_residual.result c.from_residual.ensures.1 in
    let first = c.in-Some.ensures.word in
    rw (p.1, p.2) (denied_number f _ first.word c.args.words.now.front c.next_kind.new.words.front first.first (c.in_err-right.ensures.denies true))
