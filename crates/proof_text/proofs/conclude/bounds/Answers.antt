use Rattle.std.proofs.lemmas.Result.{err_from_is_err_and}
use Rattle.proof_text.proofs.ConclusionsRead.{denied_id, denied_upper, denied_upper_hint}
use Rattle.proof_text.proofs.conclude.bounds.Goals as goal

pub returns-in_err-pass_id-clause-denies : goal.returns-in_err-pass_id-clause-denies
returns-in_err-pass_id-clause-denies c =
    let f = c.in_err-pass_id.field-0.0 in
    let p = err_from_is_err_and c.from_residual-in_err-pass_id.result c.from_residual-in_err-pass_id.ensures.1 in
    rw (p.1, p.2) (denied_id f c.in-Some.token.text.now c.args.words c.take.new.self c.in-Some.ensures c.in_err-pass_id.ensures.denies)

pub returns-in_err-upper-clause-denies : goal.returns-in_err-upper-clause-denies
returns-in_err-upper-clause-denies c =
    let f = c.in_err-upper.field-0.0 in
    let p = err_from_is_err_and c.from_residual-in_err-upper.result c.from_residual-in_err-upper.ensures.1 in
    let e = c.in_ok-pass_id.ensures in
    rw (p.1, p.2)
    (denied_upper f c.in-Some.token.text.now c.in-Some-take.token.text.now c.args.words c.take.new.self c.pass_id.new.words c.take-2.new.self
    c.in-Some.ensures e.left c.in-Some-take.ensures e.later c.in_err-upper.ensures.denies)

pub returns-in_err-hint-clause-denies : goal.returns-in_err-hint-clause-denies
returns-in_err-hint-clause-denies c =
    let f = c.in_err-hint.field-0.0 in
    let p = err_from_is_err_and c.from_residual-in_err-hint.result c.from_residual-in_err-hint.ensures.1 in
    let e = c.in_ok-pass_id.ensures in
    rw (p.1, p.2)
    (denied_upper_hint f c.in-Some.token.text.now c.in-Some-take.token.text.now c.args.words c.take.new.self c.pass_id.new.words c.take-2.new.self
    c.in-Some.ensures e.left c.in-Some-take.ensures e.later c.in_err-hint.ensures.denies)
