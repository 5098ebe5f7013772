use Rattle.std.proofs.Common.{◌≡◌, true, rules}
use Rattle.std.proofs.lemmas.Result.{err_from_is_err_and}
use Rattle.pb_text.specs.Lexeme.{kind_of}
use Rattle.proof_text.specs.Kinds.{is_colon}
use Rattle.proof_text.proofs.ConclusionsRead.{hint_read, denied_hint}
use Rattle.proof_text.proofs.conclude.hint.Goals as goal

pub returns-in_err-lits-clause-denies : goal.returns-in_err-lits-clause-denies
returns-in_err-lits-clause-denies c =
    let f = c.in_err-lits.field-0.0 in
    let p = err_from_is_err_and c.from_residual.result c.from_residual.ensures.1 in
    rw (p.1, p.2) (denied_hint f c.in-Some.token.text.now c.args.words c.take.new.self c.in-Some.ensures c.in_err-lits.ensures.denies)

pub returns-clause-read : goal.returns-clause-read
returns-clause-read c =
    let a = c.in-Some.token.text.now in
    let colon : is_colon (kind_of a) ≡ true = search rules in
    hint_read c.args.table.now c.lits.new.table a c.args.words c.take.new.self c.in_ok-lits.field-0 c.in-Some.ensures colon c.in_ok-lits.ensures.read
