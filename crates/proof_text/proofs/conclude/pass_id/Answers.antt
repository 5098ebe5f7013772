use Rattle.std.proofs.Common.{◌≡◌, true, ◌∷◌, rules}
use Rattle.std.proofs.lemmas.Result.{err_from_is_err_and}
use Rattle.pb_text.specs.Lexeme.{kind_of}
use Rattle.proof_text.specs.Kinds.{is_colon}
use Rattle.proof_text.proofs.ConclusionsRead.{wrong_id, two_passed}
use Rattle.proof_text.proofs.conclude.pass_id.Goals as goal

pub returns-in_err-number-clause-denies : goal.returns-in_err-number-clause-denies
returns-in_err-number-clause-denies c =
    let f = c.in_err-number.field-0.0 in
    let a = c.in-Some.token.text.now in
    let at : c.args.words.now ≡ a ∷ c.take.new.self = search rules in
    let colon : is_colon (kind_of a) ≡ true = search rules in
    let p = err_from_is_err_and c.from_residual.result c.from_residual.ensures.1 in
    rw (p.1, p.2)
    (wrong_id a c.in-Some-take.id.text.now c.args.words.now c.take.new.self c.take-2.new.self f at c.in-Some-take.ensures colon c.in_err-number.ensures.denies)

pub returns-clause-later : goal.returns-clause-later
returns-clause-later c =
    let a = c.in-Some.token.text.now in
    let at : c.args.words.now ≡ a ∷ c.take.new.self = search rules in
    two_passed a c.in-Some-take.id.text.now c.args.words.now c.take.new.self c.take-2.new.self at c.in-Some-take.ensures
