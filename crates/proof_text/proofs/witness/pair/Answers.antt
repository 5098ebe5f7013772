use Rattle.std.proofs.Common.{◌≡◌, false, sym, ◌∙◌, rules, arith}
use Rattle.std.proofs.lemmas.Result.{err_from_is_err_and}
use Rattle.proof_text.proofs.SubstitutionsRead.{next_pair, no_image_left, denied_image}
use Rattle.proof_text.proofs.NamesOnLeft.{next_left}
use Rattle.proof_text.proofs.witness.pair.Goals as goal

pub returns-in_default-take-clause-denies : goal.returns-in_default-take-clause-denies
returns-in_default-take-clause-denies c =
    no_image_left c.args.token.text.now c.args.words.now.front (sym c.pass_arrow.ensures.front ∙ c.in_default-take.ensures.word.0)

pub returns-in_err-image-clause-denies : goal.returns-in_err-image-clause-denies
returns-in_err-image-clause-denies c =
    let f = c.in_err-image.field-0.0 in
    let p = err_from_is_err_and c.from_residual-in_err-image.result c.from_residual-in_err-image.ensures.1 in
    rw (p.1, p.2)
    (denied_image f c.args.token.text.now c.in-Some.token.text.now c.args.words.now.front c.take.new.self.front (sym c.pass_arrow.ensures.front ∙ c.in-Some.ensures.word) c.in_err-image.ensures.denies)

pub returns-clause-takes : goal.returns-clause-takes
returns-clause-takes c =
    let e = c.in_ok-lit.ensures in
    let sign : c.in_ok-lit.lit.negated ≡ false = first_of (cc, search rules, grind arith) in
    next_pair c.args.table.now c.lit.new.table c.image.new.table c.args.token.text.now c.in-Some.token.text.now c.args.words.now.front c.take.new.self.front c.in_ok-lit.lit c.in_ok-image.image
    (sym c.pass_arrow.ensures.front ∙ c.in-Some.ensures.word) e.literal sign e.met e.value c.in_ok-image.ensures.read

pub returns-clause-left : goal.returns-clause-left
returns-clause-left c =
    next_left c.args.token.text.now c.in-Some.token.text.now c.args.words.now.front c.take.new.self.front (sym c.pass_arrow.ensures.front ∙ c.in-Some.ensures.word) c.in_ok-image.ensures.read.form
