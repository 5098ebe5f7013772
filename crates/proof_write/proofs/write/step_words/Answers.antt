use Rattle.std.proofs.Common.{◌≡◌, ◌++◌, [], ◌∷◌, codes, sym, ap, ◌∙◌}
use Rattle.std.proofs.lemmas.Result.{on_ok_weaker}
use Rattle.proof_write.specs.Writing.{spaced, red_words, step_words, line_text}
use Rattle.proof_write.proofs.WordsAppended.{two_behind}
use Rattle.proof_write.proofs.write.step_words.Goals as goal

pub returns-in_ok-word-in-RedBegin-clause-ok : goal.returns-in_ok-word-in-RedBegin-clause-ok
returns-in_ok-word-in-RedBegin-clause-ok c =
    let a = c.args.out.now.items in
    let b = c.red-in-RedBegin.new.out.items in
    let d = c.word-in-RedBegin.new.out.items in
    let e = c.word-in-RedBegin-2.new.out.items in
    let names = c.args.names.now in
    on_ok_weaker c.word-in-RedBegin-2.result
    (λ (last : e ≡ d ++ spaced (codes "begin" ∷ [])).
    two_behind a b d e (codes "red") (codes ";") (codes "begin") (red_words names c.in-RedBegin.written c.in-RedBegin.witness) c.in_ok-red-in-RedBegin.ensures.ok c.in_ok-word-in-RedBegin.ensures.ok last
    ∙ ap (λ s. a ++ line_text (step_words names s)) (sym c.in-RedBegin.is))
    c.word-in-RedBegin-2.ensures.ok
